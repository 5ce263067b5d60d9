use Rattle.std.proofs.Common.{Some, arith, subst, sym}
use Rattle.conspec_tree.specs.declared.types.Phase.TheVariants.{Before}
use Rattle.block_template.proofs.Policies.{few_arguments}
use Rattle.block_template.proofs.Sizes.{HasFewArguments}
use Rattle.block_template.proofs.blocks.locals_used.Goals as goal

pub overflow_cast-arguments : goal.overflow_cast-arguments
overflow_cast-arguments c =
    let few : HasFewArguments (Some c.in-Some.clause.now) =
    subst HasFewArguments (sym c.in-Some.ensures) (few_arguments c.args.policy.now c.args.method Before c.requires) in
    omega (arith, c.len.ensures, few)
