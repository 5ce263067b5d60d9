use Rattle.std.proofs.Common.{◌≡◌, ◌≢◌, IfErr, IsOk, List, None, Some, sym, subst, FitsSigned}
use Rattle.std.specs.Int.{w32}
use Rattle.std.specs.List.{AllByRecursion}
use Rattle.mon_base.specs.Answer.{Answers}
use Rattle.conspec_tree.specs.declared.types.Var.{Var}
use Rattle.offset_patch.specs.Plan.{IsGood, Plan}
use Rattle.offset_patch.specs.Sizes.{first_unfit}
use Rattle.offset_patch.specs.declared.fault.SpliceFault.TheVariants.{Memory}
use Rattle.class_weaving.specs.Sizes.{program_sizes}
use Rattle.class_weaving.specs.Woven.{woven}
use Rattle.block_template.specs.Blocks.{Planned, plan_of}
use Rattle.block_template.specs.Pushing.{bools_in}
use Rattle.block_template.proofs.Goods.{firsts_fit}
use Rattle.woven_linking.proofs.inlining.woven.Goals as goal

abbrev plan_in : Planned → Plan
plan_in planned = plan_of planned.policy planned.mode

pub weave-requires-clause-good : goal.weave-requires-clause-good
weave-requires-clause-good c =
    let plan = plan_of c.args.policy.now c.args.mode in
    let good = subst (λ vars. IsGood (bools_in vars) plan) (sym c.as_slice.ensures) c.new-plan.ensures.good in
    subst (λ planned. IsGood (bools_in c.as_slice.result.now) (plan_in planned)) (sym c.new-plan.ensures.is) good

pub returns-clause-exact : goal.returns-clause-exact
returns-clause-exact c =
    let Exact : Planned → List Var → Type 0 = λ planned vars. Answers Memory c.weave.result (woven c.args.program.now (plan_in planned) vars) in
    subst (Exact (record { policy = c.args.policy.now; mode = c.args.mode })) c.as_slice.ensures
    (subst (λ planned. Exact planned c.as_slice.result.now) c.new-plan.ensures.is c.weave.ensures.exact)

pub returns-clause-fits : goal.returns-clause-fits
returns-clause-fits c =
    let Fits : Planned → Type 0 = λ planned. IsOk c.weave.result → first_unfit (program_sizes c.args.program.now (plan_in planned)) ≡ None in
    subst Fits c.new-plan.ensures.is c.weave.ensures.fits

pub returns-clause-unfit : goal.returns-clause-unfit
returns-clause-unfit c =
    let Unfit : Planned → Type 0 = λ planned. IfErr c.weave.result (λ fault. fault ≢ Memory
    → first_unfit (program_sizes c.args.program.now (plan_in planned)) ≡ Some fault) in
    subst Unfit c.new-plan.ensures.is c.weave.ensures.unfit

pub returns-clause-encodes : goal.returns-clause-encodes
returns-clause-encodes c =
    let Fit : List Var → Type 0 = AllByRecursion (λ (v : Var). FitsSigned w32 v.first) in
    c.weave.ensures.encodes (subst Fit (sym c.as_slice.ensures) (firsts_fit c.args.policy.now c.requires.policy))
