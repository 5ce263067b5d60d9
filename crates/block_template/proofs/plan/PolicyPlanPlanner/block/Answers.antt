use Rattle.std.proofs.Common.{◌+◌, ◌<◌, ◌^◌, sym, subst}
use Rattle.std.proofs.lemmas.Result.{IfOk-weaker}
use Rattle.bytecode_model.specs.declared.program.Target.{Target}
use Rattle.bytecode_model.specs.declared.program.Target.TheVariants.{ApiMethod}
use Rattle.offset_patch.specs.Fits.{IsSite}
use Rattle.block_template.specs.Blocks.{Planned, site_locals}
use Rattle.block_template.proofs.Goods.{site_fits}
use Rattle.block_template.proofs.plan.PolicyPlanPlanner.block.Goals as goal

pub returns-in-ApiMethod-clause-fits : goal.returns-in-ApiMethod-clause-fits
returns-in-ApiMethod-clause-fits c =
    let base = c.args.base in
    let policy = c.self.inside.policy.now in
    let Few : Planned → Target → Type 0 = λ planned ref. base + site_locals planned.policy ref < 2 ^ 16 in
    let few = subst (λ planned. Few planned (ApiMethod c.in-ApiMethod.method)) (sym c.self.view_is) (subst (Few c.args.self.now) c.in-ApiMethod.is c.requires) in
    let fits = site_fits policy c.self.inside.mode base (ApiMethod c.in-ApiMethod.method) c.self.invariant.0 c.self.invariant.1 few in
    IfOk-weaker c.block.result _ IsSite (λ made is. subst IsSite (sym is) fits) c.block.ensures.is
