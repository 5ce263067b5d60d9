use Rattle.std.proofs.Common.{◌≡◌, sym, subst}
use Rattle.std.specs.Prelude.{IfOk}
use Rattle.block_template.specs.Blocks.{Planned, plan_of}
use Rattle.class_weaving.specs.Woven.{AllLocalsFit, plan_sites}
use Rattle.lift_schedule.specs.Standing.{table_of}
use Rattle.lift_schedule.proofs.lifting.standings_of.Goals as goal

pub new-requires-clause-locals : goal.new-requires-clause-locals
new-requires-clause-locals c =
    subst (λ (p : Planned). AllLocalsFit (plan_of p.policy p.mode) c.args.client.now) (sym c.new-plan.ensures.is) c.requires.locals

pub returns : goal.returns
returns c =
    subst (λ (p : Planned). IfOk c.new.result (λ table. table ≡ table_of (plan_sites (plan_of p.policy p.mode)) c.args.client.now)) c.new-plan.ensures.is c.new.ensures
