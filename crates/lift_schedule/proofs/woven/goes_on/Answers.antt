use Rattle.std.proofs.Common.{◌∙◌, sym, ap}
use Rattle.mon_base.specs.Reading.{◌>>=◌}
use Rattle.lift_schedule.specs.Running.{climbed, woven_stepped}
use Rattle.lift_schedule.specs.Standing.{table_goes}
use Rattle.lift_schedule.proofs.Climbing.{goes_no_more, goes_once_more, step_is}
use Rattle.lift_schedule.proofs.woven.goes_on.Goals as goal

pub returns-in-Ok : goal.returns-in-Ok
returns-in-Ok g c =
    step_is (g.S.Steps.program c.args.woven.now) c.args.index (table_goes c.args.way c.args.standings.now) c.args.number c.args.left c.args.run.now
    c.requires (sym c.if-not-goes.ensures) c.plain_step.result c.plain_step.ensures _ c.in-Ok.ensures

pub returns-in-Err : goal.returns-in-Err
returns-in-Err g c = λ other.
    step_is (g.S.Steps.program c.args.woven.now) c.args.index (table_goes c.args.way c.args.standings.now) c.args.number c.args.left c.args.run.now
    c.requires (sym c.if-not-goes.ensures) c.plain_step.result c.plain_step.ensures _ (c.in-Err.ensures other)
