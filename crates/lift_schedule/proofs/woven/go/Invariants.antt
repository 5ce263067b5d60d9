use Rattle.std.proofs.Common.{◌≡◌}
use Rattle.lift_schedule.specs.Running.{climbed}
use Rattle.lift_schedule.specs.Standing.{table_goes, thread_count}
use Rattle.lift_schedule.proofs.woven.go.Given as goal

abbrev pub invariant-loop-left : goal.invariant-loop-left
invariant-loop-left g l =
    climbed (g.S.Steps.program l.woven) (table_goes l.way l.standings) l.index l.number l.left l.run
    ≡ climbed (g.S.Steps.program l.woven) (table_goes l.way l.standings) l.index l.number (thread_count l.standings l.fn.run.machine l.number) l.fn.run

abbrev pub decreases-loop-left : goal.decreases-loop-left
decreases-loop-left g l = l.left
