use Rattle.std.proofs.Common.{◌≡◌, length}
use Rattle.bytecode_model.specs.Spans.{handlers_at}
use Rattle.bytecode_model.proofs.exception_table.first_at.Given as goal

abbrev pub invariant-loop-left : goal.invariant-loop-left
invariant-loop-left l = handlers_at l.table l.places ≡ handlers_at l.table l.left

abbrev pub decreases-loop-left : goal.decreases-loop-left
decreases-loop-left l = length l.left
