use Rattle.std.proofs.Common.{◌≡◌, ◌++◌, length}
use Rattle.unit_tests.specs.Digits.{encoded}
use Rattle.unit_tests.proofs.bytes.push_line.Given as goal

abbrev pub invariant-loop-left : goal.invariant-loop-left
invariant-loop-left l = l.bytes.items ++ encoded l.left ≡ l.fn.bytes.items ++ encoded l.line

abbrev pub decreases-loop-left : goal.decreases-loop-left
decreases-loop-left l = length l.left
