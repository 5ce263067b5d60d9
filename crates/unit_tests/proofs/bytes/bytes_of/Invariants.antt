use Rattle.std.proofs.Common.{◌≡◌, take}
use Rattle.std.specs.List.{flat_map}
use Rattle.unit_tests.specs.Digits.{encoded}
use Rattle.unit_tests.proofs.bytes.bytes_of.Given as goal

abbrev pub invariant-loop-line : goal.invariant-loop-line
invariant-loop-line l = l.bytes.items ≡ flat_map (λ line. encoded line.now) (take l.line-index l.lines)
