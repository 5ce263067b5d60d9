use Rattle.std.proofs.Common.{◌≡◌, length}
use Rattle.std.specs.List.{list_any}
use Rattle.type_infer.specs.Unmade.{is_unmade}
use Rattle.type_infer.proofs.leaving.has_unmade.Given as goal

abbrev pub invariant-loop-left : goal.invariant-loop-left
invariant-loop-left l = list_any is_unmade l.left ≡ list_any is_unmade l.fn.types

abbrev pub decreases-loop-left : goal.decreases-loop-left
decreases-loop-left l = length l.left
