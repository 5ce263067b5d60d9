use Rattle.std.proofs.Common.{◌≡◌, length}
use Rattle.api_shelf.specs.Plain.{result_text}
use Rattle.api_shelf.proofs.plain.result_text.Given as goal

abbrev pub invariant-loop-left : goal.invariant-loop-left
invariant-loop-left l = result_text l.left ≡ result_text l.desc

abbrev pub decreases-loop-left : goal.decreases-loop-left
decreases-loop-left l = length l.left
