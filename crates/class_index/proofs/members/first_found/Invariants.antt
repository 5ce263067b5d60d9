use Rattle.std.proofs.Common.{◌≡◌, length}
use Rattle.class_index.specs.Index.{found_in}
use Rattle.bytecode_model.specs.Members.{first_found}
use Rattle.class_index.proofs.members.first_found.Given as goal

abbrev pub invariant-loop-left : goal.invariant-loop-left
invariant-loop-left l = first_found (found_in l.declared) l.fn.id l.left ≡ first_found (found_in l.declared) l.fn.id l.order

abbrev pub decreases-loop-left : goal.decreases-loop-left
decreases-loop-left l = length l.left
