use Rattle.std.proofs.Common.{◌≡◌, length}
use Rattle.api_listing.specs.Nearest.{first_declared}
use Rattle.class_text.proofs.library.Library.first_declared.Given as goal

abbrev pub invariant-loop-left : goal.invariant-loop-left
invariant-loop-left l = first_declared l.self.methods l.id.name l.id.desc l.left ≡ first_declared l.self.methods l.id.name l.id.desc l.classes

abbrev pub decreases-loop-left : goal.decreases-loop-left
decreases-loop-left l = length l.left
