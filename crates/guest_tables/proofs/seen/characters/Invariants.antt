use Rattle.std.proofs.Common.{◌≡◌, ◌+◌, ◌≤◌, length}
use Rattle.guest_model.specs.Builtins.{characters}
use Rattle.guest_tables.proofs.seen.characters.Given as goal

abbrev pub invariant-loop-left : goal.invariant-loop-left
invariant-loop-left l = (l.count + characters l.left ≡ characters l.fn.text) × (l.count + length l.left ≤ length l.fn.text)

abbrev pub decreases-loop-left : goal.decreases-loop-left
decreases-loop-left l = length l.left
