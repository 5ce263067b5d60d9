-- The items so far, and after them those of the methods that the other clauses name.
use Rattle.std.proofs.Common.{◌≡◌, ℕ, length}
use Rattle.std.specs.BTreeMap.{get}
use Rattle.std.specs.Option.{option_or}
use Rattle.std.specs.Ordering.{nat_cmp}
use Rattle.block_template.specs.Made.{known_items}
use Rattle.block_template.proofs.made.items_made.Given as goal

abbrev pub invariant-loop-left : goal.invariant-loop-left
invariant-loop-left l =
    (q : ℕ) → option_or (get nat_cmp l.made q) (known_items l.policy l.mode l.left q) ≡ known_items l.policy l.mode l.policy.clauses q

abbrev pub decreases-loop-left : goal.decreases-loop-left
decreases-loop-left l = length l.left
