use Rattle.std.proofs.Common.{◌≡◌, [], ◌∷◌, ◌++◌, length}
use Rattle.block_logic.specs.Borrowed.{term_borrowed}
use Rattle.block_logic.specs.Terms.{same_terms}
use Rattle.block_logic.proofs.terms.same_pushed.Given as goal

abbrev pub invariant-loop-below : goal.invariant-loop-below
invariant-loop-below l = same_terms (l.below ++ term_borrowed l.top ∷ []) l.others ≡ same_terms (l.fn.below ++ term_borrowed l.top ∷ []) l.fn.others

abbrev pub decreases-loop-below : goal.decreases-loop-below
decreases-loop-below l = length l.below
