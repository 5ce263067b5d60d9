use Rattle.std.proofs.Common.{◌≡◌, drop, length}
use Rattle.block_logic.specs.Borrowed.{terms_borrowed}
use Rattle.block_logic.specs.Terms.{same_terms}
use Rattle.block_logic.proofs.terms.same_terms.Given as goal

abbrev pub invariant-loop-at : goal.invariant-loop-at
invariant-loop-at l = record {
  same : same_terms (drop l.at (terms_borrowed l.terms)) (drop l.at (terms_borrowed l.others)) ≡ same_terms (terms_borrowed l.terms) (terms_borrowed l.others);
  count : l.count ≡ length (terms_borrowed l.terms);
  other : l.count ≡ length (terms_borrowed l.others);
}
