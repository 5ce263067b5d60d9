use Rattle.std.proofs.Common.{◌≡◌, length}
use Rattle.block_logic.specs.Terms.{same_terms}
use Rattle.block_logic.proofs.terms.same_lists.Given as goal

abbrev pub invariant-loop-terms : goal.invariant-loop-terms
invariant-loop-terms l = same_terms l.terms l.others ≡ same_terms l.fn.terms l.fn.others

abbrev pub decreases-loop-terms : goal.decreases-loop-terms
decreases-loop-terms l = length l.terms
