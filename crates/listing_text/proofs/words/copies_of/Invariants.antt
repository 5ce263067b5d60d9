use Rattle.std.proofs.Common.{◌≡◌, take, map}
use Rattle.listing_text.proofs.words.copies_of.Given as goal

abbrev pub invariant-loop-part : goal.invariant-loop-part
invariant-loop-part l = l.copies ≡ map (λ p. p.now) (take l.part-index l.parts)
