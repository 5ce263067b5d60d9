use Rattle.std.proofs.Common.{◌≡◌, take, map}
use Rattle.listing_text.specs.Saying.{said}
use Rattle.listing_text.proofs.lines.said_by.Given as goal

abbrev pub invariant-loop-line : goal.invariant-loop-line
invariant-loop-line l = l.found ≡ map said (map (λ p. p.now) (take l.line-index l.lines))
