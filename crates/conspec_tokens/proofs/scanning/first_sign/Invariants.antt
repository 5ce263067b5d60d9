use Rattle.std.proofs.Common.{◌≡◌, map, length}
use Rattle.conspec_tokens.specs.Tokens.{first_sign}
use Rattle.conspec_tokens.proofs.scanning.first_sign.Given as goal

abbrev pub invariant-loop-left : goal.invariant-loop-left
invariant-loop-left l = first_sign (map (λ s. s.now) l.left) l.text ≡ first_sign (map (λ s. s.now) l.signs) l.text

abbrev pub decreases-loop-left : goal.decreases-loop-left
decreases-loop-left l = length l.left
