-- Things that are made one after another.
use Rattle.std.proofs.Common.{◌≡◌, List, ◌∷◌, Ok, ap, sym, ◌∙◌}
use Rattle.mon_base.specs.Reading.{◌>>=◌}
use Rattle.offset_patch.specs.Fault.{Fitting}
use Rattle.class_weaving.specs.Woven.{folded}

-- one thing more
pub folded_on : {S X : Type 0} (step : S → X → Fitting S) (made next : S) (all rest : List X) (x : X) (total : Fitting S) → all ≡ x ∷ rest
    → step made x ≡ Ok next → folded step made all ≡ total → folded step next rest ≡ total
folded_on step made next all rest x total split ok so_far =
    sym (ap (λ r. r >>= λ more. folded step more rest) ok) ∙ sym (ap (folded step made) split) ∙ so_far
