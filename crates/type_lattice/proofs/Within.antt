-- Two arrays, and what is within both.
use Rattle.std.proofs.Common.{◌≡◌, ℕ, Bool, true, false, cond, List, [], ◌∷◌, Option, Some, None, ap}
use Rattle.std.specs.Prelude.{◌==◌, ◌&&◌}
use Rattle.api_listing.specs.BuiltIn.{object}
use Rattle.bytecode_model.specs.declared.program.Program.{Program}
use Rattle.bytecode_model.specs.Arrays.{described}
use Rattle.type_lattice.specs.Components.{both_within}
use Rattle.type_lattice.specs.Merging.{arrays_merged}

within_some : (b : Bool) (x y u v : List ℕ) (P : List ℕ) (Q : List ℕ → List ℕ → List ℕ) → ◌≡◌ {A = Option (List ℕ × List ℕ)} (cond b (Some (x, y)) None) (Some (u, v))
    → cond b (91 ∷ Q x y) P ≡ 91 ∷ Q u v
within_some true x y u v P Q e = let p : ◌≡◌ {A = List ℕ × List ℕ} (x, y) (u, v) = cc in ap (λ (r : List ℕ × List ℕ). 91 ∷ Q r.0 r.1) p
within_some false x y u v P Q e = absurd cc

-- both are arrays
pub merged_within : (program : Program) (otherwise a b x y : List ℕ) → both_within a b ≡ Some (x, y)
    → arrays_merged program otherwise a b ≡ 91 ∷ arrays_merged program (described object) x y
merged_within program otherwise [] b x y e = absurd cc
merged_within program otherwise (c ∷ a) [] x y e = absurd cc
merged_within program otherwise (c ∷ a) (d ∷ b) x y e = within_some ((c == 91) && (d == 91)) a b x y _ (arrays_merged program (described object)) e
