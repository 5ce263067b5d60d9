-- The merge of a type with itself.
use Rattle.std.proofs.Common.{◌≡◌, ℕ, Bool, true, false, cond, List, [], ◌∷◌, refl, sym, ap, ◌∙◌}
use Rattle.std.specs.Prelude.{bytes_eq, ◌==◌, ◌&&◌}
use Rattle.std.proofs.lemmas.Bool.Decides.{Decides-eqb}
use Rattle.std.proofs.lemmas.Slice.Eq.{bytes_eq-Decides}
use Rattle.api_listing.specs.BuiltIn.{object}
use Rattle.bytecode_model.specs.declared.program.Program.{Program}
use Rattle.bytecode_model.specs.Arrays.{described}
use Rattle.cert_format.specs.declared.typing.VType.{VType}
use Rattle.cert_format.specs.declared.typing.VType.TheVariants as types
use Rattle.type_lattice.specs.Merging.{arrays_merged, items_merged, leaf_merged, merged, names_merged}

equal_itself : (name : List ℕ) → bytes_eq name name ≡ true
equal_itself name = (bytes_eq-Decides name name).1 refl

-- a test that is made twice
twice : (b : Bool) (x y z : List ℕ) → (b ≡ true → x ≡ z) → (b ≡ false → y ≡ z) → cond (b && b) x y ≡ z
twice true x y z f g = f refl
twice false x y z f g = g refl

module _ (program : Program) where
  leaf_itself : (name : List ℕ) → leaf_merged program name name ≡ name
  leaf_itself name = rw (equal_itself name) refl

  items_itself : (otherwise item : List ℕ) → items_merged program otherwise item item ≡ 91 ∷ item
  items_itself otherwise item = rw (equal_itself item) refl

  arrays_itself : (otherwise item : List ℕ) → arrays_merged program otherwise item item ≡ 91 ∷ item
  arrays_itself otherwise [] = items_itself otherwise []
  arrays_itself otherwise (c ∷ item) =
      twice (c == 91) _ _ (91 ∷ c ∷ item) (λ e. ap (λ (l : List ℕ). 91 ∷ l) (arrays_itself (described object) item) ∙ ap (λ (n : ℕ). 91 ∷ n ∷ item) (sym ((Decides-eqb c 91).0 e)))
      (λ e. items_itself otherwise (c ∷ item))

  names_itself : (name : List ℕ) → names_merged program name name ≡ name
  names_itself [] = leaf_itself []
  names_itself (c ∷ name) =
      twice (c == 91) _ _ (c ∷ name) (λ e. arrays_itself object name ∙ ap (λ (n : ℕ). n ∷ name) (sym ((Decides-eqb c 91).0 e))) (λ e. leaf_itself (c ∷ name))

  pub merged_itself : (t : VType) → merged program t t ≡ t
  merged_itself types.Top = refl
  merged_itself types.Int = refl
  merged_itself types.Null = refl
  merged_itself (types.Ref name) = ap types.Ref (names_itself name)
  merged_itself types.UninitThis = refl
  merged_itself (types.Uninit i) =
      let same : (i == i) ≡ true = (Decides-eqb i i).1 refl in
      rw same refl
