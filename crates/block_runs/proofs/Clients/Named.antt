-- Names that a client's machine makes: of arrays, and of what the machine itself throws.
use Rattle.std.proofs.Common.{◌≡◌, ℕ, Bool, true, false, ◌&&◌, ◌||◌, List, [], ◌∷◌, ◌++◌, refl, sym, ap, ◌∙◌}
use Rattle.std.specs.Prelude.{◌==◌, codes, nat_eq, if◌then◌else◌}
use Rattle.std.specs.List.{AllByRecursion, starts_with}
use Rattle.std.proofs.lemmas.Bool.{and_parts, false≢true}
use Rattle.api_listing.specs.Listing.{own_class}
use Rattle.bytecode_model.specs.Arrays.{array_of, is_array}
use Rattle.bytecode_model.specs.Conditions.{holds}
use Rattle.bytecode_model.specs.Makes.{array_named}
use Rattle.bytecode_model.specs.SearchOrder.{Name}
use Rattle.bytecode_model.proofs.Placing.{test_cases}
use Rattle.guest_erasing.specs.Laid.{IsClientName}
use Rattle.guest_erasing.proofs.Names.{neither}

-- nothing in the name names conspec/State
abbrev pub IsFree : Name → Type 0
IsFree name = holds own_class name ≡ false

-- ---- with a `;` after it

-- It has no `;` in it.
abbrev IsWithoutEnd : List ℕ → Type 0
IsWithoutEnd part = AllByRecursion (λ (p : ℕ). nat_eq p 59 ≡ false) part

begins_before : (text part : List ℕ) → IsWithoutEnd part → starts_with nat_eq (text ++ 59 ∷ []) part ≡ true
    → starts_with nat_eq text part ≡ true
begins_before text [] without e = refl
begins_before [] (p ∷ part) without e =
    absurd (false≢true (sym without.0 ∙ (and_parts (nat_eq p 59) (starts_with nat_eq [] part) e).0))
begins_before (c ∷ text) (p ∷ part) without e = by (nat_eq p c) _ _ (begins_before text part without.1) e where
  by : (b ended all : Bool) → (ended ≡ true → all ≡ true) → (b && ended) ≡ true → (b && all) ≡ true
  by true ended all rest h = rest h
  by false ended all rest h = h

own_without : IsWithoutEnd own_class
own_without = (refl, (refl, (refl, (refl, (refl, (refl, (refl, (refl, (refl, (refl, (refl, (refl, (refl, tt)))))))))))))

free_ended : (text : List ℕ) → IsFree text → IsFree (text ++ 59 ∷ [])
free_ended [] free = refl
free_ended (c ∷ text) free =
    let both = neither (starts_with nat_eq (c ∷ text) own_class) (holds own_class text) free in
    let first : starts_with nat_eq (c ∷ (text ++ 59 ∷ [])) own_class ≡ false =
    test_cases (starts_with nat_eq (c ∷ (text ++ 59 ∷ [])) own_class) (λ b. b ≡ false)
    (λ e. absurd (false≢true (sym both.0 ∙ begins_before (c ∷ text) own_class own_without e))) (λ e. refl) in
    ap (λ (b : Bool). b || holds own_class (text ++ 59 ∷ [])) first ∙ free_ended text both.1

-- ---- arrays

pub array_named_client : (kind : ℕ) → IsClientName (array_named kind)
array_named_client kind = by (kind == 4) (kind == 5) (kind == 8) (kind == 9) where
  by : (a b c d : Bool)
      → IsClientName (if a then codes "[Z" else if b then codes "[C" else if c then codes "[B" else if d then codes "[S" else codes "[I")
  by true b c d = refl
  by false true c d = refl
  by false false true d = refl
  by false false false true = refl
  by false false false false = refl

pub array_of_client : (name : Name) → IsFree name → IsClientName (array_of name)
array_of_client name free = by (is_array name) where
  by : (b : Bool) → IsClientName (91 ∷ (if b then name else 76 ∷ (name ++ 59 ∷ [])))
  by true = free
  by false = free_ended name free
