-- Items of a list, found by their places.
use Rattle.std.proofs.Common.{◌≡◌, ◌⊎◌, ℕ, zero, suc, ◌<◌, Bool, false, List, [], ◌∷◌, ◌++◌, length, get_or, Option, Some, None, refl, sym, ◌∙◌, inl, inr, arith}
use Rattle.std.specs.Prelude.{slice_get, Contains, filter, filter_map}
use Rattle.std.specs.List.{cons_option}
use Rattle.std.proofs.lemmas.List.{append-nil}
use Rattle.std.proofs.lemmas.List.Elements.{filter-append, filter_map-append}
use Rattle.std.proofs.lemmas.Option.{get_or_from_slice_get, slice_get_within}

first_or : {X : Type 0} (y : X) (xs : List X) (x : X) (k : ℕ) → k < length (y ∷ xs) → get_or (y ∷ xs) k x ≡ x → (y ≡ x) ⊎ Contains xs x
first_or y xs x zero within is = inl is
first_or y xs x (suc k) within is = inr (k, omega arith, is)

among_first : {X : Type 0} (table : List X) (place : ℕ) (found : Option X) (xs : List X) (x : X) → slice_get table place ≡ found
    → (Contains xs x → Contains table x) → Contains (cons_option found xs) x → Contains table x
among_first table place None xs x there later among = later among
among_first table place (Some y) xs x there later among =
    elim (first_or y xs x among.0 among.1 among.2) [
      | inl is ↦ (place, slice_get_within table place y there, get_or_from_slice_get table place y x there ∙ is)
      | inr following ↦ later following
    ]

-- What stands at places of a table is of the table.
pub at_places : {X : Type 0} (table : List X) (places : List ℕ) (x : X) → Contains (filter_map (slice_get table) places) x → Contains table x
at_places table [] x among = absurd (omega (arith, among.1))
at_places table (place ∷ places) x among = among_first table place (slice_get table place) (filter_map (slice_get table) places) x refl (at_places table places x) among

-- One place more.
pub one_more : {X : Type 0} (p : X → Bool) (table done : List X) (x : X) (place : ℕ) (old new : List ℕ) → slice_get table place ≡ Some x
    → (new ≡ old ++ place ∷ []) ⊎ ((p x ≡ false) × (new ≡ old)) → filter p (filter_map (slice_get table) old) ≡ filter p done
    → filter p (filter_map (slice_get table) new) ≡ filter p (done ++ x ∷ [])
one_more p table done x place old new there added before =
    elim added [
      | inl more ↦
          rw (more, filter_map-append (slice_get table) old (place ∷ []), there, filter-append p (filter_map (slice_get table) old) (x ∷ []), filter-append p done (x ∷ []), before) refl
      | inr kept ↦ rw (kept.1, filter-append p done (x ∷ []), before, kept.0) (sym (append-nil (filter p done)))
    ]
