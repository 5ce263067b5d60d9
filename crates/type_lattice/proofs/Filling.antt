-- What is kept of places, one more after the other.
use Rattle.std.proofs.Common.{◌≡◌, ℕ, zero, suc, ◌+◌, ◌<◌, List, [], ◌∷◌, ◌++◌, length, length-append, map, take, set, Option, Some, refl, sym, ap, subst, ◌∙◌, inl, inr, arith}
use Rattle.std.specs.Prelude.{slice_get, nat_eq}
use Rattle.std.proofs.lemmas.Bool.{cases_Bool, false≢true, eq-eqb, eqb-true}
use Rattle.type_lattice.specs.declared.skip_pointers.SkipPointer.{SkipPointer}
use Rattle.type_lattice.specs.SkipPointers.{parent_of, parents_of, unknown, path_up, AreParents, IsSkipPointer, IsKnown, IsOpen, AreBegun, AreSkipPointers}
use Rattle.type_lattice.proofs.Ascending.{some_is, there_within, parents-length, unknown_parents, unknown_height, not_empty, goes_on, stays_in, last_of}

set_parents : (skip_pointers : List SkipPointer) (at : ℕ) (kept : SkipPointer) → at < length skip_pointers → kept.parent ≡ parent_of (parents_of skip_pointers) at → parents_of (set skip_pointers at kept) ≡ parents_of skip_pointers
set_parents [] at kept less e = refl
set_parents (w ∷ skip_pointers) zero kept less e = ap (λ (p : Option ℕ). p ∷ parents_of skip_pointers) e
set_parents (w ∷ skip_pointers) (suc at) kept less e = ap (λ (l : List (Option ℕ)). w.parent ∷ l) (set_parents skip_pointers at kept (omega arith) e)

set_there : (skip_pointers : List SkipPointer) (at : ℕ) (kept : SkipPointer) → at < length skip_pointers → slice_get (set skip_pointers at kept) at ≡ Some kept
set_there [] at kept less = absurd (omega arith)
set_there (w ∷ skip_pointers) zero kept less = refl
set_there (w ∷ skip_pointers) (suc at) kept less = set_there skip_pointers at kept (omega arith)

set_other : (skip_pointers : List SkipPointer) (at x : ℕ) (kept : SkipPointer) → (at ≡ x → ⊥) → slice_get (set skip_pointers at kept) x ≡ slice_get skip_pointers x
set_other [] at x kept other = refl
set_other (w ∷ skip_pointers) zero zero kept other = absurd (other refl)
set_other (w ∷ skip_pointers) zero (suc x) kept other = refl
set_other (w ∷ skip_pointers) (suc at) zero kept other = refl
set_other (w ∷ skip_pointers) (suc at) (suc x) kept other = set_other skip_pointers at x kept (λ e. other (ap suc e))

same_or_other : (at x : ℕ) (P : Type 0) → (at ≡ x → P) → ((at ≡ x → ⊥) → P) → P
same_or_other at x P f g =
    elim (cases_Bool (nat_eq at x)) [
      | inl is ↦ f (eqb-true at x is)
      | inr differs ↦ g (λ e. false≢true (sym differs ∙ eq-eqb at x e))
    ]

-- ---- before any way is gone

pub begun_unknown : (items : List SkipPointer) (parents : List (Option ℕ)) → items ≡ map unknown parents → AreParents parents → AreBegun items
begun_unknown items parents e are =
    subst AreBegun (sym e) record {
      parents = subst AreParents (sym (unknown_parents parents)) are;
      right = λ at kept there some. absurd (let none = unknown_height parents at kept there in omega arith);
    }

-- all is known
pub all_known : (skip_pointers : List SkipPointer) (n : ℕ) → AreBegun skip_pointers → ((at : ℕ) → at < n → IsKnown skip_pointers at) → n ≡ length skip_pointers → AreSkipPointers skip_pointers
all_known skip_pointers n begun known e = record {
  parents = begun.parents;
  right = λ at kept there.
      let less = there_within skip_pointers at kept there in
      let k = known at (omega arith) in
      let same : k.kept ≡ kept = some_is k.kept kept (sym k.there ∙ there) in
      begun.right at kept there (subst (λ (w : SkipPointer). 0 < w.height) same k.known);
}

-- ---- one way more

module _ (skip_pointers : List SkipPointer) (begun : AreBegun skip_pointers) (at : ℕ) (kept : SkipPointer) (less : at < length skip_pointers) (parent : kept.parent ≡ parent_of (parents_of skip_pointers) at) (is : IsSkipPointer (parents_of skip_pointers) at kept) where
  pub same_parents : parents_of (set skip_pointers at kept) ≡ parents_of skip_pointers
  same_parents = set_parents skip_pointers at kept less parent

  some_height : 0 < kept.height
  some_height = let h = is.height in let some = not_empty (parents_of skip_pointers) begun.parents at in omega arith

  pub one_more : AreBegun (set skip_pointers at kept)
  one_more = record {
    parents = subst AreParents (sym same_parents) begun.parents;
    right = λ x k there some.
        subst (λ (l : List (Option ℕ)). IsSkipPointer l x k) (sym same_parents)
        (same_or_other at x (IsSkipPointer (parents_of skip_pointers) x k)
        (λ e.
        let k_is : kept ≡ k = some_is kept k (sym (set_there skip_pointers at kept less) ∙ ap (slice_get (set skip_pointers at kept)) e ∙ there) in
        subst (λ (w : SkipPointer). IsSkipPointer (parents_of skip_pointers) x w) k_is (subst (λ (n : ℕ). IsSkipPointer (parents_of skip_pointers) n kept) e is))
        (λ other. begun.right x k (sym (set_other skip_pointers at x kept other) ∙ there) some));
  }

  pub is_added : IsKnown (set skip_pointers at kept) at
  is_added = record { kept = kept; there = set_there skip_pointers at kept less; known = some_height }

  pub stay_known : (x : ℕ) → IsKnown skip_pointers x → IsKnown (set skip_pointers at kept) x
  stay_known x k =
      same_or_other at x (IsKnown (set skip_pointers at kept) x)
      (λ e. subst (IsKnown (set skip_pointers at kept)) e is_added)
      (λ other. record { kept = k.kept; there = set_other skip_pointers at x kept other ∙ k.there; known = k.known })

-- ---- the last of a path

module _ (skip_pointers : List SkipPointer) (begun : AreBegun skip_pointers) (start at : ℕ) (path rest : List ℕ) (is : path ≡ rest ++ at ∷ []) (is_open : IsOpen skip_pointers start path) where
  longer : length path ≡ length rest + 1
  longer = ap length is ∙ length-append rest (at ∷ [])

  cut : (slice_get (path_up (parents_of skip_pointers) start) (length rest) ≡ Some at) × (rest ≡ take (length rest) (path_up (parents_of skip_pointers) start))
  cut = last_of (path_up (parents_of skip_pointers) start) rest at (sym is ∙ is_open.front ∙ ap (λ (n : ℕ). take n (path_up (parents_of skip_pointers) start)) longer)

  pub last_within : start < length skip_pointers → at < length skip_pointers
  last_within less =
      let n = parents-length skip_pointers in
      let all = stays_in (parents_of skip_pointers) begun.parents (length rest) start at (omega arith) cut.0 in
      omega arith

  pub above_known : (above : ℕ) → slice_get (path_up (parents_of skip_pointers) at) 1 ≡ Some above → IsKnown skip_pointers above
  above_known above e =
      is_open.next above (ap (slice_get (path_up (parents_of skip_pointers) start)) longer ∙ goes_on (parents_of skip_pointers) begun.parents (length rest) 1 start at cut.0 ∙ e)

  pub still_open : (new : List SkipPointer) → parents_of new ≡ parents_of skip_pointers → IsKnown new at → IsOpen new start rest
  still_open new same known = record {
    front = cut.1 ∙ ap (λ (l : List (Option ℕ)). take (length rest) (path_up l start)) (sym same);
    next = λ x e.
        let there : slice_get (path_up (parents_of skip_pointers) start) (length rest) ≡ Some x = ap (λ (l : List (Option ℕ)). slice_get (path_up l start) (length rest)) (sym same) ∙ e in
        subst (IsKnown new) (some_is at x (sym cut.0 ∙ there)) known;
  }
