-- The ways of places, gone up.
use Rattle.std.proofs.Common.{◌≡◌, ℕ, zero, suc, ◌+◌, ◌-◌, ◌<◌, ◌≤◌, min, Bool, true, false, cond, List, [], ◌∷◌, ◌++◌, length, map, take, Option, Some, None, refl, sym, ap, subst, ◌∙◌, inl, inr, arith}
use Rattle.std.specs.Prelude.{◌==◌, ◌||◌, slice_get, slice_index_or, find}
use Rattle.std.specs.Option.{option_map_or}
use Rattle.std.proofs.lemmas.List.{length-map}
use Rattle.std.proofs.lemmas.Bool.{cases_Bool, false≢true, eq-eqb, eqb-true}
use Rattle.type_lattice.specs.declared.skip_pointers.SkipPointer.{SkipPointer}
use Rattle.type_lattice.specs.SkipPointers.{parent_of, parents_of, unknown, skips_up, path_up, AreParents, IsSkipPointer, has_place, meeting, LeadsUp, LeadBothUp}
pub use Rattle.bytecode_model.proofs.Lists.{some_is}

-- ---- places in a list

pub place_there : (xs : List ℕ) (k at : ℕ) → slice_get xs k ≡ Some at → has_place xs at ≡ true
place_there [] k at e = absurd cc
place_there (x ∷ xs) zero at e =
    let same : (x == at) ≡ true = eq-eqb x at (some_is x at e) in
    rw same refl
place_there (x ∷ xs) (suc k) at e = by (x == at) (has_place xs at) (place_there xs k at e) where
  by : (b c : Bool) → c ≡ true → (b || c) ≡ true
  by true c e = refl
  by false c e = e

pub place_is : (xs : List ℕ) (at : ℕ) → has_place xs at ≡ true → (k : ℕ) × (slice_get xs k ≡ Some at)
place_is [] at e = absurd (false≢true e)
place_is (x ∷ xs) at e =
    elim (cases_Bool (x == at)) [
      | inl is ↦ (0, ap Some (eqb-true x at is))
      | inr other ↦
          let h : has_place xs at ≡ true = rw other at e in
          let later = place_is xs at h in
          (suc later.0, later.1)
    ]

pub front_there : (xs ys zs : List ℕ) → xs ++ ys ≡ zs → slice_get zs (length xs) ≡ slice_get ys 0
front_there xs ys zs e = subst (λ (l : List ℕ). slice_get l (length xs) ≡ slice_get ys 0) e (by xs) where
  by : (ws : List ℕ) → slice_get (ws ++ ys) (length ws) ≡ slice_get ys 0
  by [] = refl
  by (w ∷ ws) = by ws

pub front_taken : (xs ys zs : List ℕ) → xs ++ ys ≡ zs → xs ≡ take (length xs) zs
front_taken xs ys zs e = subst (λ (l : List ℕ). xs ≡ take (length xs) l) e (by xs) where
  by : (ws : List ℕ) → ws ≡ take (length ws) (ws ++ ys)
  by [] = refl
  by (w ∷ ws) = ap (λ (l : List ℕ). w ∷ l) (by ws)

pub there_within : {X : Type 0} (xs : List X) (k : ℕ) (x : X) → slice_get xs k ≡ Some x → k < length xs
there_within [] k x e = absurd cc
there_within (y ∷ xs) zero x e = omega arith
there_within (y ∷ xs) (suc k) x e = let less = there_within xs k x e in omega arith

-- the last of a front, and the others
pub last_of : (xs rest : List ℕ) (at : ℕ) → rest ++ at ∷ [] ≡ take (length rest + 1) xs → (slice_get xs (length rest) ≡ Some at) × (rest ≡ take (length rest) xs)
last_of [] [] at e = let h : at ∷ [] ≡ [] = e in absurd cc
last_of (x ∷ xs) [] at e =
    let h : at ∷ [] ≡ x ∷ [] = e in
    let heads : at ≡ x = cc in
    (ap Some (sym heads), refl)
last_of [] (r ∷ rest) at e =
    let n : length (r ∷ rest) + 1 ≡ suc (length rest + 1) = omega arith in
    let h : r ∷ (rest ++ at ∷ []) ≡ [] = rw n at e in
    absurd cc
last_of (x ∷ xs) (r ∷ rest) at e =
    let n : length (r ∷ rest) + 1 ≡ suc (length rest + 1) = omega arith in
    let h : r ∷ (rest ++ at ∷ []) ≡ x ∷ take (length rest + 1) xs = rw n at e in
    let heads : r ≡ x = cc in
    let tails : rest ++ at ∷ [] ≡ take (length rest + 1) xs = cc in
    let more = last_of xs rest at tails in
    (more.0, rw heads (ap (λ (l : List ℕ). x ∷ l) more.1))

-- ---- ways

pub few_up : (n : ℕ) (parents : List (Option ℕ)) (at : ℕ) → length (skips_up n parents at) ≤ n + 1
few_up zero parents at = omega arith
few_up (suc n) parents at = by (parent_of parents at) (few_up n parents) where
  by : (o : Option ℕ) → ((p : ℕ) → length (skips_up n parents p) ≤ n + 1) → length (at ∷ option_map_or (skips_up n parents) o []) ≤ suc n + 1
  by None few = omega arith
  by (Some p) few = let less = few p in omega arith

module _ (parents : List (Option ℕ)) (are : AreParents parents) where
  -- the way of the place above, if there is one
  abbrev pub above_of : Option ℕ → List ℕ
  above_of o = option_map_or (path_up parents) o []

  pub skip_pointer_is : (at : ℕ) → path_up parents at ≡ at ∷ above_of (parent_of parents at)
  skip_pointer_is at = sym (are.ends at)

  pub first_is : (at : ℕ) → slice_get (path_up parents at) 0 ≡ Some at
  first_is at = ap (λ (l : List ℕ). slice_get l 0) (skip_pointer_is at)

  pub not_empty : (at : ℕ) → 0 < length (path_up parents at)
  not_empty at = let e = ap length (skip_pointer_is at) in omega arith

  pub alone : (at : ℕ) → parent_of parents at ≡ None → path_up parents at ≡ at ∷ []
  alone at none = skip_pointer_is at ∙ ap (λ (o : Option ℕ). at ∷ above_of o) none

  pub over : (at above : ℕ) → parent_of parents at ≡ Some above → path_up parents at ≡ at ∷ path_up parents above
  over at above some = skip_pointer_is at ∙ ap (λ (o : Option ℕ). at ∷ above_of o) some

  -- one step up stands the place above
  pub next_is : (at above : ℕ) → parent_of parents at ≡ Some above → slice_get (path_up parents at) 1 ≡ Some above
  next_is at above some = ap (λ (l : List ℕ). slice_get l 1) (over at above some) ∙ first_is above

  pub none_next : (at : ℕ) → length (path_up parents at) ≡ 1 → parent_of parents at ≡ None
  none_next at one = by (parent_of parents at) refl where
    by : (o : Option ℕ) → parent_of parents at ≡ o → o ≡ None
    by None e = refl
    by (Some p) e = let two = ap length (over at p e) in let some = not_empty p in absurd (omega arith)

  no_more : (at k c : ℕ) → parent_of parents at ≡ None → slice_get (path_up parents at) (suc k) ≡ Some c → ⊥
  no_more at k c none e =
      let h : ◌≡◌ {A = Option ℕ} None (Some c) = ap (λ (l : List ℕ). slice_get l (suc k)) (sym (alone at none)) ∙ e in
      absurd cc

  -- from a place on the way, the way goes on as from that place
  pub goes_on : (k m at c : ℕ) → slice_get (path_up parents at) k ≡ Some c → slice_get (path_up parents at) (k + m) ≡ slice_get (path_up parents c) m
  goes_on zero m at c e =
      let same : at ≡ c = some_is at c (sym (first_is at) ∙ e) in
      let n : 0 + m ≡ m = omega arith in
      rw n (ap (λ (a : ℕ). slice_get (path_up parents a) m) same)
  goes_on (suc k) m at c e = by (parent_of parents at) refl (goes_on k m) where
    by : (o : Option ℕ) → parent_of parents at ≡ o → ((p c : ℕ) → slice_get (path_up parents p) k ≡ Some c → slice_get (path_up parents p) (k + m) ≡ slice_get (path_up parents c) m)
        → slice_get (path_up parents at) (suc k + m) ≡ slice_get (path_up parents c) m
    by None none more = absurd (no_more at k c none e)
    by (Some p) some more =
        let there : slice_get (path_up parents p) k ≡ Some c = ap (λ (l : List ℕ). slice_get l (suc k)) (sym (over at p some)) ∙ e in
        let n : suc k + m ≡ suc (k + m) = omega arith in
        rw n (ap (λ (l : List ℕ). slice_get l (suc (k + m))) (over at p some) ∙ more p c there)

  -- and it is as long
  pub rest_is : (k at c : ℕ) → slice_get (path_up parents at) k ≡ Some c → length (path_up parents at) ≡ k + length (path_up parents c)
  rest_is zero at c e =
      let same : at ≡ c = some_is at c (sym (first_is at) ∙ e) in
      let n = ap (λ (a : ℕ). length (path_up parents a)) same in
      omega arith
  rest_is (suc k) at c e = by (parent_of parents at) refl (rest_is k) where
    by : (o : Option ℕ) → parent_of parents at ≡ o → ((p c : ℕ) → slice_get (path_up parents p) k ≡ Some c → length (path_up parents p) ≡ k + length (path_up parents c))
        → length (path_up parents at) ≡ suc k + length (path_up parents c)
    by None none more = absurd (no_more at k c none e)
    by (Some p) some more =
        let there : slice_get (path_up parents p) k ≡ Some c = ap (λ (l : List ℕ). slice_get l (suc k)) (sym (over at p some)) ∙ e in
        let all = more p c there in
        let one = ap length (over at p some) in
        omega arith

  pub stays_in : (k at c : ℕ) → at < length parents → slice_get (path_up parents at) k ≡ Some c → c < length parents
  stays_in zero at c less e = subst (λ (a : ℕ). a < length parents) (some_is at c (sym (first_is at) ∙ e)) less
  stays_in (suc k) at c less e = by (parent_of parents at) refl (stays_in k) where
    by : (o : Option ℕ) → parent_of parents at ≡ o → ((p c : ℕ) → p < length parents → slice_get (path_up parents p) k ≡ Some c → c < length parents) → c < length parents
    by None none more = absurd (no_more at k c none e)
    by (Some p) some more =
        let there : slice_get (path_up parents p) k ≡ Some c = ap (λ (l : List ℕ). slice_get l (suc k)) (sym (over at p some)) ∙ e in
        more p c (are.within at p some) there

  -- a place on two ways is as far from the end of both
  pub same_rest : (i j a b c : ℕ) → slice_get (path_up parents a) i ≡ Some c → slice_get (path_up parents b) j ≡ Some c → i + length (path_up parents b) ≡ j + length (path_up parents a)
  same_rest i j a b c e f = let one = rest_is i a c e in let other = rest_is j b c f in omega arith

  -- ---- one way up

  pub led : (at most above gone : ℕ) → LeadsUp parents at most above gone → slice_get (path_up parents at) most ≡ slice_get (path_up parents above) (most - gone)
  led at most above gone leads =
      let few = leads.few in
      let n : gone + (most - gone) ≡ most = omega arith in
      ap (slice_get (path_up parents at)) (sym n) ∙ goes_on gone (most - gone) at above leads.there

  pub below_it : (at above : ℕ) → length (path_up parents at) < length (path_up parents above) → has_place (path_up parents at) above ≡ false
  below_it at above less =
      elim (cases_Bool (has_place (path_up parents at) above)) [
        | inl is ↦
            let there = place_is (path_up parents at) above is in
            let all = rest_is there.0 at above there.1 in
            absurd (omega arith)
        | inr other ↦ other
      ]

  pub is_there : (at above : ℕ) → slice_get (path_up parents at) (length (path_up parents at) - length (path_up parents above)) ≡ Some above → has_place (path_up parents at) above ≡ true
  is_there at above e = place_there _ _ _ e

  pub is_not_there : (at above : ℕ) → (slice_get (path_up parents at) (length (path_up parents at) - length (path_up parents above)) ≡ Some above → ⊥) → has_place (path_up parents at) above ≡ false
  is_not_there at above none =
      elim (cases_Bool (has_place (path_up parents at) above)) [
        | inl is ↦
            let there = place_is (path_up parents at) above is in
            let all = rest_is there.0 at above there.1 in
            let k : there.0 ≡ length (path_up parents at) - length (path_up parents above) = omega arith in
            absurd (none (subst (λ (n : ℕ). slice_get (path_up parents at) n ≡ Some above) k there.1))
        | inr other ↦ other
      ]

  -- ---- two ways

  -- none that is passed by passes the test
  pub passed_by : (test : ℕ → Bool) (k a c : ℕ) → slice_get (path_up parents a) k ≡ Some c → ((i x : ℕ) → i < k → slice_get (path_up parents a) i ≡ Some x → test x ≡ false)
      → find test (path_up parents a) ≡ find test (path_up parents c)
  passed_by test zero a c e none = ap (λ (x : ℕ). find test (path_up parents x)) (some_is a c (sym (first_is a) ∙ e))
  passed_by test (suc k) a c e none = by (parent_of parents a) refl (passed_by test k) where
    by : (o : Option ℕ) → parent_of parents a ≡ o
        → ((a c : ℕ) → slice_get (path_up parents a) k ≡ Some c → ((i x : ℕ) → i < k → slice_get (path_up parents a) i ≡ Some x → test x ≡ false) → find test (path_up parents a) ≡ find test (path_up parents c))
        → find test (path_up parents a) ≡ find test (path_up parents c)
    by None top more = absurd (no_more a k c top e)
    by (Some p) some more =
        let up : (i : ℕ) → slice_get (path_up parents a) (suc i) ≡ slice_get (path_up parents p) i = λ i. ap (λ (l : List ℕ). slice_get l (suc i)) (over a p some) in
        let fails : test a ≡ false = none 0 a (omega arith) (first_is a) in
        ap (find test) (over a p some) ∙ ap (λ (b : Bool). cond b (Some a) (find test (path_up parents p))) fails
        ∙ more p c (sym (up k) ∙ e) (λ i x less there. none (suc i) x (omega arith) (up i ∙ there))

  pub passes_here : (test : ℕ → Bool) (a : ℕ) → test a ≡ true → find test (path_up parents a) ≡ Some a
  passes_here test a e = ap (find test) (skip_pointer_is a) ∙ ap (λ (b : Bool). cond b (Some a) (find test (above_of (parent_of parents a)))) e

  pub none_passes : (test : ℕ → Bool) (a : ℕ) → length (path_up parents a) ≡ 1 → test a ≡ false → find test (path_up parents a) ≡ None
  none_passes test a one e = ap (find test) (alone a (none_next a one)) ∙ ap (λ (b : Bool). cond b (Some a) None) e

  -- a and b are where the two ways began; one and other are as high, and other is k steps above b
  module _ (b other k : ℕ) (on : slice_get (path_up parents b) k ≡ Some other) where
    -- what is on the way from b and as high as a place above other is above other, too
    high_enough : (one i c : ℕ) → length (path_up parents one) ≡ length (path_up parents other) → slice_get (path_up parents one) i ≡ Some c → has_place (path_up parents b) c ≡ true
        → slice_get (path_up parents other) i ≡ Some c
    high_enough one i c level there is =
        let found = place_is (path_up parents b) c is in
        let rest = rest_is k b other on in
        let same = same_rest i found.0 one b c there found.1 in
        let n : found.0 ≡ k + i = omega arith in
        sym (goes_on k i b other on) ∙ ap (slice_get (path_up parents b)) (sym n) ∙ found.1

    pub both_on : (one above beyond : ℕ) (up : LeadBothUp parents one other above beyond) → length (path_up parents one) ≡ length (path_up parents other)
        → find (has_place (path_up parents b)) (path_up parents one) ≡ find (has_place (path_up parents b)) (path_up parents above)
    both_on one above beyond up level =
        passed_by (has_place (path_up parents b)) up.gone one above up.one (λ i c less there.
        elim (cases_Bool (has_place (path_up parents b) c)) [
          | inl is ↦ absurd (up.apart i c less there (high_enough one i c level there is))
          | inr fails ↦ fails
        ])

    pub further_on : (gone beyond : ℕ) → slice_get (path_up parents other) gone ≡ Some beyond → slice_get (path_up parents b) (k + gone) ≡ Some beyond
    further_on gone beyond e = goes_on k gone b other on ∙ e

    pub apart_at_top : (one : ℕ) → length (path_up parents one) ≡ length (path_up parents other) → length (path_up parents one) ≡ 1 → (one ≡ other → ⊥) → find (has_place (path_up parents b)) (path_up parents one) ≡ None
    apart_at_top one level top apart =
        none_passes (has_place (path_up parents b)) one top (
        elim (cases_Bool (has_place (path_up parents b) one)) [
          | inl is ↦ absurd (apart (sym (some_is other one (sym (first_is other) ∙ high_enough one 0 one level (first_is one) is))))
          | inr fails ↦ fails
        ])

    pub met : find (has_place (path_up parents b)) (path_up parents other) ≡ Some other
    met = passes_here (has_place (path_up parents b)) other (place_there (path_up parents b) k other on)

  -- up to the height h of the lower of both
  pub up_to_height : (a b one h : ℕ) → h ≡ min (length (path_up parents a)) (length (path_up parents b)) → slice_get (path_up parents a) (length (path_up parents a) - h) ≡ Some one
      → find (has_place (path_up parents b)) (path_up parents one) ≡ meeting parents a b
  up_to_height a b one h lower e =
      sym (passed_by (has_place (path_up parents b)) (length (path_up parents a) - h) a one e (λ i c less there.
      elim (cases_Bool (has_place (path_up parents b) c)) [
        | inl is ↦
            let found = place_is (path_up parents b) c is in
            let same = same_rest i found.0 a b c there found.1 in
            absurd (omega arith)
        | inr fails ↦ fails
      ]))

  pub as_high : (a one h : ℕ) → h ≤ length (path_up parents a) → slice_get (path_up parents a) (length (path_up parents a) - h) ≡ Some one → length (path_up parents one) ≡ h
  as_high a one h le e = let rest = rest_is (length (path_up parents a) - h) a one e in omega arith

  -- two ways that meet are one from there on
  pub together : (a b gone k c above beyond : ℕ) → k < gone → slice_get (path_up parents a) k ≡ Some c → slice_get (path_up parents b) k ≡ Some c → slice_get (path_up parents a) gone ≡ Some above
      → slice_get (path_up parents b) gone ≡ Some beyond → above ≡ beyond
  together a b gone k c above beyond less e f one other =
      let n : gone ≡ k + (gone - k) = omega arith in
      let up : (x : ℕ) → slice_get (path_up parents x) k ≡ Some c → slice_get (path_up parents x) gone ≡ slice_get (path_up parents c) (gone - k) =
      λ x there. ap (slice_get (path_up parents x)) n ∙ goes_on k (gone - k) x c there in
      some_is above beyond (sym one ∙ up a e ∙ sym (up b f) ∙ other)

  pub at_first : (a b k c : ℕ) → k < 1 → slice_get (path_up parents a) k ≡ Some c → slice_get (path_up parents b) k ≡ Some c → a ≡ b
  at_first a b zero c less e f = some_is a b (sym (first_is a) ∙ e ∙ sym f ∙ first_is b)
  at_first a b (suc k) c less e f = absurd (omega arith)

-- ---- what is kept

pub parents-length : (skip_pointers : List SkipPointer) → length (parents_of skip_pointers) ≡ length skip_pointers
parents-length skip_pointers = length-map skip_pointers (λ (w : SkipPointer). w.parent)

pub parent_kept : (skip_pointers : List SkipPointer) (at : ℕ) (kept : SkipPointer) → slice_get skip_pointers at ≡ Some kept → parent_of (parents_of skip_pointers) at ≡ kept.parent
parent_kept [] at kept e = absurd cc
parent_kept (w ∷ skip_pointers) zero kept e = ap (λ (k : SkipPointer). k.parent) (some_is w kept e)
parent_kept (w ∷ skip_pointers) (suc at) kept e = parent_kept skip_pointers at kept e

pub unknown_parents : (parents : List (Option ℕ)) → parents_of (map unknown parents) ≡ parents
unknown_parents [] = refl
unknown_parents (p ∷ parents) = ap (λ (l : List (Option ℕ)). p ∷ l) (unknown_parents parents)

pub unknown_height : (parents : List (Option ℕ)) (at : ℕ) (kept : SkipPointer) → slice_get (map unknown parents) at ≡ Some kept → kept.height ≡ 0
unknown_height [] at kept e = absurd cc
unknown_height (p ∷ parents) zero kept e = ap (λ (k : SkipPointer). k.height) (sym (some_is (unknown p) kept e))
unknown_height (p ∷ parents) (suc at) kept e = unknown_height parents at kept e

pub read_at : (skip_pointers : List SkipPointer) (at : ℕ) (kept d : SkipPointer) → slice_get skip_pointers at ≡ Some kept → slice_index_or skip_pointers at d ≡ kept
read_at [] at kept d e = absurd cc
read_at (w ∷ skip_pointers) zero kept d e = some_is w kept e
read_at (w ∷ skip_pointers) (suc at) kept d e = read_at skip_pointers at kept d e

pub there_is : (skip_pointers : List SkipPointer) (at : ℕ) (d : SkipPointer) → at < length skip_pointers → slice_get skip_pointers at ≡ Some (slice_index_or skip_pointers at d)
there_is [] at d less = absurd (omega arith)
there_is (w ∷ skip_pointers) zero d less = refl
there_is (w ∷ skip_pointers) (suc at) d less = there_is skip_pointers at d (omega arith)

-- a way that is put together from one above it
module _ (skip_pointers : List SkipPointer) (parents : AreParents (parents_of skip_pointers)) (at p : ℕ) (some : parent_of (parents_of skip_pointers) at ≡ Some p) (above : SkipPointer) (is : IsSkipPointer (parents_of skip_pointers) p above) where
  pub jump_within : above.jump < length skip_pointers
  jump_within =
      let less = stays_in (parents_of skip_pointers) parents above.steps p above.jump (parents.within at p some) is.jump in
      let n = parents-length skip_pointers in
      omega arith

  pub height_fits : above.height ≤ length skip_pointers + 1
  height_fits = let few = few_up (length (parents_of skip_pointers)) (parents_of skip_pointers) p in let h = is.height in let n = parents-length skip_pointers in omega arith

  higher : above.height + 1 ≡ length (path_up (parents_of skip_pointers) at)
  higher = let h = is.height in let one = ap length (over (parents_of skip_pointers) parents at p some) in omega arith

  pub near : IsSkipPointer (parents_of skip_pointers) at record { parent = Some p; height = above.height + 1; steps = 1; jump = p }
  near = record {
    height = higher;
    jump = next_is (parents_of skip_pointers) parents at p some;
    moves = λ q e. omega arith;
  }

  module _ (further : SkipPointer) (right : IsSkipPointer (parents_of skip_pointers) above.jump further) where
    far_jump : slice_get (path_up (parents_of skip_pointers) p) (above.steps + further.steps) ≡ Some further.jump
    far_jump = goes_on (parents_of skip_pointers) parents above.steps further.steps p above.jump is.jump ∙ right.jump

    pub steps_fit : above.steps + further.steps < length skip_pointers + 1
    steps_fit =
        let less = there_within (path_up (parents_of skip_pointers) p) (above.steps + further.steps) further.jump far_jump in
        let few = few_up (length (parents_of skip_pointers)) (parents_of skip_pointers) p in
        let n = parents-length skip_pointers in
        omega arith

    pub far : IsSkipPointer (parents_of skip_pointers) at record { parent = Some p; height = above.height + 1; steps = above.steps + further.steps + 1; jump = further.jump }
    far = record {
      height = higher;
      jump =
          let n : above.steps + further.steps + 1 ≡ suc (above.steps + further.steps) = omega arith in
          ap (slice_get (path_up (parents_of skip_pointers) at)) n ∙ ap (λ (l : List ℕ). slice_get l (suc (above.steps + further.steps))) (over (parents_of skip_pointers) parents at p some) ∙ far_jump;
      moves = λ q e. omega arith;
    }
