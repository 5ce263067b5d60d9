-- The names of a table are used in its order exactly where the table is the names in order of first use.
use Rattle.std.proofs.Common.{◌≡◌, ℕ, ◌+◌, ◌<◌, ◌≤◌, Bool, true, false, eqb, List, [], ◌∷◌, ◌++◌, length, get_or, take, drop, inl, inr, refl, sym, ap, subst, ◌∙◌, append_assoc, arith}
use Rattle.std.proofs.lemmas.Bool.{cases_lt, le-ltb, lt-ltb, eq-eqb, eqb-true}
use Rattle.std.proofs.lemmas.List.{append-nil, length-append, length-take, take-append-drop, take_more, take_all}
use Rattle.std.proofs.lemmas.Grind.{common_steps}
use Rattle.cert_format.specs.Names.{Name, name_index, with_name, with_names, StandOnce}
use Rattle.cert_format.specs.Reading.{used_with}
use Rattle.cert_format.proofs.Places.{place-le, get_or-place, place-append, place-past, place-own, with-old, with-new}

-- where the first names of the table were used, one of these or the next is used
pub record IsTurn (names : List Name) (used : ℕ) (name : Name) : Type 0 where
  pub known : name_index names name < length names
  pub turn : name_index names name ≤ used

-- so many names of the table were used before these, each in its turn, and so many after
abbrev pub InOrder : List Name → ℕ → List Name → ℕ → Type 0
InOrder names used [] after = used ≡ after
InOrder names used (name ∷ more) after = IsTurn names used name × InOrder names (used_with used (name_index names name)) more after

pub join : (names a b : List Name) (used between after : ℕ) → InOrder names used a between → InOrder names between b after
    → InOrder names used (a ++ b) after
join names [] b used between after h k = subst (λ (n : ℕ). InOrder names n b after) (sym h) k
join names (x ∷ a) b used between after h k = (h.0, join names a b (used_with used (name_index names x)) between after h.1 k)

-- where the names of the first part are used in order, and then those of the second
pub record Split (names : List Name) (used : ℕ) (a b : List Name) (after : ℕ) : Type 0 where
  pub between : ℕ
  pub first : InOrder names used a between
  pub second : InOrder names between b after

pub split : (names a b : List Name) (used after : ℕ) → InOrder names used (a ++ b) after → Split names used a b after
split names [] b used after h = record { between = used; first = refl; second = h }
split names (x ∷ a) b used after h =
    let s = split names a b (used_with used (name_index names x)) after h.1 in
    record { between = s.between; first = (h.0, s.first); second = s.second }

-- ---- names in order of first use

old : (names : List Name) (name : Name) → name_index names name < length names → with_name names name ≡ names
old names name lt = with-old names name (lt-ltb _ _ lt)

new : (names : List Name) (name : Name) → length names ≤ name_index names name → with_name names name ≡ names ++ name ∷ []
new names name le = with-new names name (le-ltb _ _ le)

-- more names only make the list longer
grows : (more : List Name) (names : List Name) → (rest : List Name) × (with_names names more ≡ names ++ rest)
grows [] names = ([], sym (append-nil names))
grows (x ∷ more) names =
    elim (cases_lt (name_index names x) (length names)) [
      | inl lt ↦
          let g = grows more names in
          (g.0, ap (λ (ns : List Name). with_names ns more) (old names x lt) ∙ g.1)
      | inr le ↦
          let g = grows more (names ++ x ∷ []) in
          (x ∷ g.0, ap (λ (ns : List Name). with_names ns more) (new names x le) ∙ g.1 ∙ append_assoc names (x ∷ []) g.0)
    ]

once-more : (names : List Name) (name : Name) → length names ≤ name_index names name → StandOnce names → StandOnce (names ++ name ∷ [])
once-more names name le once i lt =
    elim (cases_lt i (length names)) [
      | inl below ↦
          let own = once i below in
          let at : get_or (names ++ name ∷ []) i [] ≡ get_or names i [] = grind (arith, common_steps) in
          rw at (place-append names (name ∷ []) (get_or names i []) (omega (arith, own)) ∙ own)
      | inr above ↦
          let end : i ≡ length names = omega (arith, length-append names (name ∷ [])) in
          let at : get_or (names ++ name ∷ []) (length names) [] ≡ name = grind (arith, common_steps) in
          let past = place-past names (name ∷ []) name le in
          let own = place-own name [] in
          rw (end, at) (omega (arith, past, own))
    ]

-- a name more that is new, and none stands twice
pub once-push : (names : List Name) (name : Name) → length names ≤ name_index names name → StandOnce names → StandOnce (names ++ name ∷ [])
once-push names name le once = once-more names name le once

once-with : (names : List Name) (name : Name) → StandOnce names → StandOnce (with_name names name)
once-with names name once =
    elim (cases_lt (name_index names name) (length names)) [
      | inl lt ↦ rw (old names name lt) once
      | inr le ↦ rw (new names name le) (once-more names name le once)
    ]

-- none of the names stands twice
pub once-all : (more : List Name) (names : List Name) → StandOnce names → StandOnce (with_names names more)
once-all [] names once = once
once-all (x ∷ more) names once = once-all more (with_name names x) (once-with names x once)

pub once-none : StandOnce []
once-none i lt = absurd (omega arith)

in-with : (names : List Name) (name : Name) → name_index (with_name names name) name < length (with_name names name)
in-with names name =
    elim (cases_lt (name_index names name) (length names)) [
      | inl lt ↦ rw (old names name lt) lt
      | inr le ↦
          let past = place-past names (name ∷ []) name le in
          let own = place-own name [] in
          rw (new names name le) (omega (arith, past, own, length-append names (name ∷ [])))
    ]

-- ---- the count of names that were used in their order

count-old : (k i : ℕ) → i < k → used_with k i ≡ k
count-old k i lt = rw (eqb-apart i k (omega arith)) refl where
  eqb-apart : (a b : ℕ) → (a ≡ b → ⊥) → eqb a b ≡ false
  eqb-apart a b apart = by (eqb a b) refl where
    by : (t : Bool) → eqb a b ≡ t → eqb a b ≡ false
    by true e = absurd (apart (eqb-true a b e))
    by false e = e

count-next : (k i : ℕ) → i ≡ k → used_with k i ≡ k + 1
count-next k i e = rw (eq-eqb i k e) refl

reads_next : (a : List Name) (x : Name) (b : List Name) (k : ℕ) → length a ≡ k → get_or ((a ++ x ∷ []) ++ b) k [] ≡ x
reads_next a x b k len = rw (append_assoc a (x ∷ []) b, ← len) (read_at a) where
  read_at : (a : List Name) → get_or (a ++ x ∷ b) (length a) [] ≡ x
  read_at [] = refl
  read_at (y ∷ a) = read_at a

module _ (names : List Name) where
  old-place : (k : ℕ) (name : Name) → k ≤ length names → name_index names name < k → name_index (take k names) name < length (take k names)
  old-place k name le lt =
      elim (cases_lt (name_index (take k names) name) (length (take k names))) [
        | inl below ↦ below
        | inr above ↦
            let past = place-past (take k names) (drop k names) name above in
            let whole : name_index (take k names ++ drop k names) name ≡ name_index names name = ap (λ (ns : List Name). name_index ns name) (take-append-drop k names) in
            absurd (omega (arith, past, whole, lt, length-take k names))
      ]

  new-place : (k : ℕ) (name : Name) → k ≤ length names → k ≤ name_index names name → length (take k names) ≤ name_index (take k names) name
  new-place k name le above =
      elim (cases_lt (name_index (take k names) name) (length (take k names))) [
        | inr past ↦ past
        | inl below ↦
            let at = place-append (take k names) (drop k names) name below in
            let whole : name_index (take k names ++ drop k names) name ≡ name_index names name = ap (λ (ns : List Name). name_index ns name) (take-append-drop k names) in
            absurd (omega (arith, at, whole, below, above, length-take k names))
      ]

  with-next : (k : ℕ) (name : Name) → name_index names name ≡ k → k < length names → with_name (take k names) name ≡ take (k + 1) names
  with-next k name at lt =
      let own : get_or names k [] ≡ name = ap (λ (i : ℕ). get_or names i []) (sym at) ∙ get_or-place names name (omega arith) in
      new (take k names) name (new-place k name (omega arith) (omega arith)) ∙ ap (λ (x : Name). take k names ++ x ∷ []) (sym own) ∙ sym (take_more names k [] lt)

  -- names in their turn are the first of the table
  pub in_order : (ns : List Name) (k m : ℕ) → k ≤ length names → InOrder names k ns m → with_names (take k names) ns ≡ take m names
  in_order [] k m le h = ap (λ (i : ℕ). take i names) h
  in_order (x ∷ ns) k m le h =
      let i = name_index names x in
      elim (cases_lt i k) [
        | inl early ↦
            let same = count-old k i early in
            let later = in_order ns k m le (subst (λ (n : ℕ). InOrder names n ns m) same h.1) in
            ap (λ (t : List Name). with_names t ns) (old (take k names) x (old-place k x le early)) ∙ later
        | inr not_early ↦
            let at : i ≡ k = omega (arith, h.0.turn) in
            let lt : k < length names = omega (arith, h.0.known) in
            let later = in_order ns (k + 1) m (omega arith) (subst (λ (n : ℕ). InOrder names n ns m) (count-next k i at) h.1) in
            ap (λ (t : List Name). with_names t ns) (with-next k x at lt) ∙ later
      ]

  -- and what makes the table is in turn
  pub makes_order : (ns : List Name) (k : ℕ) → k ≤ length names → with_names (take k names) ns ≡ names → InOrder names k ns (length names)
  makes_order [] k le is =
      let len : length (take k names) ≡ length names = ap length is in
      omega (arith, len, length-take k names)
  makes_order (x ∷ ns) k le is =
      let i = name_index names x in
      let first = with_name (take k names) x in
      let g = grows ns first in
      let whole : names ≡ first ++ g.0 = sym is ∙ g.1 in
      let within = in-with (take k names) x in
      let at = place-append first g.0 x within in
      let same : name_index (first ++ g.0) x ≡ i = ap (λ (t : List Name). name_index t x) (sym whole) in
      let long : length (first ++ g.0) ≡ length names = ap length (sym whole) in
      let known : i < length names = omega (arith, same, at, within, long, length-append first g.0) in
      elim (cases_lt i k) [
        | inl early ↦
            let later = makes_order ns k le (ap (λ (t : List Name). with_names t ns) (sym (old (take k names) x (old-place k x le early))) ∙ is) in
            (record { known = known; turn = omega arith }, subst (λ (n : ℕ). InOrder names n ns (length names)) (sym (count-old k i early)) later)
        | inr not_early ↦
            let added : first ≡ take k names ++ x ∷ [] = new (take k names) x (new-place k x le not_early) in
            let lt : k < length names = omega (arith, known) in
            let there : get_or names k [] ≡ x = ap (λ (t : List Name). get_or t k []) (whole ∙ ap (λ (t : List Name). t ++ g.0) added) ∙ reads_next (take k names) x g.0 k (omega (arith, length-take k names)) in
            let no_later = place-le names k lt in
            let own : name_index names (get_or names k []) ≡ i = ap (name_index names) there in
            let equal : i ≡ k = omega (arith, no_later, own) in
            let later = makes_order ns (k + 1) (omega arith) (ap (λ (t : List Name). with_names t ns) (sym (with-next k x equal lt)) ∙ is) in
            (record { known = known; turn = omega (arith, equal) }, subst (λ (n : ℕ). InOrder names n ns (length names)) (sym (count-next k i equal)) later)
      ]

  pub table_of : (ns : List Name) → InOrder names 0 ns (length names) → with_names [] ns ≡ names
  table_of ns h = in_order ns 0 (length names) (omega arith) h ∙ take_all (length names) names (omega arith)
