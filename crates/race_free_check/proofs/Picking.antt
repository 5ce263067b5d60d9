-- For each state there is a point on the same sides, at which two lists of updates that differ still differ.
use Rattle.std.proofs.Common.{◌≡◌, ◌⊎◌, inl, inr, ℕ, zero, suc, ◌+◌, ℤ, pos, Bool, true, false, List, [], ◌∷◌, map, Option, Some, None, refl, sym, ap, subst, ◌∙◌, arith}
use Rattle.std.specs.Prelude.{◌≤ℤ◌, if◌then◌else◌, option_map, slice_get}
use Rattle.std.specs.List.{enumerate_from}
use Rattle.std.specs.Ordering.{int_eq}
use Rattle.std.proofs.lemmas.Bool.{and_parts, false≢true}
use Rattle.std.proofs.lemmas.Int.{ints, by_lt_z}
use Rattle.std.proofs.lemmas.Option.{same_Some}
use Rattle.conspec_tree.specs.declared.types.Update.{Update}
use Rattle.conspec_tree.specs.declared.types.Var.{Var}
use Rattle.conspec_tree.specs.Tree.{greatest}
use Rattle.conspec_automaton.specs.declared.policy.Clause.{Clause}
use Rattle.conspec_automaton.specs.Next.{Values}
use Rattle.conspec_automaton.specs.Points.{is_named, named_points, near, variable_numbers, thresholds, updates_in}
use Rattle.conspec_automaton.specs.Range.{are_in_range, is_in_range}
use Rattle.race_free_check.proofs.EachChoice.{Choice}
use Rattle.race_free_check.proofs.Members.{Among, Has}
use Rattle.race_free_check.proofs.Nearest.{Near, in_ascending, itself, near_point, two}
use Rattle.race_free_check.proofs.Moves.{Move, Stay, agree, moved}
use Rattle.race_free_check.proofs.Thresholds.{Alike, differs, equals, side_itself, within}
use Rattle.race_free_check.proofs.Sides.{Meets, Sided, mark_is, names_update}
use Rattle.race_free_check.proofs.Updating.{altered, each_same, got, moves, stays}

-- ---- one number

-- where two moves agree at y they agree at x
abbrev pub Tells : Move → Move → ℤ → ℤ → Type 0
Tells f g x y = moved f y ≡ moved g y → moved f x ≡ moved g x

-- of a number there is an alike point that tells
tells_near : (points ts : List ℤ) (f g : Move) (x : ℤ) → Near points ts x → Among points (λ y. Alike ts x y × Tells f g x y)
tells_near points ts f g x (itself h) = record { item = x; there = h; so = (λ t k. side_itself t x, λ e. e) }
tells_near points ts f g x (two p q ne hp hq ap aq) = by (int_eq (moved f p) (moved g p)) refl where
  by : (b : Bool) → int_eq (moved f p) (moved g p) ≡ b → Among points (λ y. Alike ts x y × Tells f g x y)
  by true e = record { item = q; there = hq; so = (aq, λ same. agree f g p q x ne (equals (moved f p) (moved g p) e) same) }
  by false e = record { item = p; there = hp; so = (ap, λ same. absurd (differs (moved f p) (moved g p) e same)) }

zero_or_one : (x : ℤ) → pos 0 ≤ℤ x → x ≤ℤ pos 1 → Has (pos 0 ∷ pos 1 ∷ []) x
zero_or_one x low high =
    by_lt_z (pos 0) x (λ lt. let e : pos 1 ≡ x = omega (arith, ints) in inr (inl e)) (λ le. let e : pos 0 ≡ x = omega (arith, ints) in inl e)

-- ---- one variable

module _ (maxint : ℤ) (cs : List Clause) (us vs : List Update) where
  -- y is a point for x.
  pub record Stands (i : ℕ) (x y : ℤ) : Type 0 where
    pub alike : is_named i cs ≡ true → Alike (thresholds maxint i cs) x y
    pub tells : Tells (moves us i) (moves vs i) x y

  pick_int : (i : ℕ) (x : ℤ) → pos 0 ≤ℤ x → x ≤ℤ maxint → Among (named_points maxint i false cs) (Stands i x)
  pick_int i x low high =
      let found = near_point (pos 0) maxint x (thresholds maxint i cs) low high (mark_is cs maxint i (pos 0) (inl refl)) (mark_is cs maxint i maxint (inr (inl refl))) in
      let m = tells_near (near (pos 0) maxint (thresholds maxint i cs)) (thresholds maxint i cs) (moves us i) (moves vs i) x found in
      record { item = m.item; there = in_ascending m.item (near (pos 0) maxint (thresholds maxint i cs)) m.there; so = record { alike = λ named. m.so.0; tells = m.so.1 } }

  pick_named : (i : ℕ) (is_bool : Bool) (x : ℤ) → pos 0 ≤ℤ x → x ≤ℤ greatest maxint is_bool → Among (named_points maxint i is_bool cs) (Stands i x)
  pick_named i true x low high = record { item = x; there = zero_or_one x low high; so = record { alike = λ named t h. side_itself t x; tells = λ e. e } }
  pick_named i false x low high = pick_int i x low high

  module _ (inside : (u : Update) → Has us u ⊎ Has vs u → Has (updates_in cs) u) where
    unnamed_stays : (ws : List Update) (i : ℕ) → is_named i cs ≡ false → ((u : Update) → Has ws u → Has (updates_in cs) u) → moves ws i ≡ Stay
    unnamed_stays ws i e each = stays ws i (λ u h same. let named = names_update cs i u (each u h) same in false≢true (sym e ∙ named))

    unnamed_tells : (i : ℕ) (x y : ℤ) → is_named i cs ≡ false → Tells (moves us i) (moves vs i) x y
    unnamed_tells i x y e same =
        let f = unnamed_stays us i e (λ u h. inside u (inl h)) in
        let g = unnamed_stays vs i e (λ u h. inside u (inr h)) in
        ap (λ (m : Move). moved m x) (f ∙ sym g)

    pick : (i : ℕ) (v : Var) (x : ℤ) → is_in_range maxint v x ≡ true → Among (variable_numbers maxint cs i v) (Stands i x)
    pick i v x r = by (is_named i cs) refl where
      by : (b : Bool) → is_named i cs ≡ b → Among (if b then named_points maxint i v.is_bool cs else v.first ∷ []) (Stands i x)
      by true e = let w = within (pos 0) (greatest maxint v.is_bool) x r in pick_named i v.is_bool x w.least w.most
      by false e = record { item = v.first; there = inl refl; so = record { alike = λ named. absurd (false≢true (sym e ∙ named)); tells = unnamed_tells i x v.first e } }

    -- ---- all variables

    abbrev choices : ℕ → List Var → List (List ℤ)
    choices n vars = map (λ (v : ℕ × Var). variable_numbers maxint cs v.0 v.1) (enumerate_from n vars)

    -- a choice of points that stand for the values, the first variable having the number n
    pub record Picked (n : ℕ) (vars : List Var) (s : Values) : Type 0 where
      pub point : Values
      pub choice : Choice (choices n vars) point
      pub stands : (j k : ℕ) → k ≡ n + j → Meets (Stands k) (slice_get s j) (slice_get point j)

    pub pick_all : (vars : List Var) (n : ℕ) (s : Values) → are_in_range maxint vars s ≡ true → Picked n vars s
    pick_all [] n [] r = record { point = []; choice = tt; stands = λ j k e. tt }
    pick_all [] n (x ∷ s) r = absurd (false≢true r)
    pick_all (v ∷ vars) n [] r = absurd (false≢true r)
    pick_all (v ∷ vars) n (x ∷ s) r = by (and_parts (is_in_range maxint v x) (are_in_range maxint vars s) r) (pick_all vars (n + 1) s) where
      joined : (here : Among (variable_numbers maxint cs n v) (Stands n x)) (rest : Picked (n + 1) vars s) → (j k : ℕ) → k ≡ n + j → Meets (Stands k) (slice_get (x ∷ s) j) (slice_get (here.item ∷ rest.point) j)
      joined here rest zero k e = let same : n ≡ k = omega arith in subst (λ (i : ℕ). Stands i x here.item) same here.so
      joined here rest (suc j) k e = rest.stands j k (omega arith)

      by : (is_in_range maxint v x ≡ true) × (are_in_range maxint vars s ≡ true) → (are_in_range maxint vars s ≡ true → Picked (n + 1) vars s) → Picked n (v ∷ vars) (x ∷ s)
      by parts later =
          let here = pick n v x parts.0 in
          let rest = later parts.1 in
          record { point = here.item ∷ rest.point; choice = (here.there, rest.choice); stands = joined here rest }

  -- ---- states

  -- a state that stands for another
  abbrev pub StandsFor : Values → Values → Type 0
  StandsFor s p = (i : ℕ) → Meets (Stands i) (slice_get s i) (slice_get p i)

  meets_by : (R Q : ℤ → ℤ → Type 0) → ((x y : ℤ) → R x y → Q x y) → (o p : Option ℤ) → Meets R o p → Meets Q o p
  meets_by R Q each None None m = tt
  meets_by R Q each None (Some y) m = absurd m
  meets_by R Q each (Some x) None m = absurd m
  meets_by R Q each (Some x) (Some y) m = each x y m

  pub stands_sided : (s p : Values) → StandsFor s p → Sided maxint cs s p
  stands_sided s p stands i named = meets_by (Stands i) (Alike (thresholds maxint i cs)) (λ x y m. m.alike named) (slice_get s i) (slice_get p i) (stands i)

  value_told : (i : ℕ) (o p : Option ℤ) → Meets (Stands i) o p → option_map (moved (moves us i)) p ≡ option_map (moved (moves vs i)) p → option_map (moved (moves us i)) o ≡ option_map (moved (moves vs i)) o
  value_told i None None m e = refl
  value_told i None (Some y) m e = absurd m
  value_told i (Some x) None m e = absurd m
  value_told i (Some x) (Some y) m e = ap Some (m.tells (same_Some (moved (moves us i) y) (moved (moves vs i) y) e))

  -- where both lists of updates lead to the same from the point, they do from the state
  pub ends_told : (s p : Values) → StandsFor s p → altered p us ≡ altered p vs → altered s us ≡ altered s vs
  ends_told s p stands e = each_same (altered s us) (altered s vs) at where
    at : (i : ℕ) → slice_get (altered s us) i ≡ slice_get (altered s vs) i
    at i =
        let same : option_map (moved (moves us i)) (slice_get p i) ≡ option_map (moved (moves vs i)) (slice_get p i) = sym (got p us i) ∙ ap (λ (xs : Values). slice_get xs i) e ∙ got p vs i in
        got s us i ∙ value_told i (slice_get s i) (slice_get p i) (stands i) same ∙ sym (got s vs i)
