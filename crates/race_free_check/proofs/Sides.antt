-- States and events on the same sides of all that clauses compare.
use Rattle.std.proofs.Common.{◌≡◌, inl, inr, ℕ, ℤ, pos, ◌+ℤ◌, true, false, List, [], ◌∷◌, map, Option, Some, None, refl, subst, arith}
use Rattle.std.specs.Prelude.{◌==◌, ◌-ℤ◌, filter_map, flat_map, option_map, slice_get}
use Rattle.std.specs.List.{list_any}
use Rattle.std.specs.Option.{option_map_or}
use Rattle.std.proofs.lemmas.Bool.{eq-eqb, or_left, or_right}
use Rattle.std.proofs.lemmas.Int.{ints}
use Rattle.api_listing.specs.declared.events.Event.{Event}
use Rattle.conspec_tree.specs.declared.types.Atom.{Atom}
use Rattle.conspec_tree.specs.declared.types.Base.{Base}
use Rattle.conspec_tree.specs.declared.types.Base.TheVariants as bases
use Rattle.conspec_tree.specs.declared.types.Rel.{Rel}
use Rattle.conspec_tree.specs.declared.types.Update.{Update}
use Rattle.conspec_tree.specs.declared.types.Update.TheVariants.{Add}
use Rattle.conspec_tree.specs.Updates.{target}
use Rattle.conspec_automaton.specs.declared.policy.Branch.{Branch}
use Rattle.conspec_automaton.specs.declared.policy.Clause.{Clause}
use Rattle.conspec_automaton.specs.Next.{Values, argument, moment, relates, returned, value_of}
use Rattle.conspec_automaton.specs.Points.{added_to, assigned_to, atoms_in, compared_with, constants_of, is_named, is_same, marks, shifts, thresholds, updates_in}
use Rattle.race_free_check.proofs.Members.{Has, in_any, in_filter_map, in_flat, in_left, in_map}
use Rattle.race_free_check.proofs.Moves.{By, Move, Stay, To, moved}
use Rattle.race_free_check.proofs.Thresholds.{Alike, Side, relates_same, side_itself, side_shifted}
use Rattle.race_free_check.proofs.Updating.{altered, IsOnce, added, got, moves, set, untouched}

-- ---- values that are there or not

-- Both are there, and R holds of them, or neither is.
abbrev pub Meets : (ℤ → ℤ → Type 0) → Option ℤ → Option ℤ → Type 0
Meets R None None = Unit {0}
Meets R None (Some y) = ⊥
Meets R (Some x) None = ⊥
Meets R (Some x) (Some y) = R x y

-- a comparison gives the same of both
pub compares_same : (rel : Rel) (k : ℤ) (o p : Option ℤ) → Meets (Side k) o p → option_map_or (λ n. relates rel n k) o false ≡ option_map_or (λ n. relates rel n k) p false
compares_same rel k None None m = refl
compares_same rel k None (Some y) m = absurd m
compares_same rel k (Some x) None m = absurd m
compares_same rel k (Some x) (Some y) m = relates_same rel k x y m

-- ---- moved values

-- A number is compared with k after the move exactly where it is compared with one of ts before it.
abbrev Covers : List ℤ → Move → ℤ → Type 0
Covers ts Stay k = Has ts k
Covers ts (To c) k = Unit {0}
Covers ts (By n) k = Has ts (k -ℤ n)

side_moved : (m : Move) (k x y : ℤ) (ts : List ℤ) → Covers ts m k → Alike ts x y → Side k (moved m x) (moved m y)
side_moved Stay k x y ts h alike = alike k h
side_moved (To c) k x y ts h alike = side_itself k c
side_moved (By n) k x y ts h alike = side_shifted k n x y (alike (k -ℤ n) h)

pub meets_moved : (m : Move) (k : ℤ) (ts : List ℤ) (o p : Option ℤ) → Covers ts m k → Meets (Alike ts) o p → Meets (Side k) (option_map (moved m) o) (option_map (moved m) p)
meets_moved m k ts None None h meets = tt
meets_moved m k ts None (Some y) h meets = absurd meets
meets_moved m k ts (Some x) None h meets = absurd meets
meets_moved m k ts (Some x) (Some y) h meets = side_moved m k x y ts h meets

-- ---- what clauses name

module _ (cs : List Clause) where
  pub atom_in : (c : Clause) (b : Branch) (a : Atom) → Has cs c → Has c.branches b → Has b.atoms a → Has (atoms_in cs) a
  atom_in c b a hc hb ha = in_flat (λ (c : Clause). flat_map (λ (b : Branch). b.atoms) c.branches) cs c a hc (in_flat (λ (b : Branch). b.atoms) c.branches b a hb ha)

  pub update_in : (c : Clause) (b : Branch) (u : Update) → Has cs c → Has c.branches b → Has b.updates u → Has (updates_in cs) u
  update_in c b u hc hb hu = in_flat (λ (c : Clause). flat_map (λ (b : Branch). b.updates) c.branches) cs c u hc (in_flat (λ (b : Branch). b.updates) c.branches b u hb hu)

  pub constant_in : (base : Base) (a : Atom) → Has (atoms_in cs) a → is_same base a.base ≡ true → Has (constants_of base cs) a.value
  constant_in base a h e =
      let some : compared_with base a ≡ Some a.value = rw e refl in
      in_filter_map (compared_with base) (atoms_in cs) a a.value h some

  pub names_atom : (i : ℕ) (a : Atom) → Has (atoms_in cs) a → is_same (bases.Var i) a.base ≡ true → is_named i cs ≡ true
  names_atom i a h e = or_left (list_any (λ (a : Atom). is_same (bases.Var i) a.base) (atoms_in cs)) (list_any (λ u. target u == i) (updates_in cs)) (in_any (λ (a : Atom). is_same (bases.Var i) a.base) (atoms_in cs) a h e)

  pub names_update : (i : ℕ) (u : Update) → Has (updates_in cs) u → target u ≡ i → is_named i cs ≡ true
  names_update i u h e = or_right (list_any (λ (a : Atom). is_same (bases.Var i) a.base) (atoms_in cs)) (list_any (λ u. target u == i) (updates_in cs)) (in_any (λ u. target u == i) (updates_in cs) u h (eq-eqb (target u) i e))

  -- ---- thresholds

  module _ (maxint : ℤ) (i : ℕ) where
    threshold : (c k : ℤ) → Has (marks maxint i cs) c → Has (shifts i cs) k → Has (thresholds maxint i cs) (c -ℤ k)
    threshold c k hc hk = in_flat (λ c. map (λ k. c -ℤ k) (shifts i cs)) (marks maxint i cs) c (c -ℤ k) hc (in_map (λ k. c -ℤ k) (shifts i cs) k hk)

    pub mark_is : (c : ℤ) → Has (marks maxint i cs) c → Has (thresholds maxint i cs) c
    mark_is c h =
        let same : (c -ℤ pos 0) ≡ c = omega (arith, ints) in
        subst (λ (x : ℤ). Has (thresholds maxint i cs) x) same (threshold c (pos 0) h (inl refl))

    shifted_is : (c n : ℤ) → Has (marks maxint i cs) c → Has (updates_in cs) (Add i n) → Has (thresholds maxint i cs) (c -ℤ n)
    shifted_is c n h hu =
        let here : added_to i (Add i n) ≡ Some n = rw (eq-eqb i i refl) refl in
        let addend : Has (filter_map (added_to i) (updates_in cs)) n = in_filter_map (added_to i) (updates_in cs) (Add i n) n hu here in
        threshold c n h (inr (in_left (filter_map (added_to i) (updates_in cs)) (flat_map (λ a. map (λ b. a +ℤ b) (filter_map (added_to i) (updates_in cs))) (filter_map (added_to i) (updates_in cs))) n addend))

    atom_marks : (a : Atom) → Has (atoms_in cs) a → is_same (bases.Var i) a.base ≡ true → Has (marks maxint i cs) a.value
    atom_marks a h e = inr (inr (in_left (constants_of (bases.Var i) cs) (filter_map (assigned_to i) (updates_in cs)) a.value (constant_in (bases.Var i) a h e)))

    -- the thresholds cover an atom, after a move by one update
    pub covers : (a : Atom) (m : Move) → Has (atoms_in cs) a → is_same (bases.Var i) a.base ≡ true → IsOnce (updates_in cs) i m → Covers (thresholds maxint i cs) m a.value
    covers a m h e untouched = mark_is a.value (atom_marks a h e)
    covers a m h e (set c) = tt
    covers a m h e (added n hu) = shifted_is a.value n (atom_marks a h e) hu

-- ---- states and events

-- What the clauses compare is on the same side in both states.
abbrev pub Sided : ℤ → List Clause → Values → Values → Type 0
Sided maxint cs s p = (i : ℕ) → is_named i cs ≡ true → Meets (Alike (thresholds maxint i cs)) (slice_get s i) (slice_get p i)

-- What is passed or given is on the same side of k.
abbrev pub PassesAlike : Event → Event → ℤ → Base → Type 0
PassesAlike e f k (bases.Var i) = Unit {0}
PassesAlike e f k (bases.Arg i) = Meets (Side k) (argument e i) (argument f i)
PassesAlike e f k bases.Result = Meets (Side k) (returned e) (returned f)

-- What is passed or given is on the same side of all that the clause compares it with.
abbrev pub LikeEvents : Clause → Event → Event → Type 0
LikeEvents c e f = (a : Atom) → Has (atoms_in (c ∷ [])) a → PassesAlike e f a.value a.base

-- The updates are none, or those of one branch.
abbrev pub AreOnce : List Clause → List Update → Type 0
AreOnce cs us = (i : ℕ) → IsOnce (updates_in cs) i (moves us i)

module _ (maxint : ℤ) (cs : List Clause) (s p : Values) (sided : Sided maxint cs s p) (us : List Update) (once : AreOnce cs us) where
  variable_meets : (a : Atom) (i : ℕ) → Has (atoms_in cs) a → a.base ≡ bases.Var i → Meets (Side a.value) (slice_get (altered s us) i) (slice_get (altered p us) i)
  variable_meets a i h e =
      let same : is_same (bases.Var i) a.base ≡ true = rw e (eq-eqb i i refl) in
      let meets = meets_moved (moves us i) a.value (thresholds maxint i cs) (slice_get s i) (slice_get p i) (covers cs maxint i a (moves us i) h same (once i)) (sided i (names_atom cs i a h same)) in
      rw (got s us i, got p us i) meets

  pub atom_meets : (a : Atom) (e f : Event) → Has (atoms_in cs) a → PassesAlike e f a.value a.base → Meets (Side a.value) (value_of (moment (altered s us) e) a.base) (value_of (moment (altered p us) f) a.base)
  atom_meets a e f h passes = by a.base refl passes where
    by : (b : Base) → a.base ≡ b → PassesAlike e f a.value b → Meets (Side a.value) (value_of (moment (altered s us) e) b) (value_of (moment (altered p us) f) b)
    by (bases.Var i) is passed = variable_meets a i h is
    by (bases.Arg i) is passed = passed
    by bases.Result is passed = passed
