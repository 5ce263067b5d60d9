-- Clauses of which neither changes what the other names: neither event changes which branch the other takes, and their
-- updates turn. So no point of the two breaks a condition.
use Rattle.std.proofs.Common.{◌≡◌, ◌≢◌, ◌⊎◌, inl, inr, ℕ, zero, suc, ◌+◌, ◌<◌, ℤ, Bool, true, false, not, List, [], ◌∷◌, ◌++◌, length, map, Option, Some, None, refl, sym, ap, subst, ◌∙◌, arith}
use Rattle.std.specs.Prelude.{◌==◌, ◌&&◌, IfSome, option_and_then, option_map, slice_get}
use Rattle.std.specs.Option.{option_map_or}
use Rattle.std.proofs.lemmas.Bool.{eq-eqb, false≢true, not-true, or_parts}
use Rattle.std.proofs.lemmas.Option.{slice_get_within}
use Rattle.api_listing.specs.declared.events.Event.{Event}
use Rattle.conspec_tree.specs.declared.types.Atom.{Atom}
use Rattle.conspec_tree.specs.declared.types.Base.{Base}
use Rattle.conspec_tree.specs.declared.types.Base.TheVariants as bases
use Rattle.conspec_tree.specs.declared.types.Update.{Update}
use Rattle.conspec_tree.specs.declared.types.Var.{Var}
use Rattle.conspec_tree.specs.Updates.{target}
use Rattle.conspec_automaton.specs.declared.policy.Branch.{Branch}
use Rattle.conspec_automaton.specs.declared.policy.Clause.{Clause}
use Rattle.conspec_automaton.specs.declared.policy.Policy.{Policy}
use Rattle.conspec_automaton.specs.Next.{Values, holds, is_taken, moment, relates, value_of}
use Rattle.conspec_automaton.specs.Points.{atoms_in, events_of, is_named, is_same, updates_in}
use Rattle.conspec_automaton.specs.Sound.{IsClauseIn, IsPolicy}
use Rattle.conspec_automaton.specs.Trying.{Placed, Point, Trial, breaks, is_broken, is_turned, points, seconds_of}
use Rattle.race_free_check.specs.Apart.{disturbs, is_apart, is_changed, meet_at, meet_from}
use Rattle.race_free_check.specs.Deciding.{AreClausesOf, broken_in}
use Rattle.race_free_check.proofs.Choosing.{chosen, run_of}
use Rattle.race_free_check.proofs.Comparing.{ends_alike, ends_same, turned_is}
use Rattle.race_free_check.proofs.Fitting.{clause_found, tried}
use Rattle.race_free_check.proofs.Members.{Among, Has, at_index, flat_has, found_passes, in_any, map_has, none_where, of_all, same_all, same_found}
use Rattle.race_free_check.proofs.Moves.{Move, Stay, moved}
use Rattle.race_free_check.proofs.Named.{updates_alone}
use Rattle.race_free_check.proofs.Sides.{atom_in, names_atom, names_update, update_in}
use Rattle.race_free_check.proofs.Trials.{parts_of}
use Rattle.race_free_check.proofs.Updating.{altered, altered_twice, each_same, got, moves, stays, touched}

-- ---- updates that a clause does not see

-- The clause names no variable that the updates change.
abbrev Unseen : Clause → List Update → Type 0
Unseen c us = (u : Update) → Has us u → is_named (target u) (c ∷ []) ≡ false

unmoved : (o : Option ℤ) → option_map (moved Stay) o ≡ o
unmoved None = refl
unmoved (Some n) = refl

left_alone : (state : Values) (us : List Update) (i : ℕ) → moves us i ≡ Stay → slice_get (altered state us) i ≡ slice_get state i
left_alone state us i e = got state us i ∙ ap (λ (m : Move). option_map (moved m) (slice_get state i)) e ∙ unmoved (slice_get state i)

module _ (c : Clause) (us : List Update) (unseen : Unseen c us) (state : Values) (event : Event) where
  -- no update changes a variable that is named
  named_stays : (i : ℕ) → is_named i (c ∷ []) ≡ true → moves us i ≡ Stay
  named_stays i named = stays us i (λ u h same. false≢true (sym (unseen u h) ∙ ap (λ (j : ℕ). is_named j (c ∷ [])) same ∙ named))

  value_stays : (a : Atom) → Has (atoms_in (c ∷ [])) a → value_of (moment (altered state us) event) a.base ≡ value_of (moment state event) a.base
  value_stays a h = by a.base refl where
    by : (base : Base) → a.base ≡ base → value_of (moment (altered state us) event) base ≡ value_of (moment state event) base
    by (bases.Var i) e =
        let same : is_same (bases.Var i) a.base ≡ true = ap (is_same (bases.Var i)) e ∙ eq-eqb i i refl in
        left_alone state us i (named_stays i (names_atom (c ∷ []) i a h same))
    by (bases.Arg i) e = refl
    by bases.Result e = refl

  holds_still : (a : Atom) → Has (atoms_in (c ∷ [])) a → holds (moment (altered state us) event) a ≡ holds (moment state event) a
  holds_still a h = ap (λ (o : Option ℤ). option_map_or (λ n. relates a.rel n a.value) o false) (value_stays a h)

  taken_still : (b : Branch) → Has c.branches b → is_taken (moment (altered state us) event) b ≡ is_taken (moment state event) b
  taken_still b hb = same_all (holds (moment (altered state us) event)) (holds (moment state event)) b.atoms (λ a ha. holds_still a (atom_in (c ∷ []) c b a (inl refl) hb ha))

  chosen_still : chosen c (altered state us) event ≡ chosen c state event
  chosen_still = same_found (is_taken (moment (altered state us) event)) (is_taken (moment state event)) c.branches taken_still

-- ---- updates of different variables turn

moves_turn : (m k : Move) → (m ≡ Stay) ⊎ (k ≡ Stay) → (x : ℤ) → moved k (moved m x) ≡ moved m (moved k x)
moves_turn m k (inl e) x = subst (λ (n : Move). moved k (moved n x) ≡ moved n (moved k x)) (sym e) refl
moves_turn m k (inr e) x = subst (λ (n : Move). moved n (moved m x) ≡ moved m (moved n x)) (sym e) refl

option_turns : (m k : Move) → (m ≡ Stay) ⊎ (k ≡ Stay) → (o : Option ℤ) → option_map (moved k) (option_map (moved m) o) ≡ option_map (moved m) (option_map (moved k) o)
option_turns m k one None = refl
option_turns m k one (Some x) = ap Some (moves_turn m k one x)

module _ (us vs : List Update) (differ : (u v : Update) → Has us u → Has vs v → target u ≢ target v) where
  one_stays : (i : ℕ) → (moves us i ≡ Stay) ⊎ (moves vs i ≡ Stay)
  one_stays i = by (touched us i) where
    by : (moves us i ≡ Stay) ⊎ Among us (λ u. target u ≡ i) → (moves us i ≡ Stay) ⊎ (moves vs i ≡ Stay)
    by (inl stay) = inl stay
    by (inr m) = inr (stays vs i (λ v h same. differ m.item v m.there h (m.so ∙ sym same)))

  both_got : (state : Values) (ws xs : List Update) (i : ℕ) → slice_get (altered state (ws ++ xs)) i ≡ option_map (moved (moves xs i)) (option_map (moved (moves ws i)) (slice_get state i))
  both_got state ws xs i = ap (λ (values : Values). slice_get values i) (altered_twice state ws xs) ∙ got (altered state ws) xs i ∙ ap (option_map (moved (moves xs i))) (got state ws i)

  updates_turn : (state : Values) → altered state (us ++ vs) ≡ altered state (vs ++ us)
  updates_turn state = each_same (altered state (us ++ vs)) (altered state (vs ++ us))
      (λ i. both_got state us vs i ∙ option_turns (moves us i) (moves vs i) (one_stays i) (slice_get state i) ∙ sym (both_got state vs us i))

-- ---- clauses that are apart

-- The clause names no variable that an update of the other changes.
abbrev Overlooks : Clause → Clause → Type 0
Overlooks c d = Unseen c (updates_in (d ∷ []))

branch_unseen : (c d : Clause) (b : Branch) → Overlooks c d → Has d.branches b → Unseen c b.updates
branch_unseen c d b over hb u h = over u (update_in (d ∷ []) d b u (inl refl) hb h)

-- both branches are chosen in the state before
abbrev run_at_once : Option Branch → Option Branch → Option (List Update)
run_at_once o p = option_and_then (λ (b : Branch). option_map (λ (e : Branch). b.updates ++ e.updates) p) o

run_still : (d c : Clause) (state : Values) (first second : Event) → Overlooks c d → run_of d c state first second ≡ run_at_once (chosen d state first) (chosen c state second)
run_still d c state first second over = by (chosen d state first) refl where
  by : (o : Option Branch) → chosen d state first ≡ o
      → option_and_then (λ (b : Branch). option_map (λ (e : Branch). b.updates ++ e.updates) (chosen c (altered state b.updates) second)) o ≡ run_at_once o (chosen c state second)
  by None found = refl
  by (Some b) found =
      let there = (found_passes (is_taken (moment state first)) d.branches b found).there in
      ap (option_map (λ (e : Branch). b.updates ++ e.updates)) (chosen_still c b.updates (branch_unseen c d b over there) state second)

module _ (d c : Clause) (state : Values) (first second : Event) (ahead : Overlooks c d) (following : Overlooks d c) where
  branches_differ : (b e : Branch) → Has d.branches b → Has c.branches e → (u v : Update) → Has b.updates u → Has e.updates v → target u ≢ target v
  branches_differ b e hb he u v hu hv same =
      false≢true (sym (branch_unseen c d b ahead hb u hu) ∙ names_update (c ∷ []) (target u) v (update_in (c ∷ []) c e v (inl refl) he hv) (sym same))

  at_once_alike : (o p : Option Branch) → chosen d state first ≡ o → chosen c state second ≡ p → ends_alike state (run_at_once o p) (run_at_once p o) ≡ true
  at_once_alike None p found other = refl
  at_once_alike (Some b) None found other = refl
  at_once_alike (Some b) (Some e) found other =
      let hb = (found_passes (is_taken (moment state first)) d.branches b found).there in
      let he = (found_passes (is_taken (moment state second)) c.branches e other).there in
      ends_same (altered state (b.updates ++ e.updates)) (altered state (e.updates ++ b.updates)) (updates_turn b.updates e.updates (branches_differ b e hb he) state)

  runs_alike : ends_alike state (run_of d c state first second) (run_of c d state second first) ≡ true
  runs_alike =
      ap (λ (run : Option (List Update)). ends_alike state run (run_of c d state second first)) (run_still d c state first second ahead)
      ∙ ap (ends_alike state (run_at_once (chosen d state first) (chosen c state second))) (run_still c d state second first following)
      ∙ at_once_alike (chosen d state first) (chosen c state second) refl refl

-- ---- the test

and_false : (a b : Bool) → (a && b) ≡ false → a ≡ true → b ≡ false
and_false true b e t = e
and_false false b e t = absurd (false≢true t)

meet_nowhere : (first second : Clause) (vars : List Var) (place i : ℕ) → meet_from place vars first second ≡ false → i < length vars → meet_at (place + i) first second ≡ false
meet_nowhere first second [] place i none below = absurd (omega arith)
meet_nowhere first second (var ∷ vars) place zero none below =
    let same : place ≡ place + 0 = omega arith in
    subst (λ (n : ℕ). meet_at n first second ≡ false) same (or_parts (meet_at place first second) (meet_from (place + 1) vars first second) none).0
meet_nowhere first second (var ∷ vars) place (suc i) none below =
    let same : (place + 1) + i ≡ place + suc i = omega arith in
    let later = meet_nowhere first second vars (place + 1) i (or_parts (meet_at place first second) (meet_from (place + 1) vars first second) none).1 (omega arith) in
    subst (λ (n : ℕ). meet_at n first second ≡ false) same later

undisturbed : (d c : Clause) (u : Update) → disturbs (target u) d c ≡ false → Has (updates_in (d ∷ [])) u → is_named (target u) (c ∷ []) ≡ false
undisturbed d c u none h =
    let changed : is_changed (target u) d ≡ true = in_any (λ (w : Update). target w == target u) (updates_in (d ∷ [])) u h (eq-eqb (target u) (target u) refl) in
    and_false (is_changed (target u) d) (is_named (target u) (c ∷ [])) none changed

-- ---- trials

module _ (policy : Policy) (sound : IsPolicy policy) where
  target_below : (d : Clause) → Has policy.clauses d → (u : Update) → Has (updates_in (d ∷ [])) u → target u < length policy.vars
  target_below d hd u h =
      let m = flat_has (λ (b : Branch). b.updates) d.branches u (subst (λ (us : List Update). Has us u) (updates_alone d) h) in
      let clause = of_all (IsClauseIn policy.vars policy.maxint) policy.clauses d sound.clauses hd in
      let branch = of_all _ d.branches m.item clause.branches m.there in
      let update = of_all _ m.item.updates u branch.updates m.so in
      slice_get_within policy.vars (target u) update.variable update.there

  module _ (d c : Clause) (hd : Has policy.clauses d) (hc : Has policy.clauses c) (apart : meet_from 0 policy.vars d c ≡ false) where
    meet_not : (i : ℕ) → i < length policy.vars → meet_at i d c ≡ false
    meet_not i below = let same : 0 + i ≡ i = omega arith in subst (λ (n : ℕ). meet_at n d c ≡ false) same (meet_nowhere d c policy.vars 0 i apart below)

    overlooks_ahead : Overlooks c d
    overlooks_ahead u h = undisturbed d c u (or_parts (disturbs (target u) d c) (disturbs (target u) c d) (meet_not (target u) (target_below d hd u h))).0 h

    overlooks_after : Overlooks d c
    overlooks_after u h = undisturbed c d u (or_parts (disturbs (target u) d c) (disturbs (target u) c d) (meet_not (target u) (target_below c hc u h))).1 h

    turned_apart : (state : Values) (first second : Event) → Has (events_of d) first → Has (events_of c) second → is_turned policy state first second ≡ true
    turned_apart state first second hf hn =
        turned_is policy d c state first second (clause_found policy sound d first hd (tried d first hf).speaks) (clause_found policy sound c second hc (tried c second hn).speaks)
        ∙ runs_alike d c state first second overlooks_ahead overlooks_after

  -- no point of clauses that are apart breaks a condition
  passes_apart : (trial : Trial) → AreClausesOf policy trial → is_apart policy trial ≡ true → (point : Point) → Has (points policy trial) point → breaks policy point ≡ false
  passes_apart trial clauses apart point h = by trial.second refl where
    test : Option Placed → Bool
    test o = option_map_or (λ (c : Placed). not (meet_from 0 policy.vars trial.first.1 c.1)) o false

    by : (o : Option Placed) → trial.second ≡ o → breaks policy point ≡ false
    by None e = absurd (false≢true (sym (ap test e) ∙ apart))
    by (Some r) e =
        let parts = parts_of policy trial point h in
        let n : Has (map Some (events_of r.1)) point.second = subst (λ (o : Option Placed). Has (seconds_of o) point.second) e parts.second in
        let m = map_has Some (events_of r.1) point.second n in
        let none = not-true (meet_from 0 policy.vars trial.first.1 r.1) (sym (ap test e) ∙ apart) in
        let first_in = at_index policy.clauses trial.first.0 trial.first.1 clauses.first_there in
        let second_in = at_index policy.clauses r.0 r.1 (subst (λ (o : Option Placed). IfSome o (λ (c : Placed). slice_get policy.clauses c.0 ≡ Some c.1)) e clauses.second_there) in
        let turned = turned_apart trial.first.1 r.1 first_in second_in none point.state point.first m.item parts.first m.there in
        sym (ap (is_broken policy point.state point.first) m.so) ∙ ap not turned

  pub apart_unbroken : (trial : Trial) → AreClausesOf policy trial → is_apart policy trial ≡ true → broken_in policy trial ≡ None
  unfolding broken_in
  apart_unbroken trial clauses apart = none_where (breaks policy) (points policy trial) (passes_apart trial clauses apart)
