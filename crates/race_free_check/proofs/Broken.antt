-- A point that breaks its condition is of a state and events that can be, so the policy is not race-free.
use Rattle.std.proofs.Common.{◌≡◌, inl, inr, ℕ, true, false, not, [], ◌∷◌, map, Option, Some, None, refl, sym, ap, subst, ◌∙◌}
use Rattle.std.specs.Prelude.{◌==◌, ◌≢◌, is_none, is_some}
use Rattle.std.specs.Option.{option_map_or}
use Rattle.std.proofs.lemmas.Bool.{and_parts, eqb-true, false≢true, not-true}
use Rattle.api_listing.specs.declared.events.Event.{Event}
use Rattle.conspec_automaton.specs.declared.policy.Policy.{Policy}
use Rattle.conspec_automaton.specs.Next.{Values, is_phase_of, method_of, next}
use Rattle.conspec_automaton.specs.Obeys.{after}
use Rattle.conspec_automaton.specs.Points.{events_of, states_of}
use Rattle.conspec_automaton.specs.Racing.{AreTested, IsCall, IsEnd, IsRaceFreeFor, Pairs}
use Rattle.conspec_automaton.specs.Range.{in_range}
use Rattle.conspec_automaton.specs.Sound.{IsPolicy}
use Rattle.conspec_automaton.specs.Trying.{Placed, Point, Trial, breaks, clauses_of, is_broken, is_end, is_tested, is_turned, points, seconds_of, trials}
use Rattle.race_free_check.specs.declared.verdict.RaceVerdict.{RaceVerdict}
use Rattle.race_free_check.specs.declared.verdict.RaceVerdict.TheVariants.{Free, Racy}
use Rattle.race_free_check.specs.Laws.{BrokenPointsRace, BrokenPointsShow}
use Rattle.race_free_check.specs.Shown.{Breaks, DoNotTurn, IsShown, ShowsRace, calls_do_not_turn, end_does_not_come_first, end_is_refused, ends_do_not_turn}
use Rattle.race_free_check.proofs.Comparing.{ends_same}
use Rattle.race_free_check.proofs.Fitting.{formed, state_in_range, tried}
use Rattle.race_free_check.proofs.Members.{Has, at_index, map_has}
use Rattle.race_free_check.proofs.Trials.{IsPlaced, IsTrial, Parts, of_call_and_end, of_calls, of_end, of_ends, parts_of, trial_is}

none_is : {X : Type 0} (o : Option X) → is_none o ≡ true → o ≡ None
none_is None e = refl
none_is (Some x) e = absurd (false≢true e)

module _ (tested : Pairs) (policy : Policy) (sound : IsPolicy policy) where
  -- ---- events that are tried

  method_is : (q : Placed) (event : Event) → Has (events_of q.1) event → q.1.method ≡ method_of event
  method_is q event h =
      let p = and_parts (q.1.method == method_of event) (is_phase_of event q.1.phase) (tried q.1 event h).speaks in
      eqb-true q.1.method (method_of event) p.0

  are_tested : (q r : Placed) (first second : Event) → is_tested tested q r ≡ true → Has (events_of q.1) first → Has (events_of r.1) second → AreTested tested first second
  are_tested q r first second asked hf hn =
      ap (λ (m : ℕ). tested m (method_of second)) (sym (method_is q first hf)) ∙ ap (tested q.1.method) (sym (method_is r second hn)) ∙ asked

  call_of : (q : Placed) (event : Event) → IsPlaced policy true q → Has (events_of q.1) event → IsCall policy event
  call_of q event placed h =
      let is = tried q.1 event h in
      record { formed = formed policy sound q.1 event placed.there is; calls = is.ends ∙ ap not placed.phase }

  end_of : (q : Placed) (event : Event) → IsPlaced policy false q → Has (events_of q.1) event → IsEnd policy event
  end_of q event placed h =
      let is = tried q.1 event h in
      record { formed = formed policy sound q.1 event placed.there is; ends = is.ends ∙ ap not placed.phase }

  -- ---- two events

  not_turned : (state : Values) (first second : Event) → is_turned policy state first second ≡ false → DoNotTurn policy state first second
  not_turned state first second turned = by (after (next policy) state (first ∷ second ∷ [])) refl turned where
    by : (o : Option Values) → after (next policy) state (first ∷ second ∷ []) ≡ o → option_map_or (λ (end : Values). is_end end (after (next policy) state (second ∷ first ∷ []))) o true ≡ false
        → DoNotTurn policy state first second
    by None e turned = absurd (false≢true (sym turned))
    by (Some end) e turned = record { end = end; accepted = e; differs = λ same. false≢true (sym turned ∙ ap (is_end end) same ∙ ends_same end end refl) }

  -- the second event of a point, and that the two do not turn
  record PairAt (r : Placed) (state : Values) (first : Event) (second : Option Event) : Type 0 where
    pub event : Event
    pub is : Some event ≡ second
    pub there : Has (events_of r.1) event
    pub turn : DoNotTurn policy state first event

  pair_at : (r : Placed) (state : Values) (first : Event) (second : Option Event) → Has (map Some (events_of r.1)) second → is_broken policy state first second ≡ true → PairAt r state first second
  pair_at r state first second h broken =
      let m = map_has Some (events_of r.1) second h in
      let both_broken : not (is_turned policy state first m.item) ≡ true = ap (is_broken policy state first) m.so ∙ broken in
      record { event = m.item; is = m.so; there = m.there; turn = not_turned state first m.item (not-true (is_turned policy state first m.item) both_broken) }

  -- ---- points

  end_shown : (q : Placed) → IsPlaced policy false q → (state : Values) (event : Event) (second : Option Event) → in_range policy state ≡ true → Has (events_of q.1) event → Has (None ∷ []) second
      → is_broken policy state event second ≡ true → IsShown tested policy 0 state event second
  end_shown q placed state event second ranged he (inl same) broken =
      let refused : next policy state event ≡ None = none_is (next policy state event) (ap (is_broken policy state event) same ∙ broken) in
      let shown : IsShown tested policy 0 state event None = record { ranged = ranged; broken = end_is_refused event (end_of q event placed he) refused } in
      subst (λ (o : Option Event). IsShown tested policy 0 state event o) same shown
  end_shown q placed state event second ranged he (inr none) broken = absurd none

  pair_shown : (condition : ℕ) (r : Placed) (state : Values) (first : Event) (second : Option Event) → in_range policy state ≡ true
      → ((event : Event) → Has (events_of r.1) event → DoNotTurn policy state first event → Breaks tested policy state condition first (Some event))
      → Has (map Some (events_of r.1)) second → is_broken policy state first second ≡ true → IsShown tested policy condition state first second
  pair_shown condition r state first second ranged each h broken =
      let m = pair_at r state first second h broken in
      let shown : IsShown tested policy condition state first (Some m.event) = record { ranged = ranged; broken = each m.event m.there m.turn } in
      subst (λ (o : Option Event). IsShown tested policy condition state first o) m.is shown

  point_shown : (trial : Trial) (point : Point) → IsTrial tested policy trial → Parts (states_of policy (clauses_of trial)) (events_of trial.first.1) (seconds_of trial.second) point → breaks policy point ≡ true
      → IsShown tested policy trial.condition point.state point.first point.second
  point_shown trial point (of_end q placed) parts broken =
      end_shown q placed point.state point.first point.second (state_in_range policy sound (q.1 ∷ []) point.state parts.state) parts.first parts.second broken
  point_shown trial point (of_calls q r p o asked) parts broken =
      pair_shown 1 r point.state point.first point.second (state_in_range policy sound (q.1 ∷ r.1 ∷ []) point.state parts.state)
      (λ event h turn. calls_do_not_turn point.first event (are_tested q r point.first event asked parts.first h) (call_of q point.first p parts.first) (call_of r event o h) turn) parts.second broken
  point_shown trial point (of_ends q r p o asked) parts broken =
      pair_shown 2 r point.state point.first point.second (state_in_range policy sound (q.1 ∷ r.1 ∷ []) point.state parts.state)
      (λ event h turn. ends_do_not_turn point.first event (are_tested q r point.first event asked parts.first h) (end_of q point.first p parts.first) (end_of r event o h) turn) parts.second broken
  point_shown trial point (of_call_and_end q r p o asked) parts broken =
      pair_shown 3 r point.state point.first point.second (state_in_range policy sound (q.1 ∷ r.1 ∷ []) point.state parts.state)
      (λ event h turn. end_does_not_come_first point.first event (are_tested q r point.first event asked parts.first h) (call_of q point.first p parts.first) (end_of r event o h) turn) parts.second broken

pub broken_points_show : BrokenPointsShow
broken_points_show tested policy sound i j trial point ht hp broken =
    let trial_there = at_index (trials tested policy) i trial ht in
    let point_there = at_index (points policy trial) j point hp in
    point_shown tested policy sound trial point (trial_is tested policy trial trial_there) (parts_of policy trial point point_there) broken

-- ---- what breaks a condition is not there in a policy that is race-free

module _ (tested : Pairs) (policy : Policy) (free : IsRaceFreeFor tested policy) where
  none_breaks : (condition : ℕ) (state : Values) (first : Event) (second : Option Event) → in_range policy state ≡ true → Breaks tested policy state condition first second → ⊥
  none_breaks condition state first second ranged (end_is_refused end is refused) = false≢true (sym (ap is_some refused) ∙ free.ends_are_taken end is state ranged)
  none_breaks condition state first second ranged (calls_do_not_turn d c asked a b turn) = turn.differs (free.calls_turn d c asked a b state turn.end ranged turn.accepted)
  none_breaks condition state first second ranged (ends_do_not_turn d c asked a b turn) = turn.differs (free.ends_turn d c asked a b state turn.end ranged turn.accepted)
  none_breaks condition state first second ranged (end_does_not_come_first d c asked a b turn) = turn.differs (free.ends_come_first d c asked a b state turn.end ranged turn.accepted)

pub shown_races : (tested : Pairs) (policy : Policy) (verdict : RaceVerdict) → ShowsRace tested policy verdict → verdict ≢ Free → IsRaceFreeFor tested policy → ⊥
shown_races tested policy Free shows racy free = racy refl
shown_races tested policy (Racy condition state first second) shows racy free = none_breaks tested policy free condition state first second shows.ranged shows.broken

pub broken_points_race : BrokenPointsRace
broken_points_race tested policy sound i j trial point ht hp broken free =
    let shown = broken_points_show tested policy sound i j trial point ht hp broken in
    none_breaks tested policy free trial.condition point.state point.first point.second shown.ranged shown.broken
