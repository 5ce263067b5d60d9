-- Which trials there are, and which points of each.
use Rattle.std.proofs.Common.{◌≡◌, ◌⊎◌, inl, inr, ℕ, Bool, true, false, not, List, [], ◌∷◌, ◌++◌, map, Option, Some, None, refl, sym, ap, subst, ◌∙◌}
use Rattle.std.specs.Prelude.{filter, flat_map}
use Rattle.std.specs.List.{enumerate_from}
use Rattle.api_listing.specs.declared.events.Event.{Event}
use Rattle.conspec_automaton.specs.declared.policy.Clause.{Clause}
use Rattle.conspec_automaton.specs.declared.policy.Policy.{Policy}
use Rattle.conspec_automaton.specs.Next.{Values}
use Rattle.conspec_automaton.specs.Points.{events_of, states_of}
use Rattle.conspec_automaton.specs.Racing.{Pairs}
use Rattle.conspec_automaton.specs.Trying.{Placed, Point, Trial, alone, both, calls_in, clauses_of, ends_in, is_of_calls, is_tested, pairs, points, points_in, seconds_of, trials}
use Rattle.race_free_check.proofs.Members.{Among, Has, filter_has, flat_has, in_either, in_filter, in_flat, in_left, in_map, in_places, in_right, map_has, places_have}

-- ---- clauses with their places

module _ (policy : Policy) where
  pub call_placed : (c : Clause) → Has policy.clauses c → is_of_calls c.phase ≡ true → Among (calls_in policy) (λ (q : Placed). q.1 ≡ c)
  call_placed c h calls =
      let m = in_places policy.clauses 0 c h in
      let passes : is_of_calls m.item.1.phase ≡ true = ap (λ (d : Clause). is_of_calls d.phase) m.so ∙ calls in
      record { item = m.item; there = in_filter (λ (q : Placed). is_of_calls q.1.phase) (enumerate_from 0 policy.clauses) m.item m.there passes; so = m.so }

  pub end_placed : (c : Clause) → Has policy.clauses c → is_of_calls c.phase ≡ false → Among (ends_in policy) (λ (q : Placed). q.1 ≡ c)
  end_placed c h ends =
      let m = in_places policy.clauses 0 c h in
      let passes : not (is_of_calls m.item.1.phase) ≡ true = ap (λ (d : Clause). not (is_of_calls d.phase)) m.so ∙ ap not ends in
      record { item = m.item; there = in_filter (λ (q : Placed). not (is_of_calls q.1.phase)) (enumerate_from 0 policy.clauses) m.item m.there passes; so = m.so }

  -- a clause of the policy, for calls or for ends of calls
  pub record IsPlaced (calls : Bool) (q : Placed) : Type 0 where
    pub there : Has policy.clauses q.1
    pub phase : is_of_calls q.1.phase ≡ calls

  not_true : (b : Bool) → not b ≡ true → b ≡ false
  not_true true e = sym e
  not_true false e = refl

  call_is : (q : Placed) → Has (calls_in policy) q → IsPlaced true q
  call_is q h =
      let m = filter_has (λ (q : Placed). is_of_calls q.1.phase) (enumerate_from 0 policy.clauses) q h in
      record { there = places_have policy.clauses 0 q m.there; phase = m.passes }

  end_is : (q : Placed) → Has (ends_in policy) q → IsPlaced false q
  end_is q h =
      let m = filter_has (λ (q : Placed). not (is_of_calls q.1.phase)) (enumerate_from 0 policy.clauses) q h in
      record { there = places_have policy.clauses 0 q m.there; phase = not_true (is_of_calls q.1.phase) m.passes }

-- ---- trials

module _ (tested : Pairs) (policy : Policy) where
  abbrev lone_ends : List Trial
  lone_ends = map (alone 0) (ends_in policy)

  abbrev call_pairs : List Trial
  call_pairs = pairs tested 1 (calls_in policy) (calls_in policy)

  abbrev end_pairs : List Trial
  end_pairs = pairs tested 2 (ends_in policy) (ends_in policy)

  abbrev mixed_pairs : List Trial
  mixed_pairs = pairs tested 3 (calls_in policy) (ends_in policy)

  in_pairs : (condition : ℕ) (firsts seconds : List Placed) (q r : Placed) → Has firsts q → Has seconds r → is_tested tested q r ≡ true → Has (pairs tested condition firsts seconds) (both condition q r)
  in_pairs condition firsts seconds q r hq hr asked =
      in_flat (λ first. map (both condition first) (filter (is_tested tested first) seconds)) firsts q (both condition q r) hq
      (in_map (both condition q) (filter (is_tested tested q) seconds) r (in_filter (is_tested tested q) seconds r hr asked))

  pub tries_end : (q : Placed) → Has (ends_in policy) q → Has (trials tested policy) (alone 0 q)
  tries_end q h =
      in_left (lone_ends ++ call_pairs ++ end_pairs) mixed_pairs (alone 0 q)
      (in_left (lone_ends ++ call_pairs) end_pairs (alone 0 q)
      (in_left lone_ends call_pairs (alone 0 q) (in_map (alone 0) (ends_in policy) q h)))

  pub tries_calls : (q r : Placed) → Has (calls_in policy) q → Has (calls_in policy) r → is_tested tested q r ≡ true → Has (trials tested policy) (both 1 q r)
  tries_calls q r hq hr asked =
      in_left (lone_ends ++ call_pairs ++ end_pairs) mixed_pairs (both 1 q r)
      (in_left (lone_ends ++ call_pairs) end_pairs (both 1 q r)
      (in_right lone_ends call_pairs (both 1 q r) (in_pairs 1 (calls_in policy) (calls_in policy) q r hq hr asked)))

  pub tries_ends : (q r : Placed) → Has (ends_in policy) q → Has (ends_in policy) r → is_tested tested q r ≡ true → Has (trials tested policy) (both 2 q r)
  tries_ends q r hq hr asked =
      in_left (lone_ends ++ call_pairs ++ end_pairs) mixed_pairs (both 2 q r)
      (in_right (lone_ends ++ call_pairs) end_pairs (both 2 q r) (in_pairs 2 (ends_in policy) (ends_in policy) q r hq hr asked))

  pub tries_mixed : (q r : Placed) → Has (calls_in policy) q → Has (ends_in policy) r → is_tested tested q r ≡ true → Has (trials tested policy) (both 3 q r)
  tries_mixed q r hq hr asked =
      in_right (lone_ends ++ call_pairs ++ end_pairs) mixed_pairs (both 3 q r) (in_pairs 3 (calls_in policy) (ends_in policy) q r hq hr asked)

  -- What a trial is, by its condition.
  pub data IsTrial : Trial → Type 0 where
    of_end : (q : Placed) → IsPlaced policy false q → IsTrial (alone 0 q)
    of_calls : (q r : Placed) → IsPlaced policy true q → IsPlaced policy true r → is_tested tested q r ≡ true → IsTrial (both 1 q r)
    of_ends : (q r : Placed) → IsPlaced policy false q → IsPlaced policy false r → is_tested tested q r ≡ true → IsTrial (both 2 q r)
    of_call_and_end : (q r : Placed) → IsPlaced policy true q → IsPlaced policy false r → is_tested tested q r ≡ true → IsTrial (both 3 q r)

  pair_is : (condition : ℕ) (firsts seconds : List Placed) → ((q r : Placed) → Has firsts q → Has seconds r → is_tested tested q r ≡ true → IsTrial (both condition q r)) → (trial : Trial) → Has (pairs tested condition firsts seconds) trial → IsTrial trial
  pair_is condition firsts seconds are trial h =
      let m = flat_has (λ q. map (both condition q) (filter (is_tested tested q) seconds)) firsts trial h in
      let k = map_has (both condition m.item) (filter (is_tested tested m.item) seconds) trial m.so in
      let f = filter_has (is_tested tested m.item) seconds k.item k.there in
      subst IsTrial k.so (are m.item k.item m.there f.there f.passes)

  pub trial_is : (trial : Trial) → Has (trials tested policy) trial → IsTrial trial
  trial_is trial h = by_mixed (in_either (lone_ends ++ call_pairs ++ end_pairs) mixed_pairs trial h) where
    by_calls : Has lone_ends trial ⊎ Has call_pairs trial → IsTrial trial
    by_calls (inl k) = let m = map_has (alone 0) (ends_in policy) trial k in subst IsTrial m.so (of_end m.item (end_is policy m.item m.there))
    by_calls (inr k) = pair_is 1 (calls_in policy) (calls_in policy) (λ q r hq hr asked. of_calls q r (call_is policy q hq) (call_is policy r hr) asked) trial k

    by_ends : Has (lone_ends ++ call_pairs) trial ⊎ Has end_pairs trial → IsTrial trial
    by_ends (inl k) = by_calls (in_either lone_ends call_pairs trial k)
    by_ends (inr k) = pair_is 2 (ends_in policy) (ends_in policy) (λ q r hq hr asked. of_ends q r (end_is policy q hq) (end_is policy r hr) asked) trial k

    by_mixed : Has (lone_ends ++ call_pairs ++ end_pairs) trial ⊎ Has mixed_pairs trial → IsTrial trial
    by_mixed (inl k) = by_ends (in_either (lone_ends ++ call_pairs) end_pairs trial k)
    by_mixed (inr k) = pair_is 3 (calls_in policy) (ends_in policy) (λ q r hq hr asked. of_call_and_end q r (call_is policy q hq) (end_is policy r hr) asked) trial k

-- ---- points

abbrev point_of : Values → Event → Option Event → Point
point_of state first second = record { state = state; first = first; second = second }

module _ (states : List Values) (firsts : List Event) (seconds : List (Option Event)) where
  abbrev of_first : Values → Event → List Point
  of_first state first = map (λ second. record { state = state; first = first; second = second }) seconds

  abbrev of_state : Values → List Point
  of_state state = flat_map (λ first. map (λ second. record { state = state; first = first; second = second }) seconds) firsts

  point_in : (state : Values) (first : Event) (second : Option Event) → Has states state → Has firsts first → Has seconds second → Has (points_in states firsts seconds) (point_of state first second)
  point_in state first second hs hf hn =
      in_flat of_state states state (point_of state first second) hs
      (in_flat (of_first state) firsts first (point_of state first second) hf (in_map (λ second. point_of state first second) seconds second hn))

  -- the parts of a point
  pub record Parts (point : Point) : Type 0 where
    pub state : Has states point.state
    pub first : Has firsts point.first
    pub second : Has seconds point.second

  point_has : (point : Point) → Has (points_in states firsts seconds) point → Parts point
  point_has point h =
      let s = flat_has of_state states point h in
      let f = flat_has (of_first s.item) firsts point s.so in
      let n = map_has (λ second. point_of s.item f.item second) seconds point f.so in
      subst Parts n.so (record { state = s.there; first = f.there; second = n.there })

module _ (policy : Policy) where
  pub lone_point : (condition : ℕ) (q : Placed) (state : Values) (event : Event) → Has (states_of policy (q.1 ∷ [])) state → Has (events_of q.1) event → Has (points policy (alone condition q)) (point_of state event None)
  lone_point condition q state event hs he = point_in (states_of policy (q.1 ∷ [])) (events_of q.1) (None ∷ []) state event None hs he (inl refl)

  pub pair_point : (condition : ℕ) (q r : Placed) (state : Values) (first second : Event) → Has (states_of policy (q.1 ∷ r.1 ∷ [])) state → Has (events_of q.1) first → Has (events_of r.1) second
      → Has (points policy (both condition q r)) (point_of state first (Some second))
  pair_point condition q r state first second hs hf hn =
      point_in (states_of policy (q.1 ∷ r.1 ∷ [])) (events_of q.1) (map Some (events_of r.1)) state first (Some second) hs hf (in_map Some (events_of r.1) second hn)

  pub parts_of : (trial : Trial) (point : Point) → Has (points policy trial) point → Parts (states_of policy (clauses_of trial)) (events_of trial.first.1) (seconds_of trial.second) point
  parts_of trial point h = point_has (states_of policy (clauses_of trial)) (events_of trial.first.1) (seconds_of trial.second) point h
