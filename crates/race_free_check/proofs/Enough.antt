-- The points are enough: a policy whose conditions none of them breaks is race-free.
use Rattle.std.proofs.Common.{◌≡◌, ℕ, true, false, not, [], ◌∷◌, Option, Some, None, refl, sym, ap, ◌∙◌}
use Rattle.std.specs.Prelude.{◌==◌, IsSome, is_some, option_and_then, slice_get}
use Rattle.std.specs.Option.{option_map_or}
use Rattle.std.proofs.lemmas.Bool.{and_parts, eqb-true, false≢true, not-false}
use Rattle.api_listing.specs.declared.events.Event.{Event}
use Rattle.api_listing.specs.declared.events.Event.TheVariants as events
use Rattle.conspec_tree.specs.declared.types.Phase.{Phase}
use Rattle.conspec_automaton.specs.declared.policy.Clause.{Clause}
use Rattle.conspec_automaton.specs.declared.policy.Policy.{Policy}
use Rattle.conspec_automaton.specs.Events.{IsWellFormed}
use Rattle.conspec_automaton.specs.Next.{Values, clause_of, is_phase_of, method_of, next, speaks_of}
use Rattle.conspec_automaton.specs.Obeys.{after, is_return}
use Rattle.conspec_automaton.specs.Racing.{AreTested, IsCall, IsEnd, Pairs}
use Rattle.conspec_automaton.specs.Range.{in_range}
use Rattle.conspec_automaton.specs.Sound.{IsPolicy}
use Rattle.conspec_automaton.specs.Trying.{Placed, Point, Trial, alone, both, breaks, calls_in, ends_in, is_end, is_of_calls, is_tested, is_turned, points, trials}
use Rattle.conspec_automaton.specs.Turning.{IsTaken, Turns}
use Rattle.race_free_check.specs.Deciding.{broken_in}
use Rattle.race_free_check.specs.Laws.{PointsAreEnough}
use Rattle.race_free_check.proofs.Comparing.{same_ends, taken_of, turned_of}
use Rattle.race_free_check.proofs.Likening.{phase_after, phase_before, phase_exceptional}
use Rattle.race_free_check.proofs.Members.{Among, Has, found_passes, index_of, none_found}
use Rattle.race_free_check.proofs.Trials.{call_placed, end_placed, lone_point, pair_point, tries_calls, tries_end, tries_ends, tries_mixed}

-- ---- events that change nothing

module _ {S E : Type 0} (next : S → E → Option S) where
  -- it changes nothing
  abbrev Idle : E → Type 0
  Idle event = (state : S) → next state event ≡ Some state

  idle_turns : (state : S) (idle other : E) → Idle idle → after next state (idle ∷ other ∷ []) ≡ after next state (other ∷ idle ∷ [])
  idle_turns state idle other rests =
      ap (λ (o : Option S). option_and_then (λ reached. after next reached (other ∷ [])) o) (rests state) ∙ by (next state other) where
        by : (o : Option S) → option_and_then (λ (reached : S). Some reached) o ≡ option_and_then (λ reached. after next reached (idle ∷ [])) o
        by None = refl
        by (Some reached) = sym (ap (λ (o : Option S). option_and_then (λ (last : S). Some last) o) (rests reached))

no_clause : (policy : Policy) (event : Event) → clause_of policy event ≡ None → Idle (next policy) event
no_clause policy event e state = rw e refl

-- ---- phases

phase_tells : (event : Event) (phase : Phase) → is_phase_of event phase ≡ true → is_of_calls phase ≡ not (is_return event)
phase_tells (events.Call thread method given) phase e = ap is_of_calls (phase_before phase thread method given e)
phase_tells (events.Return thread method given) phase e = ap is_of_calls (phase_after phase thread method given e)
phase_tells (events.Except thread method) phase e = ap is_of_calls (phase_exceptional phase thread method e)

module _ (tested : Pairs) (policy : Policy) (sound : IsPolicy policy) where
  -- the clause of an event, with the phase that the event has
  record HasPhase (event : Event) (c : Clause) : Type 0 where
    pub there : Has policy.clauses c
    pub phase : is_of_calls c.phase ≡ not (is_return event)
    pub method : c.method ≡ method_of event

  clause_there : (event : Event) (c : Clause) → clause_of policy event ≡ Some c → HasPhase event c
  clause_there event c found =
      let passes = found_passes (speaks_of event) policy.clauses c found in
      let p = and_parts (c.method == method_of event) (is_phase_of event c.phase) passes.passes in
      record { there = passes.there; phase = phase_tells event c.phase p.1; method = eqb-true c.method (method_of event) p.0 }

  -- Clauses of two events are tested where the events are.
  both_tested : (d c : Clause) (q r : Placed) (first second : Event) → q.1 ≡ d → r.1 ≡ c → clause_of policy first ≡ Some d → clause_of policy second ≡ Some c → AreTested tested first second → is_tested tested q r ≡ true
  both_tested d c q r first second is same f g asked =
      let m = ap (λ (x : Clause). x.method) is ∙ (clause_there first d f).method in
      let n = ap (λ (x : Clause). x.method) same ∙ (clause_there second c g).method in
      ap (λ (k : ℕ). tested k r.1.method) m ∙ ap (tested (method_of first)) n ∙ asked

  call_at : (event : Event) (c : Clause) → is_return event ≡ false → clause_of policy event ≡ Some c → Among (calls_in policy) (λ (q : Placed). q.1 ≡ c)
  call_at event c calls found = let h = clause_there event c found in call_placed policy c h.there (h.phase ∙ ap not calls)

  end_at : (event : Event) (c : Clause) → is_return event ≡ true → clause_of policy event ≡ Some c → Among (ends_in policy) (λ (q : Placed). q.1 ≡ c)
  end_at event c ends found = let h = clause_there event c found in end_placed policy c h.there (h.phase ∙ ap not ends)

  -- ---- where no point breaks its condition

  module _ (none : (i : ℕ) (trial : Trial) → slice_get (trials tested policy) i ≡ Some trial → broken_in policy trial ≡ None) where
    unbroken : (trial : Trial) (point : Point) → Has (trials tested policy) trial → Has (points policy trial) point → breaks policy point ≡ false
    unfolding broken_in
    unbroken trial point ht hp =
        let i = index_of (trials tested policy) trial ht in
        none_found (breaks policy) (points policy trial) point (none i.place trial i.there) hp

    -- one event that has a clause
    end_taken : (q : Placed) (event : Event) (state : Values) → Has (ends_in policy) q → clause_of policy event ≡ Some q.1 → IsWellFormed policy event → in_range policy state ≡ true → IsSome (next policy state event)
    end_taken q event state h found formed ranged =
        taken_of policy sound state ranged q.1 event found formed
        (λ point other hs he. unbroken (alone 0 q) (record { state = point; first = other; second = None }) (tries_end tested policy q h) (lone_point policy 0 q point other hs he))

    -- two events that have clauses
    clauses_turn : (condition : ℕ) (q r : Placed) → Has (trials tested policy) (both condition q r) → (first second : Event) → clause_of policy first ≡ Some q.1 → clause_of policy second ≡ Some r.1
        → IsWellFormed policy first → IsWellFormed policy second → (state : Values) → in_range policy state ≡ true → is_turned policy state first second ≡ true
    clauses_turn condition q r h first second f g a b state ranged =
        turned_of policy sound state ranged q.1 r.1 first second f g a b
        (λ point e k hs hf hn. not-false (is_turned policy point e k) (unbroken (both condition q r) (record { state = point; first = e; second = Some k }) h (pair_point policy condition q r point e k hs hf hn)))

  turned_end : (state end : Values) (first second : Event) → is_turned policy state first second ≡ true → after (next policy) state (first ∷ second ∷ []) ≡ Some end → after (next policy) state (second ∷ first ∷ []) ≡ Some end
  turned_end state end first second turned accepted = by (after (next policy) state (second ∷ first ∷ [])) here where
    here : is_end end (after (next policy) state (second ∷ first ∷ [])) ≡ true
    here = ap (λ (o : Option Values). option_map_or (λ (e : Values). is_end e (after (next policy) state (second ∷ first ∷ []))) o true) (sym accepted) ∙ turned

    by : (o : Option Values) → is_end end o ≡ true → o ≡ Some end
    by None e = absurd (false≢true e)
    by (Some other) e = ap Some (sym (same_ends end other e))

  -- Two events turn where they do that have clauses.
  turn_of : (first second : Event)
      → ((d c : Clause) → clause_of policy first ≡ Some d → clause_of policy second ≡ Some c → (state : Values) → in_range policy state ≡ true → is_turned policy state first second ≡ true)
      → Turns (next policy) (in_range policy) first second
  turn_of first second each state end ranged accepted = by (clause_of policy first) refl (clause_of policy second) refl where
    by : (o : Option Clause) → clause_of policy first ≡ o → (p : Option Clause) → clause_of policy second ≡ p → after (next policy) state (second ∷ first ∷ []) ≡ Some end
    by None f p g = sym (idle_turns (next policy) state first second (no_clause policy first f)) ∙ accepted
    by (Some d) f None g = idle_turns (next policy) state second first (no_clause policy second g) ∙ accepted
    by (Some d) f (Some c) g = turned_end state end first second (each d c f g state ranged) accepted

  module _ (none : (i : ℕ) (trial : Trial) → slice_get (trials tested policy) i ≡ Some trial → broken_in policy trial ≡ None) where
    all_ends_taken : (end : Event) → IsEnd policy end → IsTaken (next policy) (in_range policy) end
    all_ends_taken end is state ranged = by (clause_of policy end) refl where
      by : (o : Option Clause) → clause_of policy end ≡ o → IsSome (next policy state end)
      by None e = ap is_some (no_clause policy end e state)
      by (Some c) e =
          let q = end_at end c is.ends e in
          end_taken none q.item end state q.there (e ∙ ap Some (sym q.so)) is.formed ranged

    all_calls_turn : (first second : Event) → AreTested tested first second → IsCall policy first → IsCall policy second → Turns (next policy) (in_range policy) first second
    all_calls_turn first second asked a b = turn_of first second (λ d c f g.
        let q = call_at first d a.calls f in
        let r = call_at second c b.calls g in
        clauses_turn none 1 q.item r.item (tries_calls tested policy q.item r.item q.there r.there (both_tested d c q.item r.item first second q.so r.so f g asked)) first second (f ∙ ap Some (sym q.so)) (g ∙ ap Some (sym r.so)) a.formed b.formed)

    all_ends_turn : (first second : Event) → AreTested tested first second → IsEnd policy first → IsEnd policy second → Turns (next policy) (in_range policy) first second
    all_ends_turn first second asked a b = turn_of first second (λ d c f g.
        let q = end_at first d a.ends f in
        let r = end_at second c b.ends g in
        clauses_turn none 2 q.item r.item (tries_ends tested policy q.item r.item q.there r.there (both_tested d c q.item r.item first second q.so r.so f g asked)) first second (f ∙ ap Some (sym q.so)) (g ∙ ap Some (sym r.so)) a.formed b.formed)

    all_ends_first : (call end : Event) → AreTested tested call end → IsCall policy call → IsEnd policy end → Turns (next policy) (in_range policy) call end
    all_ends_first call end asked a b = turn_of call end (λ d c f g.
        let q = call_at call d a.calls f in
        let r = end_at end c b.ends g in
        clauses_turn none 3 q.item r.item (tries_mixed tested policy q.item r.item q.there r.there (both_tested d c q.item r.item call end q.so r.so f g asked)) call end (f ∙ ap Some (sym q.so)) (g ∙ ap Some (sym r.so)) a.formed b.formed)

pub points_are_enough : PointsAreEnough
points_are_enough tested policy sound none = record {
  ends_are_taken = all_ends_taken tested policy sound none;
  calls_turn = all_calls_turn tested policy sound none;
  ends_turn = all_ends_turn tested policy sound none;
  ends_come_first = all_ends_first tested policy sound none;
}
