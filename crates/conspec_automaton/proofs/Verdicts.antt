-- What a verdict says of the events that are run.
use Rattle.std.proofs.Common.{◌≡◌, ℕ, ◌+◌, Bool, true, false, not, List, [], ◌∷◌, ◌++◌, length, Option, Some, None, refl, ap, arith}
use Rattle.std.specs.Prelude.{IsSome, option_and_then, if◌then◌else◌}
use Rattle.std.specs.List.{list_any}
use Rattle.std.specs.Option.{option_map_or}
use Rattle.std.proofs.lemmas.Bool.{and_parts, false≢true}
use Rattle.api_listing.specs.declared.events.Event.{Event}
use Rattle.conspec_automaton.specs.declared.policy.Policy.{Policy}
use Rattle.conspec_automaton.specs.declared.running.Verdict.{Verdict}
use Rattle.conspec_automaton.specs.declared.running.Verdict.TheVariants.{Accepted, StoppedAt, Refused}
use Rattle.conspec_automaton.specs.Next.{Values, has_clause, initial, next}
use Rattle.conspec_automaton.specs.Obeys.{after, is_return}
use Rattle.conspec_automaton.specs.Verdict.{IsRefusedAt, IsVerdict, may_stop, refusal, verdict, verdict_from}
use Rattle.conspec_automaton.proofs.Obeying.{not_true_is}

module _ (policy : Policy) where
  -- The same from any state, where so many events were before.
  record RefusedFrom (first : Values) (before : ℕ) (events : List Event) (index : ℕ) : Type 0 where
    pub earlier : List Event
    pub event : Event
    pub later : List Event
    pub split : events ≡ earlier ++ event ∷ later
    pub place : before + length earlier ≡ index
    pub state : Values
    pub accepted : after (next policy) first earlier ≡ Some state
    pub refused : next policy state event ≡ None

  abbrev VerdictFrom : Values → ℕ → List Event → Verdict → Type 0
  VerdictFrom first before events Accepted = IsSome (after (next policy) first events)
  VerdictFrom first before events (StoppedAt index) =
      (at : RefusedFrom first before events index) × (is_return at.event ≡ true) × (list_any (has_clause policy) at.later ≡ false)
  VerdictFrom first before events (Refused index) = (at : RefusedFrom first before events index) × (may_stop policy at.event at.later ≡ false)

  refused_here : (before : ℕ) (state : Values) (event : Event) (later : List Event) → next policy state event ≡ None → VerdictFrom state before (event ∷ later) (refusal policy before event later)
  refused_here before state event later e = by (may_stop policy event later) refl where
    here : RefusedFrom state before (event ∷ later) before
    here = record { earlier = []; event = event; later = later; split = refl; place = omega arith; state = state; accepted = refl; refused = e }

    by : (b : Bool) → may_stop policy event later ≡ b → VerdictFrom state before (event ∷ later) (if b then StoppedAt before else Refused before)
    by true is = let p = and_parts (is_return event) (not (list_any (has_clause policy) later)) is in (here, p.0, not_true_is (list_any (has_clause policy) later) p.1)
    by false is = (here, is)

  refused_later : (first reached : Values) (before : ℕ) (event : Event) (later : List Event) (index : ℕ) → next policy first event ≡ Some reached → RefusedFrom reached (before + 1) later index → RefusedFrom first before (event ∷ later) index
  refused_later first reached before event later index e at = record {
    earlier = event ∷ at.earlier;
    event = at.event;
    later = at.later;
    split = ap (λ (events : List Event). event ∷ events) at.split;
    place = omega (arith, at.place);
    state = at.state;
    accepted = rw e at.accepted;
    refused = at.refused;
  }

  one_more : (first reached : Values) (before : ℕ) (event : Event) (later : List Event) (v : Verdict) → next policy first event ≡ Some reached → VerdictFrom reached (before + 1) later v → VerdictFrom first before (event ∷ later) v
  unfolding refused_later
  one_more first reached before event later Accepted e all = rw e all
  one_more first reached before event later (StoppedAt index) e stop = (refused_later first reached before event later index e stop.0, stop.1, stop.2)
  one_more first reached before event later (Refused index) e fails = (refused_later first reached before event later index e fails.0, fails.1)

  means_from : (before : ℕ) (state : Values) (events : List Event) → VerdictFrom state before events (verdict_from policy before state events)
  means_from before state [] = refl
  means_from before state (event ∷ later) = by (next policy state event) refl (λ reached. means_from (before + 1) reached later) where
    by : (o : Option Values) → next policy state event ≡ o → ((reached : Values) → VerdictFrom reached (before + 1) later (verdict_from policy (before + 1) reached later))
        → VerdictFrom state before (event ∷ later) (option_map_or (λ reached. verdict_from policy (before + 1) reached later) o (refusal policy before event later))
    by None e each = refused_here before state event later e
    by (Some reached) e each = one_more state reached before event later (verdict_from policy (before + 1) reached later) e (each reached)

  accepted_from : (before : ℕ) (state : Values) (events : List Event) → IsSome (after (next policy) state events) → verdict_from policy before state events ≡ Accepted
  accepted_from before state [] some = refl
  accepted_from before state (event ∷ later) some = by (next policy state event) some (λ reached. accepted_from (before + 1) reached later) where
    by : (o : Option Values) → IsSome (option_and_then (λ reached. after (next policy) reached later) o) → ((reached : Values) → IsSome (after (next policy) reached later) → verdict_from policy (before + 1) reached later ≡ Accepted)
        → option_map_or (λ reached. verdict_from policy (before + 1) reached later) o (refusal policy before event later) ≡ Accepted
    by None none each = absurd (false≢true none)
    by (Some reached) some each = each reached some

  refused_at : (events : List Event) (index : ℕ) → RefusedFrom (initial policy) 0 events index → IsRefusedAt policy events index
  refused_at events index at = record {
    earlier = at.earlier;
    event = at.event;
    later = at.later;
    split = at.split;
    place = omega (arith, at.place);
    state = at.state;
    accepted = at.accepted;
    refused = at.refused;
  }

  at_start : (events : List Event) (v : Verdict) → VerdictFrom (initial policy) 0 events v → IsVerdict policy events v
  unfolding refused_at
  at_start events Accepted all = all
  at_start events (StoppedAt index) stop = record { at = refused_at events index stop.0; returns = stop.1; last = stop.2 }
  at_start events (Refused index) fails = record { at = refused_at events index fails.0; fails = fails.1 }

  -- The verdict says what it says.
  pub verdict_means : (events : List Event) → IsVerdict policy events (verdict policy events)
  verdict_means events = at_start events (verdict policy events) (means_from 0 (initial policy) events)

  pub accepted_is : (events : List Event) → IsSome (after (next policy) (initial policy) events) → verdict policy events ≡ Accepted
  accepted_is events some = accepted_from 0 (initial policy) events some
