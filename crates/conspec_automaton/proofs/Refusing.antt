-- Events of which one is refused.
use Rattle.std.proofs.Common.{◌≡◌, Bool, true, false, List, [], ◌∷◌, ◌++◌, Option, Some, None, refl, sym, ap, subst, ◌∙◌}
use Rattle.std.specs.Prelude.{IsSome, option_and_then}
use Rattle.std.proofs.lemmas.Bool.{false≢true}
use Rattle.std.proofs.lemmas.List.Elements.{filter-append}
use Rattle.api_listing.specs.declared.events.Event.{Event}
use Rattle.cert_format.specs.declared.certificate.Mode.TheVariants as modes
use Rattle.conspec_automaton.specs.declared.policy.Policy.{Policy}
use Rattle.conspec_automaton.specs.Next.{has_clause, initial, next}
use Rattle.conspec_automaton.specs.Obeys.{Follows, IsFollowed, Obeys, after, is_return, spoken}
use Rattle.conspec_automaton.specs.Refused.{IsRefusedAfter, RefusedCallsDisobey, RefusedReturnsDiffer}
use Rattle.conspec_automaton.proofs.Obeying.{fewer, more, only_stops, refused_has_clause, stops}
use Rattle.conspec_automaton.proofs.Turned.{runs_join}

-- ---- events after others that are accepted, over any automaton

module _ {S E : Type 0} (next : S → E → Option S) (is_return : E → Bool) where
  abbrev FollowsFrom : S → List E → Type 0
  FollowsFrom state events = Follows next is_return state events

  more_after : (before events : List E) (first state : S) → after next first before ≡ Some state → FollowsFrom state events → FollowsFrom first (before ++ events)
  more_after [] events first state led follows =
      let same : state ≡ first = cc in
      subst (λ (s : S). FollowsFrom s events) same follows
  more_after (event ∷ before) events first state led follows = by (next first event) refl led (more_after before events) where
    by : (o : Option S) → next first event ≡ o → option_and_then (λ reached. after next reached before) o ≡ Some state
        → ((reached last : S) → after next reached before ≡ Some last → FollowsFrom last events → FollowsFrom reached (before ++ events)) → FollowsFrom first (event ∷ before ++ events)
    by None is led each = absurd cc
    by (Some reached) is led each = more next is_return first reached event (before ++ events) is (each reached state led follows)

  fewer_after : (before events : List E) (first state : S) → after next first before ≡ Some state → FollowsFrom first (before ++ events) → FollowsFrom state events
  fewer_after [] events first state led follows =
      let same : first ≡ state = cc in
      subst (λ (s : S). FollowsFrom s events) same follows
  fewer_after (event ∷ before) events first state led follows = by (next first event) refl led (fewer_after before events) where
    by : (o : Option S) → next first event ≡ o → option_and_then (λ reached. after next reached before) o ≡ Some state
        → ((reached last : S) → after next reached before ≡ Some last → FollowsFrom reached (before ++ events) → FollowsFrom last events) → FollowsFrom state events
    by None is led each = absurd cc
    by (Some reached) is led each = each reached state led (fewer next is_return first reached event (before ++ events) is follows)

  -- No list is accepted of which an event is refused.
  not_accepted : (before later : List E) (event : E) (first state : S) → after next first before ≡ Some state → next state event ≡ None → IsSome (after next first (before ++ event ∷ later)) → ⊥
  not_accepted before later event first state led refused all =
      let none : after next first (before ++ event ∷ later) ≡ None =
      runs_join next first before (event ∷ later) ∙ ap (option_and_then (λ (reached : S). after next reached (event ∷ later))) led
      ∙ ap (option_and_then (λ (reached : S). after next reached later)) refused in
      let wrong = rw none at all in
      absurd (false≢true wrong)

-- ---- a policy's

module _ (policy : Policy) (seen : List Event) (event : Event) (r : IsRefusedAfter policy seen event) where
  -- The refused event is among those that the policy has clauses for.
  spoken_refused : (later : List Event) → spoken policy (seen ++ event ∷ later) ≡ spoken policy seen ++ event ∷ spoken policy later
  spoken_refused later = filter-append (has_clause policy) seen (event ∷ later) ∙ rw (refused_has_clause policy r.state event r.refused) refl

  released_not : (later : List Event) → Obeys modes.Release policy (seen ++ event ∷ later) → ⊥
  released_not later obeys =
      not_accepted (next policy) is_return (spoken policy seen) (spoken policy later) event (initial policy) r.state r.accepted r.refused
      (subst (λ (es : List Event). IsSome (after (next policy) (initial policy) es)) (spoken_refused later) obeys)

  held : is_return event ≡ true → IsFollowed policy (seen ++ event ∷ [])
  held returns =
      subst (Follows (next policy) is_return (initial policy)) (sym (spoken_refused []))
      (more_after (next policy) is_return (spoken policy seen) (event ∷ []) (initial policy) r.state r.accepted (stops (next policy) is_return r.state event returns))

  held_not : (later : List Event) → is_return event ≡ false → IsFollowed policy (seen ++ event ∷ later) → ⊥
  held_not later calls follows =
      let following = fewer_after (next policy) is_return (spoken policy seen) (event ∷ spoken policy later) (initial policy) r.state r.accepted
      (subst (Follows (next policy) is_return (initial policy)) (spoken_refused later) follows) in
      let stop = only_stops (next policy) is_return r.state event (spoken policy later) r.refused following in
      false≢true (sym calls ∙ stop.ended)

pub refused_returns_differ : RefusedReturnsDiffer
refused_returns_differ policy seen event r returns = (held policy seen event r returns, released_not policy seen event r [])

pub refused_calls_disobey : RefusedCallsDisobey
refused_calls_disobey modes.Release policy seen later event r calls = released_not policy seen event r later
refused_calls_disobey modes.Hold policy seen later event r calls = held_not policy seen event r later calls
