-- The verdict is not Refused exactly where the events obey the policy.
use Rattle.std.proofs.Common.{◌≡◌, ℕ, ◌+◌, Bool, true, false, not, cond, List, [], ◌∷◌, ◌++◌, Option, Some, None, refl, sym, ap, subst, ◌∙◌, inl, inr, IsTrue, filter}
use Rattle.std.specs.Prelude.{◌||◌, IsSome, is_some}
use Rattle.std.specs.List.{list_any}
use Rattle.std.specs.Option.{option_map_or}
use Rattle.std.proofs.lemmas.Bool.{and_parts, false≢true}
use Rattle.api_listing.specs.declared.events.Event.{Event}
use Rattle.conspec_automaton.specs.declared.policy.Clause.{Clause}
use Rattle.conspec_automaton.specs.declared.policy.Policy.{Policy}
use Rattle.conspec_automaton.specs.Next.{Values, clause_of, has_clause, initial, moment, next, next_by}
use Rattle.conspec_automaton.specs.Obeys.{Follows, IsFollowed, after, is_return}
use Rattle.conspec_automaton.specs.Verdict.{is_refused, may_stop, refusal, verdict, verdict_from}

-- ---- one event more, over any automaton

module _ {S E : Type 0} (next : S → E → Option S) (is_return : E → Bool) where
  abbrev Ends : S → List E → Type 0
  Ends state events = (before : List E) × (last : E) × (events ≡ before ++ last ∷ []) × IsTrue (is_return last) × IsSome (after next state before)

  pub more : (state reached : S) (event : E) (events : List E) → next state event ≡ Some reached → Follows next is_return reached events → Follows next is_return state (event ∷ events)
  more state reached event events e (inl all) = inl (rw e all)
  more state reached event events e (inr ends) =
      let shifted : Ends state (event ∷ events) = (event ∷ ends.0, ends.1, ap (λ (es : List E). event ∷ es) ends.2, ends.3, rw e ends.4) in
      inr shifted

  pub fewer : (state reached : S) (event : E) (events : List E) → next state event ≡ Some reached → Follows next is_return state (event ∷ events) → Follows next is_return reached events
  fewer state reached event events e (inl all) = inl (rw e at all)
  fewer state reached event events e (inr ends) = by ends.0 ends.1 ends.2 ends.3 ends.4 where
    by : (before : List E) (last : E) → event ∷ events ≡ before ++ last ∷ [] → IsTrue (is_return last) → IsSome (after next state before) → Follows next is_return reached events
    by [] last is r some =
        let none : events ≡ [] = cc in
        subst (λ (es : List E). Follows next is_return reached es) (sym none) (inl refl)
    by (first ∷ before) last is r some =
        let same : event ≡ first = cc in
        let rest : events ≡ before ++ last ∷ [] = cc in
        let here : next state first ≡ Some reached = subst (λ (x : E). next state x ≡ Some reached) same e in
        let kept : IsSome (after next reached before) = rw here at some in
        let shifted : Ends reached events = (before, last, rest, r, kept) in
        inr shifted

  -- a refused return that is the last
  pub stops : (state : S) (event : E) → is_return event ≡ true → Follows next is_return state (event ∷ [])
  stops state event is =
      let ends : Ends state (event ∷ []) = ([], event, refl, is, refl) in
      inr ends

  -- a refused event is the last, and a return
  pub record IsStop (event : E) (events : List E) : Type 0 where
    pub ended : is_return event ≡ true
    pub none : events ≡ []

  pub only_stops : (state : S) (event : E) (events : List E) → next state event ≡ None → Follows next is_return state (event ∷ events) → IsStop event events
  only_stops state event events e (inl all) = let none = rw e at all in absurd (false≢true none)
  only_stops state event events e (inr ends) = by ends.0 ends.1 ends.2 ends.3 ends.4 where
    by : (before : List E) (last : E) → event ∷ events ≡ before ++ last ∷ [] → IsTrue (is_return last) → IsSome (after next state before) → IsStop event events
    by [] last is r some =
        let same : last ≡ event = cc in
        record { ended = subst (λ (x : E). is_return x ≡ true) same r; none = cc }
    by (first ∷ before) last is r some =
        let same : event ≡ first = cc in
        let here : next state first ≡ None = subst (λ (x : E). next state x ≡ None) same e in
        let none = rw here at some in
        absurd (false≢true none)

-- ---- events without a clause

no_clause : (policy : Policy) (state : Values) (event : Event) → has_clause policy event ≡ false → next policy state event ≡ Some state
no_clause policy state event e = by (clause_of policy event) e where
  by : (o : Option Clause) → is_some o ≡ false → option_map_or (λ clause. next_by clause (moment state event)) o (Some state) ≡ Some state
  by None is = refl
  by (Some clause) is = absurd (false≢true (sym is))

pub refused_has_clause : (policy : Policy) (state : Values) (event : Event) → next policy state event ≡ None → has_clause policy event ≡ true
refused_has_clause policy state event e = by (has_clause policy event) refl where
  by : (b : Bool) → has_clause policy event ≡ b → has_clause policy event ≡ true
  by true is = is
  by false is = let some = no_clause policy state event is in absurd cc

none_any : {X : Type 0} (p : X → Bool) (xs : List X) → filter p xs ≡ [] → list_any p xs ≡ false
none_any p [] e = refl
none_any p (x ∷ xs) e = by (p x) refl (none_any p xs) where
  by : (b : Bool) → p x ≡ b → (filter p xs ≡ [] → list_any p xs ≡ false) → (b || list_any p xs) ≡ false
  by true is later = let some = rw is at e in absurd cc
  by false is later = later (rw is at e)

any_none : {X : Type 0} (p : X → Bool) (xs : List X) → list_any p xs ≡ false → filter p xs ≡ []
any_none p [] e = refl
any_none p (x ∷ xs) e = by (p x) refl (any_none p xs) where
  by : (b : Bool) → p x ≡ b → (list_any p xs ≡ false → filter p xs ≡ []) → cond b (x ∷ filter p xs) (filter p xs) ≡ []
  by true is later = let some = rw is at e in absurd (false≢true (sym some))
  by false is later = later (rw is at e)

pub not_true_is : (b : Bool) → not b ≡ true → b ≡ false
not_true_is true e = sym e
not_true_is false e = refl

-- ---- verdicts

module _ (policy : Policy) where
  abbrev FollowsFrom : Values → List Event → Type 0
  FollowsFrom state events = Follows (next policy) is_return state (filter (has_clause policy) events)

  refused_obeys : (index : ℕ) (state : Values) (event : Event) (later : List Event) → next policy state event ≡ None → is_refused (refusal policy index event later) ≡ false → FollowsFrom state (event ∷ later)
  refused_obeys index state event later e h = by (may_stop policy event later) refl where
    by : (b : Bool) → may_stop policy event later ≡ b → FollowsFrom state (event ∷ later)
    by false is = let wrong = rw is at h in absurd (false≢true (sym wrong))
    by true is =
        let p = and_parts (is_return event) (not (list_any (has_clause policy) later)) is in
        let none = any_none (has_clause policy) later (not_true_is (list_any (has_clause policy) later) p.1) in
        rw (refused_has_clause policy state event e, none) (stops (next policy) is_return state event p.0)

  obeys_not_refused : (index : ℕ) (state : Values) (event : Event) (later : List Event) → next policy state event ≡ None → FollowsFrom state (event ∷ later) → is_refused (refusal policy index event later) ≡ false
  obeys_not_refused index state event later e f =
      let kept : Follows (next policy) is_return state (event ∷ filter (has_clause policy) later) = rw (refused_has_clause policy state event e) at f in
      let stop = only_stops (next policy) is_return state event (filter (has_clause policy) later) e kept in
      rw (stop.ended, none_any (has_clause policy) later stop.none) refl

  -- an accepted event, with a clause or without
  accepted_more : (state reached : Values) (event : Event) (later : List Event) → next policy state event ≡ Some reached → FollowsFrom reached later → FollowsFrom state (event ∷ later)
  accepted_more state reached event later e f = by (has_clause policy event) refl where
    by : (b : Bool) → has_clause policy event ≡ b → FollowsFrom state (event ∷ later)
    by true is = rw is (more (next policy) is_return state reached event (filter (has_clause policy) later) e f)
    by false is =
        let some = no_clause policy state event is in
        let same : reached ≡ state = cc in
        rw is (subst (λ (s : Values). FollowsFrom s later) same f)

  accepted_fewer : (state reached : Values) (event : Event) (later : List Event) → next policy state event ≡ Some reached → FollowsFrom state (event ∷ later) → FollowsFrom reached later
  accepted_fewer state reached event later e f = by (has_clause policy event) refl where
    by : (b : Bool) → has_clause policy event ≡ b → FollowsFrom reached later
    by true is = fewer (next policy) is_return state reached event (filter (has_clause policy) later) e (rw is at f)
    by false is =
        let some = no_clause policy state event is in
        let same : state ≡ reached = cc in
        subst (λ (s : Values). FollowsFrom s later) same (rw is at f)

  follows_from : (index : ℕ) (state : Values) (events : List Event) → is_refused (verdict_from policy index state events) ≡ false → FollowsFrom state events
  follows_from index state [] h = inl refl
  follows_from index state (event ∷ later) h = by (next policy state event) refl (λ reached. follows_from (index + 1) reached later) where
    by : (o : Option Values) → next policy state event ≡ o → ((reached : Values) → is_refused (verdict_from policy (index + 1) reached later) ≡ false → FollowsFrom reached later) → FollowsFrom state (event ∷ later)
    by None is each = refused_obeys index state event later is (rw is at h)
    by (Some reached) is each = accepted_more state reached event later is (each reached (rw is at h))

  not_refused_from : (index : ℕ) (state : Values) (events : List Event) → FollowsFrom state events → is_refused (verdict_from policy index state events) ≡ false
  not_refused_from index state [] f = refl
  not_refused_from index state (event ∷ later) f = by (next policy state event) refl (λ reached. not_refused_from (index + 1) reached later) where
    by : (o : Option Values) → next policy state event ≡ o → ((reached : Values) → FollowsFrom reached later → is_refused (verdict_from policy (index + 1) reached later) ≡ false)
        → is_refused (option_map_or (λ reached. verdict_from policy (index + 1) reached later) o (refusal policy index event later)) ≡ false
    by None is each = obeys_not_refused index state event later is f
    by (Some reached) is each = each reached (accepted_fewer state reached event later is f)

pub obeys_of : (policy : Policy) (events : List Event) → is_refused (verdict policy events) ≡ false → IsFollowed policy events
obeys_of policy events h = follows_from policy 0 (initial policy) events h

pub disobeys_of : (policy : Policy) (events : List Event) → is_refused (verdict policy events) ≡ true → IsFollowed policy events → ⊥
disobeys_of policy events h obeys = false≢true (sym (not_refused_from policy 0 (initial policy) events obeys) ∙ h)
