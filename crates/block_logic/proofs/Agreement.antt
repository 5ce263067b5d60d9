-- A step keeps the agreement of what happened with what is recorded, and the events obeying.
use Rattle.std.proofs.Common.{◌≡◌, ◌≢◌, ℕ, zero, suc, Bool, true, false, cond, List, [], ◌∷◌, ◌++◌, Option, Some, None, refl, sym, ap, subst, ◌∙◌, append-nil, arith, inl, inr}
use Rattle.std.specs.Prelude.{IfSome, filter, is_some, option_and_then, slice_get}
use Rattle.std.specs.Option.{option_to_list}
use Rattle.std.proofs.lemmas.List.Elements.{filter-append}
use Rattle.api_listing.specs.declared.events.Event.{Event}
use Rattle.conspec_automaton.specs.declared.policy.Policy.{Policy}
use Rattle.conspec_automaton.specs.Next.{Values, has_clause, initial, next}
use Rattle.conspec_automaton.specs.Obeys.{Follows, IsFollowed, after, is_return, spoken}
use Rattle.conspec_automaton.specs.Sight.{sight_of}
use Rattle.conspec_automaton.proofs.Turned.{runs_join}
use Rattle.block_logic.specs.Agreement.{Agree, Clear, Granted, Owed, Part, Settles, Tells, Turns, all_granted, all_owed, clause_event, granted_by, owed_by}

-- Of an event a policy reads what it sees alone.
abbrev pub SeenIsEnough : Type 0
SeenIsEnough = (policy : Policy) (state : Values) (e f : Event) → sight_of e ≡ sight_of f → next policy state e ≡ next policy state f

-- ---- events with a clause

pub no_clause : (policy : Policy) (event : Option Event) → IfSome event (λ (e : Event). has_clause policy e ≡ false) → clause_event policy event ≡ None
no_clause policy None none = refl
no_clause policy (Some e) none = rw none refl

pub its_clause : (policy : Policy) (e : Event) → has_clause policy e ≡ true → clause_event policy (Some e) ≡ Some e
its_clause policy e has = rw has refl

-- what is so of the event is so where it has a clause
pub clause_or : (P : Event → Type 0) (policy : Policy) (e : Event) → P e → IfSome (clause_event policy (Some e)) P
clause_or P policy e holds = by (has_clause policy e) where
  by : (b : Bool) → IfSome (cond b (Some e) None) P
  by true = holds
  by false = tt

pub spoken_with : (policy : Policy) (seen : List Event) (event : Option Event) → spoken policy (seen ++ option_to_list event) ≡ spoken policy seen ++ option_to_list (clause_event policy event)
spoken_with policy seen None = ap (spoken policy) (append-nil seen) ∙ sym (append-nil (spoken policy seen))
spoken_with policy seen (Some e) = filter-append (has_clause policy) seen (e ∷ []) ∙ by (has_clause policy e) refl where
  by : (b : Bool) → has_clause policy e ≡ b → spoken policy seen ++ filter (has_clause policy) (e ∷ []) ≡ spoken policy seen ++ option_to_list (clause_event policy (Some e))
  by true has = rw has refl
  by false none = rw none refl

-- ---- parts of which one alone is not clear

none_begun : (among : List Part) → ((n : ℕ) (other : Part) → slice_get among n ≡ Some other → other ≡ Clear) → (all_granted among ≡ []) × (all_owed among ≡ [])
none_begun [] clear = (refl, refl)
none_begun (p ∷ among) clear =
    let this : p ≡ Clear = clear 0 p refl in
    let rest = none_begun among (λ n other there. clear (suc n) other there) in
    rw (this, rest.0, rest.1) (refl, refl)

-- all others are clear
pub alone : (among : List Part) (own : ℕ) (part : Part) → slice_get among own ≡ Some part → ((n : ℕ) (other : Part) → n ≢ own → slice_get among n ≡ Some other → other ≡ Clear)
    → (all_granted among ≡ granted_by part) × (all_owed among ≡ owed_by part)
alone [] own part there clear = absurd cc
alone (p ∷ among) zero part there clear =
    let this : p ≡ part = cc in
    let rest = none_begun among (λ n other is. clear (suc n) other (λ e. absurd (omega (arith, e))) is) in
    rw (this, rest.0, rest.1) (append-nil (granted_by part), append-nil (owed_by part))
alone (p ∷ among) (suc own) part there clear =
    let this : p ≡ Clear = clear 0 p (λ e. absurd (omega (arith, e))) refl in
    let rest = alone among own part there (λ n other differ is. clear (suc n) other (λ e. differ (omega (arith, e))) is) in
    rw this rest

-- a clear part more
pub one_clear : (among more : List Part) → ((n : ℕ) (other : Part) → slice_get more n ≡ Some other → other ≡ Clear)
    → (all_granted (among ++ more) ≡ all_granted among) × (all_owed (among ++ more) ≡ all_owed among)
one_clear [] more clear = none_begun more clear
one_clear (p ∷ among) more clear =
    let rest = one_clear among more clear in
    rw (rest.0, rest.1) (refl, refl)

-- ---- where the events lead

-- what the agreement says of one part
abbrev Stands : Policy → List Event → Values → Part → Type 0
Stands policy traced recorded Clear = after (next policy) (initial policy) traced ≡ Some recorded
Stands policy traced recorded (Granted call) = after (next policy) (initial policy) (traced ++ call ∷ []) ≡ Some recorded
Stands policy traced recorded (Owed end) = after (next policy) (initial policy) traced ≡ next policy recorded end

module _ (policy : Policy) (traced : List Event) (recorded : Values) where
  abbrev first : Values
  first = initial policy

  abbrev run : List Event → Option Values
  run events = after (next policy) first events

  some_same : (o : Option Values) → option_and_then (λ (s : Values). Some s) o ≡ o
  some_same None = refl
  some_same (Some s) = refl

  stands : (part : Part) → Agree (next policy) first traced recorded (granted_by part) (owed_by part) → Stands policy traced recorded part
  stands Clear agree = sym (ap run (append-nil traced)) ∙ agree
  stands (Granted call) agree = agree
  stands (Owed end) agree = sym (ap run (append-nil traced)) ∙ agree ∙ some_same (next policy recorded end)

  agrees : (part : Part) → Stands policy traced recorded part → Agree (next policy) first traced recorded (granted_by part) (owed_by part)
  agrees Clear is = ap run (append-nil traced) ∙ is
  agrees (Granted call) is = is
  agrees (Owed end) is = ap run (append-nil traced) ∙ is ∙ sym (some_same (next policy recorded end))

  -- one event more
  joined : (state : Values) (e : Event) → run traced ≡ Some state → run (traced ++ e ∷ []) ≡ next policy state e
  joined state e is = runs_join (next policy) first traced (e ∷ []) ∙ ap (option_and_then (λ (s : Values). after (next policy) s (e ∷ []))) is ∙ some_same (next policy state e)

  -- events that a policy sees alike
  pub alike : SeenIsEnough → (e f : Event) → sight_of e ≡ sight_of f → run (traced ++ e ∷ []) ≡ run (traced ++ f ∷ [])
  alike enough e f same = runs_join (next policy) first traced (e ∷ []) ∙ by (run traced) ∙ sym (runs_join (next policy) first traced (f ∷ [])) where
    by : (o : Option Values) → option_and_then (λ (s : Values). after (next policy) s (e ∷ [])) o ≡ option_and_then (λ (s : Values). after (next policy) s (f ∷ [])) o
    by None = refl
    by (Some s) = ap (option_and_then (λ (s : Values). Some s)) (enough policy s e f same)

  abbrev more : Option Event → List Event
  more event = traced ++ option_to_list event

  settled : (now : Values) (part due : Part) → Settles policy recorded part now due → Stands policy traced recorded part → Stands policy traced now due
  settled now Clear Clear turns is = is ∙ ap Some (sym turns)
  settled now Clear (Granted call) turns is = joined recorded call is ∙ turns
  settled now Clear (Owed end) turns is = absurd turns
  settled now (Granted call) Clear turns is = absurd turns
  settled now (Granted call) (Granted other) turns is = rw (turns.0, turns.1) is
  settled now (Granted call) (Owed end) turns is = absurd turns
  settled now (Owed end) Clear turns is = is ∙ turns
  settled now (Owed end) (Granted call) turns is = absurd turns
  settled now (Owed end) (Owed other) turns is = rw (turns.0, turns.1) is

  told : SeenIsEnough → (now : Values) (part due : Part) (e : Event) → Tells policy recorded part e now due → Stands policy traced recorded part → Stands policy (traced ++ e ∷ []) now due
  told enough now Clear Clear e turns is = joined recorded e is ∙ turns.1
  told enough now Clear (Granted call) e turns is = absurd turns
  told enough now Clear (Owed end) e turns is = rw (turns.1, turns.2) (joined recorded e is)
  told enough now (Granted call) Clear e turns is = alike enough e call turns.1 ∙ is ∙ ap Some (sym turns.0)
  told enough now (Granted call) (Granted other) e turns is = absurd turns
  told enough now (Granted call) (Owed end) e turns is = absurd turns
  told enough now (Owed end) due e turns is = absurd turns

  turned : SeenIsEnough → (now : Values) (part due : Part) (event : Option Event) → Turns policy recorded part event now due → Stands policy traced recorded part
      → Stands policy (more event) now due
  turned enough now part due None turns is = subst (λ (es : List Event). Stands policy es now due) (sym (append-nil traced)) (settled now part due turns is)
  turned enough now part due (Some e) turns is = told enough now part due e turns is

  abbrev Followed : List Event → Type 0
  Followed events = Follows (next policy) is_return first events

  told_followed : SeenIsEnough → (now : Values) (part due : Part) (e : Event) → Tells policy recorded part e now due → Stands policy traced recorded part → Followed (traced ++ e ∷ [])
  told_followed enough now Clear Clear e turns is = inl (ap is_some (told enough now Clear Clear e turns is))
  told_followed enough now Clear (Granted call) e turns is = absurd turns
  told_followed enough now Clear (Owed end) e turns is = inr (traced, e, refl, turns.0, ap is_some is)
  told_followed enough now (Granted call) Clear e turns is = inl (ap is_some (told enough now (Granted call) Clear e turns is))
  told_followed enough now (Granted call) (Granted other) e turns is = absurd turns
  told_followed enough now (Granted call) (Owed end) e turns is = absurd turns
  told_followed enough now (Owed end) due e turns is = absurd turns

  turned_followed : SeenIsEnough → (now : Values) (part due : Part) (event : Option Event) → Turns policy recorded part event now due → Stands policy traced recorded part
      → Followed traced → Followed (more event)
  turned_followed enough now part due None turns is followed = subst Followed (sym (append-nil traced)) followed
  turned_followed enough now part due (Some e) turns is followed = told_followed enough now part due e turns is

-- ---- the step of one thread, where no other has begun anything

module _ (enough : SeenIsEnough) (policy : Policy) (seen : List Event) (event : Option Event) (recorded now : Values) (part due : Part)
    (turns : Turns policy recorded part (clause_event policy event) now due)
    (agree : Agree (next policy) (initial policy) (spoken policy seen) recorded (granted_by part) (owed_by part)) where
  is_so : Stands policy (spoken policy seen) recorded part
  is_so = stands policy (spoken policy seen) recorded part agree

  pub still_agrees : Agree (next policy) (initial policy) (spoken policy (seen ++ option_to_list event)) now (granted_by due) (owed_by due)
  still_agrees =
      agrees policy (spoken policy (seen ++ option_to_list event)) now due
      (subst (λ (es : List Event). Stands policy es now due) (sym (spoken_with policy seen event))
      (turned policy (spoken policy seen) recorded enough now part due (clause_event policy event) turns is_so))

  pub still_followed : IsFollowed policy seen → IsFollowed policy (seen ++ option_to_list event)
  still_followed followed =
      subst (Follows (next policy) is_return (initial policy)) (sym (spoken_with policy seen event))
      (turned_followed policy (spoken policy seen) recorded enough now part due (clause_event policy event) turns is_so followed)

-- ---- a step that has no event with a clause

pub same_spoken : (policy : Policy) (seen : List Event) (event : Option Event) → IfSome event (λ (e : Event). has_clause policy e ≡ false)
    → spoken policy seen ≡ spoken policy (seen ++ option_to_list event)
same_spoken policy seen event none =
    sym (spoken_with policy seen event ∙ ap (λ (e : Option Event). spoken policy seen ++ option_to_list e) (no_clause policy event none) ∙ append-nil (spoken policy seen))
