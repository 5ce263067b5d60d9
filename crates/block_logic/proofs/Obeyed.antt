-- What an accepted program does: its events obey, and the lock orders them.
use Rattle.std.proofs.Common.{◌≡◌, ◌≢◌, ◌⊎◌, ℕ, Bool, true, false, cond, List, [], ◌∷◌, Option, Some, None, refl, sym, ap, subst, ◌∙◌, inl, inr}
use Rattle.std.specs.Prelude.{IfSome, option_map, slice_get}
use Rattle.std.specs.List.{AllByRecursion}
use Rattle.std.specs.Option.{option_map_or, option_to_list}
use Rattle.std.proofs.lemmas.Bool.{cases_eq}
use Rattle.api_listing.specs.declared.events.Event.{Event}
use Rattle.bytecode_model.specs.declared.program.Program.{Program}
use Rattle.block_logic.specs.Agreement.{Part, clause_event}
use Rattle.block_logic.specs.Annotations.{Annotations, annotations_of, held_in, holds_round, is_always}
use Rattle.cert_format.specs.declared.certificate.Mode.{Mode}
use Rattle.cert_format.specs.declared.certificate.Mode.TheVariants as modes
use Rattle.conspec_automaton.specs.declared.policy.Policy.{Policy}
use Rattle.conspec_automaton.specs.Next.{has_clause, method_of}
use Rattle.conspec_automaton.specs.Obeys.{Obeys}
use Rattle.guest_heap.specs.declared.object.Monitor.{Monitor}
use Rattle.guest_model.specs.declared.machine.Machine.{Machine}
use Rattle.guest_model.specs.declared.machine.Step.{Step}
use Rattle.guest_model.specs.Changes.{Change, applied, world_of}
use Rattle.guest_model.specs.Runs.{exec, trace}
use Rattle.guest_model.specs.Stepping.{changed}
use Rattle.guest_model.proofs.Options.{map_of}
use Rattle.block_logic.specs.Fitting.{Fits, IsLocked, IsOther, IsUnlocked, ObeysIn, held_locks, locked_by}
use Rattle.block_logic.specs.Obeying.{AcceptedObeys, IsObeying, LockIsHeld, LockOrders}
use Rattle.block_logic.proofs.Agreement.{its_clause, no_clause}
use Rattle.block_logic.proofs.Composing.{Moves, StepLaws, always_round}
use Rattle.block_logic.proofs.Keeping.{IsKeptThere, IsMade, IsReached, always_kept, fit_of, is_made, moves, part}
use Rattle.block_logic.proofs.Steps.{ChangesBlock, IsFit, StartsWell, Takes}

obeyed : (mode : Mode) (policy : Policy) (seen : List Event) → ObeysIn (is_always (held_in mode)) policy seen → Obeys mode policy seen
obeyed modes.Hold policy seen followed = followed
obeyed modes.Release policy seen accepted = accepted

-- ---- the lock

-- Locks that are held by one thread are held by no other.
one_owner : (program : Program) (number other : ℕ) → locked_by program number ≡ locked_by program other → number ≡ other
one_owner program number other e = ap owner_in e where
  owner_in : List Monitor → ℕ
  owner_in [] = 0
  owner_in (m ∷ others) = m.owner

module _ (program : Program) (policy : Policy) (annotations : Annotations) (laws : StepLaws program policy annotations) where
  abbrev IsUnseen : List Event → Type 0
  IsUnseen events = AllByRecursion (λ (e : Event). has_clause policy e ≡ false) events

  -- A step of a thread that does not hold the lock.
  module _ (machine : Machine) (events : List Event) (reached : IsReached program machine events) (fits : Fits program policy annotations machine events) (step : Step) (change : Change)
      (m : IsMade program policy annotations laws machine step change) (e : changed program machine step ≡ Some change) where
    fit : IfSome change.event (IsFit program policy annotations)
    fit = fit_of program policy annotations machine events step change reached e

    pub own : (p : Part) × (slice_get fits.among step.thread ≡ Some p)
    own = part program policy annotations laws machine events reached fits step m.thread change m.there m.made fit

    pub other_of : IsUnlocked program policy annotations machine fits.recorded fits.fields fits.among
        ⊎ ((l : IsLocked program policy annotations machine fits.recorded fits.fields fits.among) × (step.thread ≢ l.owner)) → IsOther program policy annotations m.thread own.0
    other_of (inl u) = u.threads step.thread m.thread own.0 tt m.there own.1
    other_of (inr (l, differ)) = l.others step.thread m.thread own.0 differ m.there own.1

    -- Where the lock is held round each call, it has no event with a clause, unless it takes the lock.
    seen_unclaused : is_always annotations.held ≡ true → ChangesBlock program policy annotations false (world_of machine) step.thread fits.recorded own.0 change
        → (event : Event) → clause_event policy change.event ≡ Some event → ⊥
    seen_unclaused always c event is =
        let loose : holds_round annotations.held (method_of event) ≡ false = subst (λ (o : Option Event). IfSome o (λ (x : Event). holds_round annotations.held (method_of x) ≡ false)) is c.loose.2 in
        let not_so : true ≡ false = sym (always_round annotations.held (method_of event) always) ∙ loose in
        absurd cc

    -- it has none, or takes the lock
    pub unclaused_or_takes : is_always annotations.held ≡ true → IsOther program policy annotations m.thread own.0
        → (clause_event policy change.event ≡ None) ⊎ Takes program policy annotations (world_of machine) step.thread own.0 change
    unclaused_or_takes always other = by (moves program policy annotations laws machine events reached fits step m.thread change m.there m.made fit own.0 other) where
      none : (o : Option Event) → ((event : Event) → o ≡ Some event → ⊥) → o ≡ None
      none None refuted = refl
      none (Some event) refuted = absurd (refuted event refl)

      by : Moves program policy annotations laws machine step.thread fits.recorded own.0 change → (clause_event policy change.event ≡ None) ⊎ Takes program policy annotations (world_of machine) step.thread own.0 change
      by (inl c) = inl (no_clause policy change.event c.1.event)
      by (inr (inl c)) = inl (none (clause_event policy change.event) (λ event is. seen_unclaused always c event is))
      by (inr (inr t)) = inr t

  -- ---- the lock's order

  clauseless : (event : Option Event) → clause_event policy event ≡ None → IsUnseen (option_to_list event)
  clauseless None none = tt
  clauseless (Some e) none = (by (has_clause policy e) refl none, tt) where
    by : (b : Bool) → has_clause policy e ≡ b → cond b (Some e) None ≡ None → has_clause policy e ≡ false
    by true has empty = absurd cc
    by false has empty = has

  module _ (always : is_always annotations.held ≡ true) (machine : Machine) (events : List Event) (step : Step) (owner : ℕ)
      (locked : held_locks program machine.monitors ≡ locked_by program owner) (differ : step.thread ≢ owner) where
    -- another thread holds it
    is_other : (fits : Fits program policy annotations machine events)
        → IsUnlocked program policy annotations machine fits.recorded fits.fields fits.among ⊎ IsLocked program policy annotations machine fits.recorded fits.fields fits.among
        → IsUnlocked program policy annotations machine fits.recorded fits.fields fits.among
        ⊎ ((l : IsLocked program policy annotations machine fits.recorded fits.fields fits.among) × (step.thread ≢ l.owner))
    is_other fits (inl u) = inl u
    is_other fits (inr l) = inr (l, λ same. differ (same ∙ one_owner program l.owner owner (sym l.locked ∙ locked)))

    unseen : IsKeptThere program policy annotations laws machine events → (change : Option Change) → changed program machine step ≡ change
        → IsUnseen (option_map_or (λ (made : Machine × Option Event). option_to_list made.1) (option_map (λ (c : Change). (applied step.thread machine c, c.event)) change) [])
    unseen was None e = tt
    unseen was (Some change) e =
        let m = is_made program policy annotations laws machine step change e in
        let fits = was.kept.fits m.goes in
        clauseless change.event
        (by change (unclaused_or_takes machine events was.reached fits step change m e always (other_of machine events was.reached fits step change m e (is_other fits fits.lock)))) where
          by : {p : Part} (c : Change) → (clause_event policy c.event ≡ None) ⊎ Takes program policy annotations (world_of machine) step.thread p c → clause_event policy c.event ≡ None
          by c (inl none) = none
          by c (inr t) = absurd (t.waits owner locked differ)

  -- A step whose event has a clause is of the thread that holds the lock.
  module _ (always : is_always annotations.held ≡ true) (machine : Machine) (events : List Event) (step : Step) (change : Change) (event : Event)
      (is : change.event ≡ Some event) (has : has_clause policy event ≡ true) (was : IsKeptThere program policy annotations laws machine events) (e : changed program machine step ≡ Some change) where
    seen_is : clause_event policy change.event ≡ Some event
    seen_is = ap (clause_event policy) is ∙ its_clause policy event has

    m : IsMade program policy annotations laws machine step change
    m = is_made program policy annotations laws machine step change e

    fits : Fits program policy annotations machine events
    fits = was.kept.fits m.goes

    takes_it : (o : IsUnlocked program policy annotations machine fits.recorded fits.fields fits.among
        ⊎ ((l : IsLocked program policy annotations machine fits.recorded fits.fields fits.among) × (step.thread ≢ l.owner)))
        → ((p : Part) → Takes program policy annotations (world_of machine) step.thread p change → ⊥) → ⊥
    takes_it o refuted = by (unclaused_or_takes machine events was.reached fits step change m e always (other_of machine events was.reached fits step change m e o)) where
      by : {p : Part} → (clause_event policy change.event ≡ None) ⊎ Takes program policy annotations (world_of machine) step.thread p change → ⊥
      by (inl none) = let not_so : None ≡ Some event = sym none ∙ seen_is in absurd cc
      by {p = p} (inr t) = refuted p t

    holder : IsUnlocked program policy annotations machine fits.recorded fits.fields fits.among ⊎ IsLocked program policy annotations machine fits.recorded fits.fields fits.among
        → held_locks program machine.monitors ≡ locked_by program step.thread
    holder (inl u) = absurd (takes_it (inl u) (λ p t. let none = t.unseen u.free in let not_so : None ≡ Some event = sym none ∙ is in absurd cc))
    holder (inr l) =
        elim (cases_eq l.owner step.thread) [
          | inl same ↦ subst (λ (n : ℕ). held_locks program machine.monitors ≡ locked_by program n) same l.locked
          | inr differ ↦ absurd (takes_it (inr (l, λ number. differ (sym number))) (λ p t. t.waits l.owner l.locked (λ number. differ (sym number))))
        ]

    pub held : held_locks program machine.monitors ≡ locked_by program step.thread
    held = holder fits.lock

-- what is proved of steps, and of the start
pub record Proved : Type 0 where
  pub steps : (program : Program) (policy : Policy) (annotations : Annotations) → IsObeying program policy annotations → StepLaws program policy annotations
  pub starts : (program : Program) (policy : Policy) (annotations : Annotations) → IsObeying program policy annotations → StartsWell program policy annotations

pub accepted_obeys : Proved → AcceptedObeys
accepted_obeys proved program policy certificate o steps =
    let annotations = annotations_of certificate in
    obeyed certificate.mode policy (trace program steps)
    (always_kept program policy annotations (proved.steps program policy annotations o) (proved.starts program policy annotations o) steps).kept.obeys

pub lock_orders : Proved → LockOrders
lock_orders proved program policy annotations o always steps owner step locked differ =
    let laws = proved.steps program policy annotations o in
    unseen program policy annotations laws always (exec program steps) (trace program steps) step owner locked differ
    (always_kept program policy annotations laws (proved.starts program policy annotations o) steps) (changed program (exec program steps) step) refl

pub lock_is_held : Proved → LockIsHeld
lock_is_held proved program policy certificate o hold steps step after event e has =
    let annotations = annotations_of certificate in
    let laws = proved.steps program policy annotations o in
    let machine = exec program steps in
    let m = map_of (λ (change : Change). (applied step.thread machine change, change.event)) (changed program machine step) (after, Some event) e in
    let seen : m.0.event ≡ Some event = ap (λ (made : Machine × Option Event). made.1) m.2 in
    let always : is_always (held_in certificate.mode) ≡ true = ap (λ (mode : Mode). is_always (held_in mode)) hold in
    held program policy annotations laws always machine (trace program steps) step m.0 event seen has
    (always_kept program policy annotations laws (proved.starts program policy annotations o) steps) m.1
