-- Each change that a step makes keeps the machine as the notes say, and the events obeying.
use Rattle.std.proofs.Common.{◌≡◌, ◌≢◌, ◌⊎◌, ℕ, Bool, true, false, cond, List, [], ◌∷◌, ◌++◌, Option, Some, None, refl, sym, ap, subst, ◌∙◌, append-nil, append_assoc, inl, inr}
use Rattle.std.specs.Prelude.{IfSome, is_some, option_and_then, slice_get}
use Rattle.std.specs.List.{AllByRecursion}
use Rattle.std.specs.Option.{option_to_list}
use Rattle.std.proofs.lemmas.Bool.{cases_eq}
use Rattle.std.proofs.lemmas.Option.{slice_get_within}
use Rattle.api_listing.specs.declared.events.Event.{Event}
use Rattle.bytecode_model.specs.declared.program.Program.{Program}
use Rattle.block_logic.specs.Annotations.{Annotations, is_always}
use Rattle.conspec_automaton.specs.declared.policy.Policy.{Policy}
use Rattle.conspec_automaton.specs.Events.{IsWellFormed}
use Rattle.guest_heap.specs.declared.frame.Frame.{Frame}
use Rattle.guest_heap.specs.declared.thread.Thread.{Thread}
use Rattle.guest_model.specs.declared.machine.Machine.{Machine}
use Rattle.guest_model.specs.declared.machine.Step.{Step}
use Rattle.guest_model.specs.Changes.{Change, applied, world_of}
use Rattle.guest_model.specs.Runs.{exec, exec_from, seen, start_of, stepped_or_same, trace, trace_from}
use Rattle.guest_model.specs.Stepping.{changed, doing_stepped}
use Rattle.guest_model.proofs.Always.{EachChangeKeeps, holds_always}
use Rattle.guest_model.proofs.Options.{and_then_of, some_is}
use Rattle.block_logic.specs.Agreement.{Part}
use Rattle.block_logic.specs.Agreement as parts
use Rattle.block_logic.specs.Fitting.{AreOthers, Fits, IsKept, IsLocked, IsOther, IsOwner, IsUnlocked, ObeysIn, held_locks, locked_by}
use Rattle.block_logic.proofs.Composing.{Fair, IsKnownIn, Moves, StepLaws, client_keeps, holder_keeps, other_fair, other_keeps, other_moves, owner_fair, own_part, owner_moves}
use Rattle.block_logic.proofs.Owner.Weakening.{slice_get_there}
use Rattle.block_logic.proofs.Steps.{ChangesBlock, ChangesClient, IsFit, StartsWell}

-- what is done unless the program was stopped
unless_stopped : {A B : Type 0} (stop : Option A) (o : Option B) (x : B) → cond (is_some stop) None o ≡ Some x → (stop ≡ None) × (o ≡ Some x)
unless_stopped None o x e = (refl, e)
unless_stopped (Some s) o x e = absurd cc

-- ---- one step more

module _ (program : Program) where
  exec_one : (machine : Machine) (steps : List Step) (step : Step) → exec_from program machine (steps ++ step ∷ []) ≡ stepped_or_same program (exec_from program machine steps) step
  exec_one machine [] step = refl
  exec_one machine (first ∷ steps) step = exec_one (stepped_or_same program machine first) steps step

  trace_one : (machine : Machine) (steps : List Step) (step : Step) → trace_from program machine (steps ++ step ∷ []) ≡ trace_from program machine steps ++ seen program (exec_from program machine steps) step
  trace_one machine [] step = append-nil (seen program machine step)
  trace_one machine (first ∷ steps) step =
      ap (λ (es : List Event). seen program machine first ++ es) (trace_one (stepped_or_same program machine first) steps step)
      ∙ sym (append_assoc (seen program machine first) (trace_from program (stepped_or_same program machine first) steps) (seen program (exec_from program (stepped_or_same program machine first) steps) step))

  -- The machine stands after some steps, whose events were these.
  pub record IsReached (machine : Machine) (events : List Event) : Type 0 where
    pub steps : List Step
    pub at : exec program steps ≡ machine
    pub saw : trace program steps ≡ events

  pub reached_next : (machine : Machine) (events : List Event) (step : Step) (change : Change) → IsReached machine events → changed program machine step ≡ Some change
      → IsReached (applied step.thread machine change) (events ++ option_to_list change.event)
  reached_next machine events step change r e =
      let now : stepped_or_same program machine step ≡ applied step.thread machine change = rw e refl in
      let showed : seen program machine step ≡ option_to_list change.event = rw e refl in
      record {
        steps = r.steps ++ step ∷ [];
        at = exec_one (start_of program) r.steps step ∙ ap (λ (m : Machine). stepped_or_same program m step) r.at ∙ now;
        saw = trace_one (start_of program) r.steps step ∙ ap (λ (m : Machine). trace program r.steps ++ seen program m step) r.at ∙ ap (λ (es : List Event). es ++ seen program machine step) r.saw ∙ ap (λ (es : List Event). events ++ es) showed;
      }

of_last : {A : Type 0} (P : A → Type 0) (before : List A) (last : A) → AllByRecursion P (before ++ last ∷ []) → P last
of_last P [] last all = all.0
of_last P (x ∷ before) last all = of_last P before last all.1

module _ (program : Program) (policy : Policy) (annotations : Annotations) where
  -- what is known of the event of a step, where runs are well formed
  pub fit_of : (machine : Machine) (events : List Event) (step : Step) (change : Change) → IsReached program machine events → changed program machine step ≡ Some change
      → IfSome change.event (IsFit program policy annotations)
  fit_of machine events step change r e = by change.event refl where
    by : (event : Option Event) → change.event ≡ event → IfSome event (IsFit program policy annotations)
    by None is = tt
    by (Some event) is = λ loosely formed.
        let next = reached_next program machine events step change r e in
        let all : AllByRecursion (IsWellFormed policy) (events ++ option_to_list change.event) = subst (AllByRecursion (IsWellFormed policy)) next.saw (formed.events next.steps) in
        of_last (IsWellFormed policy) events event (subst (λ (o : Option Event). AllByRecursion (IsWellFormed policy) (events ++ option_to_list o)) is all)

  -- what is known of the numbers in locals
  pub ints_of : (machine : Machine) (events : List Event) (number : ℕ) (thread : Thread) (laws : StepLaws program policy annotations) → IsReached program machine events
      → slice_get machine.threads number ≡ Some thread → IsKnownIn program policy annotations laws thread.frames
  ints_of machine events number thread laws r there = by thread.frames refl where
    by : (frames : List Frame) → thread.frames ≡ frames → IsKnownIn program policy annotations laws frames
    by [] is = tt
    by (frame ∷ below) is = λ formed local n e.
        formed.words r.steps number local thread frame n (ap (λ (m : Machine). slice_get m.threads number) r.at ∙ there) (ap (λ (fs : List Frame). slice_get fs 0) is) e

module _ (program : Program) (policy : Policy) (annotations : Annotations) (laws : StepLaws program policy annotations) where
  -- a step of a thread that is there
  module _ (machine : Machine) (seen : List Event) (reached : IsReached program machine seen) (fits : Fits program policy annotations machine seen) (step : Step) (thread : Thread) (change : Change)
      (there : slice_get machine.threads step.thread ≡ Some thread) (made : doing_stepped program machine step.thread thread thread.doing step.choice ≡ Some change)
      (fit : IfSome change.event (IsFit program policy annotations)) where
    known : IsKnownIn program policy annotations laws thread.frames
    known = ints_of program policy annotations machine seen step.thread thread laws reached there

    -- the part of the thread
    pub part : (p : Part) × (slice_get fits.among step.thread ≡ Some p)
    part = slice_get_there fits.among step.thread (rw fits.each (slice_get_within machine.threads step.thread thread there))

    -- what a thread does that does not hold the lock
    pub moves : (p : Part) → IsOther program policy annotations thread p → Moves program policy annotations laws machine step.thread fits.recorded p change
    moves p other = other_moves program policy annotations laws machine fits.world step.thread thread change fits.recorded fits.ranged fit p step.choice known other made

    abbrev Now : Type 0
    Now = IsKept program policy annotations (applied step.thread machine change) (seen ++ option_to_list change.event)

    abbrev Unlocked : Type 0
    Unlocked = IsUnlocked program policy annotations machine fits.recorded fits.fields fits.among

    abbrev Locked : Type 0
    Locked = IsLocked program policy annotations machine fits.recorded fits.fields fits.among

    module _ (obeys : ObeysIn (is_always annotations.held) policy seen) where
      client : ChangesClient program policy annotations (world_of machine) change → (part.0 ≡ parts.Clear) → Unlocked ⊎ ((l : Locked) × (l.owner ≢ step.thread)) → Now
      client c clear lock = client_keeps program policy annotations laws machine seen fits step.thread thread change there obeys c (subst (λ (p : Part). p ≡ parts.Clear) same clear) lock where
        same : part.0 ≡ (own_part program policy annotations laws machine seen fits step.thread thread change there obeys).0
        same = some_is part.0 _ (sym part.1 ∙ (own_part program policy annotations laws machine seen fits step.thread thread change there obeys).1)

      holder : (p : Part) → slice_get fits.among step.thread ≡ Some p → Fair program policy annotations laws p → ChangesBlock program policy annotations true (world_of machine) step.thread fits.recorded p change
          → AreOthers program policy annotations (λ n. n ≢ step.thread) machine.threads fits.among → Now
      holder p is fair c others = holder_keeps program policy annotations laws machine seen fits step.thread thread change there obeys p is fair c others

      -- what is known of the parts of all threads but one
      fairs_of : Unlocked ⊎ Locked → (n : ℕ) (q : Part) → slice_get fits.among n ≡ Some q → Fair program policy annotations laws q
      fairs_of (inl u) n q is =
          let t = slice_get_there machine.threads n (rw (sym fits.each) (slice_get_within fits.among n q is)) in
          other_fair program policy annotations laws t.0 q (u.threads n t.0 q tt t.1 is)
      fairs_of (inr l) n q is =
          let t = slice_get_there machine.threads n (rw (sym fits.each) (slice_get_within fits.among n q is)) in
          elim (cases_eq n l.owner) [
            | inl same ↦
                let at_owner : slice_get fits.among l.owner ≡ Some q = subst (λ (i : ℕ). slice_get fits.among i ≡ Some q) same is in
                subst (Fair program policy annotations laws) (some_is l.part q (sym l.part_there ∙ at_owner)) (owner_fair program policy annotations laws fits.recorded fits.fields l.thread l.part l.owns)
            | inr differ ↦ other_fair program policy annotations laws t.0 q (l.others n t.0 q differ t.1 is)
          ]

      other : ChangesBlock program policy annotations false (world_of machine) step.thread fits.recorded part.0 change → Fair program policy annotations laws part.0
          → ((n : ℕ) (q : Part) → slice_get fits.among n ≡ Some q → Fair program policy annotations laws q) → Unlocked ⊎ ((l : Locked) × (l.owner ≢ step.thread)) → Now
      other c fair fairs lock = other_keeps program policy annotations laws machine seen fits step.thread thread change there obeys part.0 part.1 fair c (λ n q differ is. fairs n q is) lock

      -- Nobody held the lock.
      from_unlocked : (u : Unlocked) → Moves program policy annotations laws machine step.thread fits.recorded part.0 change → Now
      from_unlocked u (inl c) = client c.1 c.0 (inl u)
      from_unlocked u (inr (inl c)) = other c (fairs_of (inl u) step.thread part.0 part.1) (fairs_of (inl u)) (inl u)
      from_unlocked u (inr (inr t)) =
          holder part.0 part.1 (fairs_of (inl u) step.thread part.0 part.1) (t.takes fits.recorded fits.fields u.free fits.ranged u.variables fits.there) (λ n thread q differ. u.threads n thread q tt)

      -- One thread held it: the one that steps, or another.
      from_own : (l : Locked) → l.owner ≡ step.thread → Now
      from_own l same =
          let at_step : slice_get machine.threads step.thread ≡ Some l.thread = rw same at l.there in
          let is : l.thread ≡ thread = some_is l.thread thread (sym at_step ∙ there) in
          let locked : held_locks program machine.monitors ≡ locked_by program step.thread = rw same at l.locked in
          let part_there : slice_get fits.among step.thread ≡ Some l.part = rw same at l.part_there in
          let owner : IsOwner program policy annotations fits.recorded fits.fields thread l.part = subst (λ (t : Thread). IsOwner program policy annotations fits.recorded fits.fields t l.part) is l.owns in
          holder l.part part_there (fairs_of (inr l) step.thread l.part part_there)
          (owner_moves program policy annotations laws machine fits.world step.thread thread change fits.recorded fits.ranged fit fits.fields l.part thread.doing step.choice owner locked fits.there made)
          (λ n thread q differ. l.others n thread q (λ number. differ (number ∙ same)))

      from_other : (l : Locked) (differ : l.owner ≢ step.thread) → Moves program policy annotations laws machine step.thread fits.recorded part.0 change → Now
      from_other l differ (inl c) = client c.1 c.0 (inr (l, differ))
      from_other l differ (inr (inl c)) = other c (fairs_of (inr l) step.thread part.0 part.1) (fairs_of (inr l)) (inr (l, differ))
      from_other l differ (inr (inr t)) = absurd (t.waits l.owner l.locked (λ same. differ (sym same)))

      keeps : Unlocked ⊎ Locked → Now
      keeps (inl u) = from_unlocked u (moves part.0 (u.threads step.thread thread part.0 tt there part.1))
      keeps (inr l) =
          elim (cases_eq l.owner step.thread) [
            | inl same ↦ from_own l same
            | inr differ ↦ from_other l differ (moves part.0 (l.others step.thread thread part.0 (λ number. differ (sym number)) there part.1))
          ]

  -- The program was not stopped, and the thread is there.
  pub record IsMade (machine : Machine) (step : Step) (change : Change) : Type 0 where
    pub goes : machine.stopped ≡ None
    pub thread : Thread
    pub there : slice_get machine.threads step.thread ≡ Some thread
    pub made : doing_stepped program machine step.thread thread thread.doing step.choice ≡ Some change

  pub is_made : (machine : Machine) (step : Step) (change : Change) → changed program machine step ≡ Some change → IsMade machine step change
  is_made machine step change e =
      let go = unless_stopped machine.stopped (option_and_then (λ (t : Thread). doing_stepped program machine step.thread t t.doing step.choice) (slice_get machine.threads step.thread)) change e in
      let t = and_then_of (λ (t : Thread). doing_stepped program machine step.thread t t.doing step.choice) (slice_get machine.threads step.thread) change go.1 in
      record { goes = go.0; thread = t.0; there = t.1; made = t.2 }

  -- It is so after some steps.
  pub record IsKeptThere (machine : Machine) (seen : List Event) : Type 0 where
    pub reached : IsReached program machine seen
    pub kept : IsKept program policy annotations machine seen

  pub change_keeps : EachChangeKeeps program IsKeptThere
  change_keeps machine seen step change was e =
      let m = is_made machine step change e in
      let fits = was.kept.fits m.goes in
      let fit = fit_of program policy annotations machine seen step change was.reached e in
      record {
        reached = reached_next program machine seen step change was.reached e;
        kept = keeps machine seen was.reached fits step m.thread change m.there m.made fit was.kept.obeys fits.lock;
      }

  -- After every list of steps the events obey, and the machine is as the notes say.
  pub always_kept : StartsWell program policy annotations → (steps : List Step) → IsKeptThere (exec program steps) (trace program steps)
  always_kept starts steps =
      let first : IsKept program policy annotations (start_of program) [] = record { obeys = nothing_yet (is_always annotations.held); fits = λ goes. starts } in
      holds_always program IsKeptThere (record { reached = record { steps = []; at = refl; saw = refl }; kept = first }) change_keeps steps where
        nothing_yet : (b : Bool) → ObeysIn b policy []
        nothing_yet true = inl refl
        nothing_yet false = refl
