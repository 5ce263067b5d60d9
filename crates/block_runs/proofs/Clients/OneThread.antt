-- Where one thread makes all steps, none of its calls of methods with clauses begins while another is under way.
use Rattle.std.proofs.Common.{◌≡◌, ◌∙◌, ℕ, zero, suc, Bool, true, false, List, [], ◌∷◌, ◌++◌, Option, Some, None, refl, sym, ap, subst, inl, inr}
use Rattle.std.specs.Prelude.{is_some, slice_get, slice_set}
use Rattle.std.specs.List.{AllByRecursion}
use Rattle.std.specs.Option.{option_map_or, option_to_list}
use Rattle.api_listing.specs.declared.events.Event.{Event}
use Rattle.api_listing.specs.declared.events.Event.TheVariants as events
use Rattle.bytecode_model.specs.Uses.{UsesAreShaped}
use Rattle.bytecode_model.specs.declared.program.Program.{Program}
use Rattle.cert_format.specs.declared.certificate.Mode.{Mode}
use Rattle.cert_format.specs.declared.certificate.Mode.TheVariants.{Hold, Release}
use Rattle.conspec_automaton.specs.declared.policy.Policy.{Policy}
use Rattle.guest_heap.specs.declared.thread.Thread.{Thread}
use Rattle.guest_model.specs.declared.machine.Machine.{Machine}
use Rattle.guest_model.specs.declared.machine.Step.{Step}
use Rattle.guest_model.specs.Changes.{Change, applied, rests}
use Rattle.guest_model.specs.Finding.{Given}
use Rattle.guest_model.specs.Runs.{initialisers, start_of, stepped_or_same, trace, trace_from}
use Rattle.guest_model.specs.Stepping.{changed, doing_stepped, stepped}
use Rattle.guest_model.proofs.Options.{and_then_of, map_of}
use Rattle.guest_erasing.specs.Accepted.{Alternate, AreApart, with_clauses}
use Rattle.guest_erasing.proofs.Runs.{comes_to, sees}
use Rattle.block_runs.specs.ClientRuns.{OneThreadIsApart}
use Rattle.block_runs.specs.Joining.{ListedAreCalled, is_calling}
use Rattle.block_runs.proofs.Clients.Apart.{Begins, Ends, IsEnd, IsQuiet, Turns, claused_there, does_turn, unclaused_gone}
use Rattle.block_runs.proofs.Clients.Listed.{listed_called}
use Rattle.block_runs.proofs.Clients.Unasked.{unless}

module _ (client : Program) (policy : Policy) where
  -- whether the thread of this number is in a call of a method with clauses
  abbrev calls_in : Machine → ℕ → Bool
  calls_in machine number = option_map_or (λ (t : Thread). is_calling policy t.doing) (slice_get machine.threads number) false

  ends_open : (under_way : Bool) (event : Event) → IsEnd client policy event → (more : List Event) → Alternate false more
      → Alternate under_way (event ∷ more)
  ends_open under_way (events.Call thread method arguments) ends more a = absurd ends
  ends_open under_way (events.Return thread method value) ends more a = a
  ends_open under_way (events.Except thread method) ends more a = a

  -- One step of a thread, and what is seen after it.
  module _ (thread : Thread) (change : Change) (under_way : Bool) (is : is_calling policy thread.doing ≡ under_way) (others : List Event)
      (later : Alternate (is_calling policy change.thread.doing) (with_clauses policy others)) where
    abbrev Apart : Type 0
    Apart = Alternate under_way (with_clauses policy (option_to_list change.event ++ others))

    quiet_apart : IsQuiet client policy thread.doing change → Apart
    quiet_apart quiet =
        subst (Alternate under_way) (sym (unclaused_gone client policy change.event others quiet.event))
        (subst (λ (b : Bool). Alternate b (with_clauses policy others)) (quiet.same ∙ is) later)

    begun_apart : Begins client policy thread.doing change → Apart
    begun_apart b =
        let event : Event = events.Call b.number b.method b.arguments in
        let seen : with_clauses policy (option_to_list change.event ++ others) ≡ event ∷ with_clauses policy others =
        ap (λ (o : Option Event). with_clauses policy (option_to_list o ++ others)) b.is ∙ claused_there client policy event others b.has in
        subst (Alternate under_way) (sym seen) (
          sym is ∙ b.idle,
          subst (λ (o : Bool). Alternate o (with_clauses policy others)) b.calls later,
        )

    ended_apart : Ends client policy thread.doing change → Apart
    ended_apart e =
        let seen : with_clauses policy (option_to_list change.event ++ others) ≡ e.event ∷ with_clauses policy others =
        ap (λ (o : Option Event). with_clauses policy (option_to_list o ++ others)) e.is ∙ claused_there client policy e.event others e.has in
        subst (Alternate under_way) (sym seen)
        (ends_open under_way e.event e.ends (with_clauses policy others)
        (subst (λ (o : Bool). Alternate o (with_clauses policy others)) e.over later))

    turns_apart : Turns client policy thread.doing change → Apart
    turns_apart turns =
        elim turns.turn [
          | inl quiet ↦ quiet_apart quiet
          | inr more ↦
              elim more [
                | inl b ↦ begun_apart b
                | inr e ↦ ended_apart e
              ]
        ]

  -- ---- what the thread does after its step

  get_set : (threads : List Thread) (number : ℕ) (old new : Thread) (more : List Thread) → slice_get threads number ≡ Some old
      → slice_get (slice_set threads number new ++ more) number ≡ Some new
  get_set [] number old new more e = absurd cc
  get_set (t ∷ threads) zero old new more e = refl
  get_set (t ∷ threads) (suc n) old new more e = get_set threads n old new more e

  calls_after : (machine : Machine) (number : ℕ) (thread : Thread) (change : Change) → slice_get machine.threads number ≡ Some thread
      → calls_in (applied number machine change) number ≡ is_calling policy change.thread.doing
  calls_after machine number thread change there =
      ap (λ (o : Option Thread). option_map_or (λ (t : Thread). is_calling policy t.doing) o false)
      (get_set machine.threads number thread change.thread (option_to_list change.begins) there)

  -- ---- runs

  module _ (called : ListedAreCalled client) (number : ℕ) where
    abbrev GoesApart : List Step → Type 0
    GoesApart steps =
        (machine : Machine) (under_way : Bool) → calls_in machine number ≡ under_way
        → Alternate under_way (with_clauses policy (trace_from client machine steps))

    apart_from : (steps : List Step) → AllByRecursion (λ (step : Step). step.thread ≡ number) steps → GoesApart steps
    apart_from [] all machine under_way is = tt
    apart_from (step ∷ steps) all machine under_way is = by (stepped client machine step) refl (apart_from steps all.1)
      where
        by : (o : Option (Machine × Option Event)) → stepped client machine step ≡ o → GoesApart steps
            → Alternate under_way (with_clauses policy (trace_from client machine (step ∷ steps)))
        by None e later =
            let same : trace_from client machine (step ∷ steps) ≡ trace_from client machine steps =
            ap (λ (o : Option (Machine × Option Event)).
            option_map_or (λ (m : Machine × Option Event). option_to_list m.1) o []
            ++ trace_from client (option_map_or (λ (m : Machine × Option Event). m.0) o machine) steps) e in
            subst (λ (es : List Event). Alternate under_way (with_clauses policy es)) (sym same) (later machine under_way is)
        by (Some made) e later =
            let its = map_of (λ (change : Change). (applied step.thread machine change, change.event))
            (changed client machine step) made e in
            let t = and_then_of (λ (thread : Thread). doing_stepped client machine step.thread thread thread.doing step.choice)
            (slice_get machine.threads step.thread) its.0 (unless (is_some machine.stopped) _ its.0 its.1) in
            let event_is : its.0.event ≡ made.1 = ap (λ (m : Machine × Option Event). m.1) its.2 in
            let events : trace_from client machine (step ∷ steps) ≡ option_to_list its.0.event ++ trace_from client made.0 steps =
            ap (λ (es : List Event). es ++ trace_from client (stepped_or_same client machine step) steps) (sees client machine step made e)
            ∙ ap (λ (m : Machine). option_to_list made.1 ++ trace_from client m steps) (comes_to client machine step made e)
            ∙ ap (λ (o : Option Event). option_to_list o ++ trace_from client made.0 steps) (sym event_is) in
            let there : slice_get machine.threads number ≡ Some t.0 = subst (λ (n : ℕ). slice_get machine.threads n ≡ Some t.0) all.0 t.1 in
            let before : is_calling policy t.0.doing ≡ under_way =
            ap (λ (o : Option Thread). option_map_or (λ (x : Thread). is_calling policy x.doing) o false) (sym there) ∙ is in
            let after : calls_in made.0 number ≡ is_calling policy its.0.thread.doing =
            ap (λ (m : Machine × Option Event). calls_in m.0 number) (sym its.2)
            ∙ ap (λ (n : ℕ). calls_in (applied n machine its.0) number) all.0 ∙ calls_after machine number t.0 its.0 there in
            subst (λ (es : List Event). Alternate under_way (with_clauses policy es)) (sym events)
            (turns_apart t.0 its.0 under_way before (trace_from client made.0 steps)
            (later made.0 (is_calling policy its.0.thread.doing) after)
            (does_turn client policy machine step.thread t.0 called t.0.doing step.choice its.0 t.2))

    -- the first thread is in no call at the start, and there is no other
    rest_calls : (to_begin : List Given) (n : ℕ)
        → option_map_or (λ (t : Thread). is_calling policy t.doing) (slice_get (rests client to_begin ∷ []) n) false ≡ false
    rest_calls [] zero = refl
    rest_calls (next ∷ to_begin) zero = refl
    rest_calls to_begin (suc n) = refl

    pub trace_apart : (mode : Mode) (steps : List Step) → AllByRecursion (λ (step : Step). step.thread ≡ number) steps
        → AreApart mode policy (trace client steps)
    trace_apart Release steps all = tt
    trace_apart Hold steps all =
        apart_from steps all (start_of client) false
        (rest_calls (initialisers client ++ (client.main_class, client.main_method) ∷ []) number)

pub one_thread_apart : UsesAreShaped → OneThreadIsApart
one_thread_apart shaped client linked policy mode number steps all =
    trace_apart client policy (listed_called shaped client linked.links.sound linked.links.linked.named) number mode steps all
