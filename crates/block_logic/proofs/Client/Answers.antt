-- Answers to a call without a clause: the caller goes on after it, or catches what is thrown, in the client's code.
use Rattle.std.proofs.Common.{◌≡◌, ℕ, false, List, [], ◌∷◌, length, Option, Some, None, refl, ap}
use Rattle.std.specs.Prelude.{◌==◌, IfSome, find, is_some, option_map, slice_get}
use Rattle.std.specs.List.{list_any}
use Rattle.std.proofs.lemmas.Bool.{and_left, or_parts}
use Rattle.api_listing.specs.declared.events.ApiAnswer.{ApiAnswer}
use Rattle.api_listing.specs.declared.events.ApiAnswer.TheVariants as answers
use Rattle.api_listing.specs.declared.events.Event.{Event}
use Rattle.api_listing.specs.declared.events.Event.TheVariants as events
use Rattle.api_listing.specs.declared.types.ListedMethod.{ListedMethod}
use Rattle.block_logic.specs.Annotations.{Annotations}
use Rattle.bytecode_model.specs.declared.program.Program.{Program}
use Rattle.bytecode_model.specs.declared.program.Target.TheVariants as target
use Rattle.bytecode_model.specs.SearchOrder.{Name}
use Rattle.conspec_automaton.specs.declared.policy.Clause.{Clause}
use Rattle.conspec_automaton.specs.declared.policy.Policy.{Policy}
use Rattle.conspec_automaton.specs.Next.{has_clause, has_clauses, is_phase_of, method_of, speaks_of}
use Rattle.guest_heap.specs.declared.frame.Frame.{Frame}
use Rattle.guest_heap.specs.declared.object.Object.TheVariants as objects
use Rattle.guest_heap.specs.declared.thread.Thread.{Thread}
use Rattle.guest_heap.specs.declared.value.Value.{Value}
use Rattle.guest_heap.specs.declared.value.Value.TheVariants as values
use Rattle.guest_model.specs.declared.machine.Choice.{Choice}
use Rattle.guest_model.specs.declared.machine.Choice.TheVariants as choices
use Rattle.guest_model.specs.Answering.{answer_fits, answered, given, thrown_by, thrown_by_library}
use Rattle.guest_model.specs.Calls.{types_of}
use Rattle.guest_model.specs.Changes.{Change, World, throws_new, with_object}
use Rattle.guest_model.specs.Parts.{null_pointer}
use Rattle.guest_model.specs.Seen.{value_shown}
use Rattle.guest_model.specs.Stepping.{call_stepped, is_on_null}
use Rattle.guest_model.specs.Throwing.{bare_object}
use Rattle.guest_model.proofs.Options.{IfThere, all_get, if_either, if_mapped, if_none, if_some, if_then, is_there, there_or}
use Rattle.block_logic.specs.Fitting.{AreBelow, ArePassed, IsClientCall, state_of}
use Rattle.block_logic.specs.Meaning.{IsClean}
use Rattle.block_logic.specs.Obeying.{IsObeying}
use Rattle.block_logic.proofs.Client.Changes.{Good, GoodIf, Keeps, returned_good, throws_new_good}
use Rattle.block_logic.proofs.Client.Frames.{Laws}
use Rattle.block_logic.proofs.Client.Throws.{below_catching}
use Rattle.block_logic.proofs.Client.Values.{kept_object, lock_kept}
use Rattle.block_logic.proofs.Ruled.{BeginsOpen, RulesHold}
use Rattle.block_logic.proofs.Steps.{ClientAnswers}

-- ---- events

none_speaks : (event : Event) (clauses : List Clause) → list_any (λ (c : Clause). c.method == method_of event) clauses ≡ false
    → find (speaks_of event) clauses ≡ None
none_speaks event [] e = refl
none_speaks event (c ∷ clauses) e =
    let parts = or_parts (c.method == method_of event) (list_any (λ (x : Clause). x.method == method_of event) clauses) e in
    let silent : speaks_of event c ≡ false = and_left (c.method == method_of event) (is_phase_of event c.phase) parts.0 in
    rw silent (none_speaks event clauses parts.1)

-- an event of a method without clauses has none
pub without_clause : (policy : Policy) (event : Event) → has_clauses policy (method_of event) ≡ false → has_clause policy event ≡ false
without_clause policy event e = ap is_some (none_speaks event policy.clauses e)

module _ (program : Program) (policy : Policy) (annotations : Annotations) where
  -- the frame at the call, and those below it, wait
  pub call_waits : (method : ℕ) (frames : List Frame) → has_clauses policy method ≡ false → IsClientCall program policy annotations method frames
      → AreBelow program policy annotations frames
  call_waits method [] unclaused call = absurd call
  call_waits method (frame ∷ below) unclaused call =
      let at = call.1 in (
        record {
          well = call.0;
          insn = at.insn;
          ref = target.ApiMethod method;
          there = at.there;
          call = at.call;
          unclaused = unclaused;
          free = at.told;
          clean = at.clean;
        },
        call.2,
      )

  module _ (laws : Laws program policy annotations) (world : World) where
    abbrev IsGood : Change → Type 0
    IsGood change = Good program policy annotations world change

    abbrev Makes : Option Change → Type 0
    Makes change = GoodIf program policy annotations world change

    module _ (kept : Keeps program policy annotations world world) (number : ℕ) (thread : Thread) (method : ℕ)
        (unclaused : has_clauses policy method ≡ false) (waits : AreBelow program policy annotations thread.frames) where
      throws_there : (class : Name) → Makes (Some (throws_new program world number thread thread.frames class (Some (events.Except number method))))
      throws_there class =
          if_some IsGood _
          (throws_new_good program policy annotations laws world world number thread thread.frames class
          (Some (events.Except number method)) kept (below_catching program policy annotations laws thread.frames waits)
          (without_clause policy (events.Except number method) unclaused))

      -- ---- what is given

      abbrev Gives : World × Option Value → Type 0
      Gives gave = Keeps program policy annotations world gave.0 × IfSome gave.1 (IsClean program)

      module _ (receiver : Option Value) (arguments : List Value) (passed : ArePassed program receiver arguments) where
        the_receiver : (value : Option Value) → IfSome value (IsClean program) → IfThere Gives (option_map (λ (v : Value). (world, Some v)) value)
        the_receiver None clean = if_none Gives
        the_receiver (Some v) clean = if_some Gives (world, Some v) (kept, clean)

        gives : (answer : ApiAnswer) → IfThere Gives (given world receiver arguments answer)
        gives answers.Nothing = if_some Gives (world, None) (kept, tt)
        gives (answers.Int n) = if_some Gives (world, Some (values.Int n)) (kept, refl)
        gives answers.Null = if_some Gives (world, Some values.Null) (kept, refl)
        gives (answers.Text text) =
            if_some Gives (with_object world (objects.Text text), Some (values.Ref (length world.heap)))
            (kept_object program (state_of program policy annotations) world world kept (objects.Text text) tt, refl)
        gives (answers.Fresh class) =
            if_some Gives (with_object world (bare_object class), Some (values.Ref (length world.heap)))
            (kept_object program (state_of program policy annotations) world world kept (bare_object class) (tt, refl), refl)
        gives (answers.Arg i) =
            if_mapped Gives (λ (v : Value). (world, Some v)) (slice_get arguments i) (λ v e. (kept, all_get (IsClean program) arguments i v passed.1 e))
        gives answers.Receiver = the_receiver receiver passed.0
        gives (answers.Throws class) = if_none Gives

        answered_good : (answer : ApiAnswer) → Makes (answered program world number thread method receiver arguments answer)
        answered_good answer =
            if_then IsGood _ (slice_get program.listing.methods method)
            (λ (listed : ListedMethod) e. if_either IsGood (answer_fits program world.heap (types_of listed.id.desc).result receiver arguments answer) _ _
            (there_or Makes (thrown_by_library program world number thread method) (thrown_by answer) _
            (if_then IsGood _ (given world receiver arguments answer)
            (λ (gave : World × Option Value) f. let g = is_there Gives (given world receiver arguments answer) gave (gives answer) f in
            returned_good program policy annotations laws world gave.0 thread thread.frames gave.1
            (Some (events.Return number method (option_map (value_shown program gave.0.heap) gave.1))) g.0 waits g.1
            (without_clause policy (events.Return number method (option_map (value_shown program gave.0.heap) gave.1)) unclaused)))
            (λ class f. throws_there class))
            (if_none IsGood))

        pub call_good : (choice : Choice) → Makes (call_stepped program world number thread method receiver arguments choice)
        call_good choices.Plain = if_either IsGood (is_on_null receiver) _ _ (throws_there null_pointer) (if_none IsGood)
        call_good (choices.Answer answer) = if_either IsGood (is_on_null receiver) _ _ (if_none IsGood) (answered_good answer)

  pub client_answers : IsObeying program policy annotations → RulesHold program policy annotations → BeginsOpen program policy annotations
      → ClientAnswers program policy annotations
  client_answers o rules_hold begins_open world number thread method receiver arguments choice change clean unclaused call passed e =
      let laws : Laws program policy annotations = record { obeys = o; rules_hold = rules_hold; begins_open = begins_open } in
      let kept = lock_kept program (state_of program policy annotations) world clean in
      is_there (Good program policy annotations world) _ change
      (call_good laws world kept number thread method unclaused (call_waits method thread.frames unclaused call) receiver arguments passed choice) e
