-- Threads in a call of the library: each answer that fits is taken, and what it leaves fits.
use Rattle.std.proofs.Common.{◌≡◌, ℕ, Bool, true, false, cond, List, ◌++◌, length, Option, Some, None, refl, sym, ap, subst, ◌∙◌, arith}
use Rattle.std.specs.Prelude.{IsSomeAnd, IsTrue, is_some, not, option_and_then, option_map, slice_get}
use Rattle.std.specs.List.{AllByRecursion}
use Rattle.std.specs.Option.{option_map_or, option_to_list}
use Rattle.api_listing.specs.declared.descriptor.FieldType.{FieldType}
use Rattle.api_listing.specs.declared.descriptor.MethodType.{MethodType}
use Rattle.api_listing.specs.declared.events.ApiAnswer.{ApiAnswer}
use Rattle.api_listing.specs.declared.events.ApiAnswer.TheVariants as answers
use Rattle.api_listing.specs.declared.events.Event.TheVariants as events
use Rattle.api_listing.specs.declared.types.ListedMethod.{ListedMethod}
use Rattle.cert_format.specs.declared.typing.Typing.{Typing}
use Rattle.cert_format.specs.declared.typing.VType.{VType}
use Rattle.bytecode_model.specs.declared.program.Program.{Program}
use Rattle.bytecode_model.specs.Described.{result_type}
use Rattle.bytecode_model.specs.SearchOrder.{Name}
use Rattle.frame_types.proofs.Descriptors.{read_so}
use Rattle.guest_heap.specs.declared.object.Object.{Object}
use Rattle.guest_heap.specs.declared.object.Object.TheVariants as objects
use Rattle.guest_heap.specs.declared.thread.Thread.{Thread}
use Rattle.guest_heap.specs.declared.value.Value.{Value}
use Rattle.guest_heap.specs.declared.value.Value.TheVariants as values
use Rattle.guest_model.specs.declared.machine.Choice.{Choice}
use Rattle.guest_model.specs.declared.machine.Choice.TheVariants as choices
use Rattle.guest_model.specs.Answers.{may_throw}
use Rattle.guest_model.specs.Calls.{types_of, types_read}
use Rattle.guest_model.specs.Parts.{null_pointer}
use Rattle.guest_model.specs.Throwing.{bare_object}
use Rattle.guest_model.proofs.Options.{and_then_of, map_of, some_is}
use Rattle.guest_model.specs.Answering.{answer_fits, answered, answered_well, given, returned_by, thrown_by, thrown_by_library}
use Rattle.guest_model.specs.Changes.{Change, World, with_object}
use Rattle.guest_model.specs.Moving.{CanTake, HasRoom}
use Rattle.guest_model.specs.Seen.{value_shown}
use Rattle.guest_model.specs.Stepping.{call_stepped, is_on_null, null_thrown}
use Rattle.typed_runs.specs.Fitting.{is_there}
use Rattle.typed_runs.specs.Frames.{AreWaiting}
use Rattle.typed_runs.specs.Machines.{BeginsRight, CanBegin}
use Rattle.typed_runs.specs.Programs.{IsTypedProgram}
use Rattle.typed_runs.proofs.Answering.{GivenWell, gives_well, text_given, type_given, type_of_text}
use Rattle.typed_runs.proofs.Changed.{ChangeFits, WorldFits}
use Rattle.typed_runs.proofs.Declared.{listed_method}
use Rattle.typed_runs.proofs.Growing.{all_waiting_grown, begins_grown}
use Rattle.typed_runs.proofs.Calling.Returning.{ResultFits, has_room, many_results, returned_fits, some_result}
use Rattle.typed_runs.proofs.Throwing.{throws_new_fits, waiting_left}
use Rattle.typed_runs.proofs.Thrown.{built_in_thrown}
use Rattle.typed_runs.proofs.Types.{holds_at}

if_held : {A : Type 0} (b : Bool) (o : Option A) (x : A) → cond b o None ≡ Some x → (b ≡ true) × (o ≡ Some x)
if_held true o x e = (refl, e)
if_held false o x e = absurd cc

unless_held : {A : Type 0} (b : Bool) (o : Option A) (x : A) → cond b None o ≡ Some x → o ≡ Some x
unless_held true o x e = absurd cc
unless_held false o x e = e

pub there_and : {A : Type 0} {P : A → Type 0} (o : Option A) → IsSomeAnd o P → (x : A) × (o ≡ Some x) × P x
there_and None h = absurd h
there_and (Some x) h = (x, refl, h)

module _ (program : Program) (typing : Typing) (ok : IsTypedProgram program typing) where
  -- what an answer throws
  throws_may : (heap : List Object) (result : Option FieldType) (receiver : Option Value) (arguments : List Value) (answer : ApiAnswer) (class : Name)
      → thrown_by answer ≡ Some class → answer_fits program heap result receiver arguments answer ≡ true → may_throw program class ≡ true
  throws_may heap result receiver arguments (answers.Throws name) class e f =
      subst (λ (n : Name). may_throw program n ≡ true) (some_is name class e) f
  throws_may heap result receiver arguments answer class e f = absurd cc

  -- The verifier's type of the result of a method of the listing is that of the answers that fit.
  pub result_told : (index : ℕ) (listed : ListedMethod) → slice_get program.listing.methods index ≡ Some listed
      → type_given (types_of listed.id.desc).result ≡ result_type listed.id.desc
  result_told index listed there =
      let m = listed_method ok.links.text program.listing ok.links.listed index listed there in
      let read : types_of listed.id.desc ≡ m.0 = ap types_read m.1 in
      let text = (read_so listed.id.desc m.0 m.1).1 in
      ap (λ (t : MethodType). type_given t.result) read ∙ sym (text_given m.0.result) ∙ ap type_of_text (sym text)

  module _ (world : World) (fits : WorldFits program world.heap world) (first : BeginsRight program world.heap)
      (number : ℕ) (thread : Thread) (later : AllByRecursion (CanBegin program) thread.to_begin)
      (method : ℕ) (receiver : Option Value) (arguments : List Value)
      (there : AllByRecursion (λ (v : Value). IsTrue (is_there world.heap v)) (option_to_list receiver ++ arguments)) where
    abbrev Fits : Change → Type 0
    Fits change = ChangeFits program typing world.heap change

    -- what is thrown by the library, or by the call on null
    thrown_fits : (type : Option VType) (class : Name) → AreWaiting program typing world.heap type thread.frames → may_throw program class ≡ true
        → (change : Change) → thrown_by_library program world number thread method class ≡ Some change → Fits change
    thrown_fits type class waiting may change e =
        subst Fits (some_is _ change e)
        (throws_new_fits program typing ok world.heap world number thread thread.frames class (Some (events.Except number method)) (tt, tt) fits later
        (waiting_left program typing world.heap type thread.frames waiting) may)

    -- ---- one method of the listing

    module _ (listed : ListedMethod) (is : slice_get program.listing.methods method ≡ Some listed)
        (waiting : AreWaiting program typing world.heap (result_type listed.id.desc) thread.frames) where
      abbrev result : Option FieldType
      result = (types_of listed.id.desc).result

      waiting_so : AreWaiting program typing world.heap (type_given result) thread.frames
      waiting_so = subst (λ (t : Option VType). AreWaiting program typing world.heap t thread.frames) (sym (result_told method listed is)) waiting

      returned_by_fits : (made : World × Option Value) → GivenWell program typing ok world.heap (type_given result) made → (change : Change)
          → returned_by program number thread method made ≡ Some change → Fits change
      returned_by_fits made g change e =
          let r = returned_fits program typing ok world.heap made.0 thread thread.frames (type_given result) made.1
          (Some (events.Return number method (option_map (value_shown program made.0.heap) made.1))) (tt, tt) g.shared
          (begins_grown world.heap made.0.heap g.shared.grows program first) later
          (all_waiting_grown world.heap made.0.heap g.shared.grows program typing (type_given result) thread.frames waiting_so) g.result in
          subst Fits (some_is r.0 change (sym r.1 ∙ e)) r.2

      by_answer : (answer : ApiAnswer) → answer_fits program world.heap result receiver arguments answer ≡ true
          → (o : Option Name) → thrown_by answer ≡ o → (change : Change)
          → option_map_or (thrown_by_library program world number thread method) o
          (option_and_then (returned_by program number thread method) (given world receiver arguments answer)) ≡ Some change → Fits change
      by_answer answer well None calm change e =
          let g = gives_well program typing ok world.heap world fits result receiver arguments there answer calm well in
          returned_by_fits g.0 g.2 change
          (subst (λ (o : Option (World × Option Value)). option_and_then (returned_by program number thread method) o ≡ Some change) g.1 e)
      by_answer answer well (Some class) thrown change e =
          thrown_fits (type_given result) class waiting_so (throws_may world.heap result receiver arguments answer class thrown well) change e

      -- ---- the caller has room

      room : HasRoom (many_results (type_given result)) thread.frames
      room = has_room program typing ok world.heap (type_given result) thread.frames waiting_so

      no_results : (r : Option FieldType) → not (is_some r) ≡ true → many_results (type_given r) ≡ 0
      no_results None e = refl
      no_results (Some t) e = absurd cc

      abbrev Given : Option (World × Option Value) → Type 0
      Given o = (made : World × Option Value) × (o ≡ Some made) × GivenWell program typing ok world.heap (type_given result) made

      room_for_one : (v : Value) (new : World) (made : World × Option Value) → GivenWell program typing ok world.heap (type_given result) made
          → (new, Some v) ≡ made → HasRoom 1 thread.frames
      room_for_one v new made g same =
          let h : ResultFits program new.heap (type_given result) (Some v) =
          subst (λ (m : World × Option Value). ResultFits program m.0.heap (type_given result) m.1) (sym same) g.result in
          subst (λ (n : ℕ). HasRoom n thread.frames) (some_result program typing ok new.heap (type_given result) v h) room

      room_for_known : (v : Value) (new : World) → Given (Some (new, Some v)) → HasRoom 1 thread.frames
      room_for_known v new g = room_for_one v new g.0 g.2 (some_is (new, Some v) g.0 g.1)

      room_for_found : (o : Option Value) → Given (option_map (λ (v : Value). (world, Some v)) o) → HasRoom 1 thread.frames
      room_for_found o g =
          let m = map_of (λ (v : Value). (world, Some v)) o g.0 g.1 in
          room_for_one m.0 world g.0 g.2 m.2

      room_by : (answer : ApiAnswer) → answer_fits program world.heap result receiver arguments answer ≡ true
          → (thrown_by answer ≡ None → Given (given world receiver arguments answer)) → CanTake answer thread.frames
      room_by answers.Nothing e g = subst (λ (n : ℕ). HasRoom n thread.frames) (no_results result e) room
      room_by (answers.Int n) e g = room_for_known (values.Int n) world (g refl)
      room_by answers.Null e g = room_for_known values.Null world (g refl)
      room_by (answers.Text text) e g = room_for_known (values.Ref (length world.heap)) (with_object world (objects.Text text)) (g refl)
      room_by (answers.Fresh class) e g = room_for_known (values.Ref (length world.heap)) (with_object world (bare_object class)) (g refl)
      room_by (answers.Arg i) e g = room_for_found (slice_get arguments i) (g refl)
      room_by answers.Receiver e g = room_for_found receiver (g refl)
      room_by (answers.Throws class) e g = tt

      room_for : (answer : ApiAnswer) → answer_fits program world.heap result receiver arguments answer ≡ true → CanTake answer thread.frames
      room_for answer well = room_by answer well (λ calm. gives_well program typing ok world.heap world fits result receiver arguments there answer calm well)

    -- ---- whatever the method

    abbrev IsWaitedFor : Option ListedMethod → Type 0
    IsWaitedFor o = IsSomeAnd o (λ (listed : ListedMethod). AreWaiting program typing world.heap (result_type listed.id.desc) thread.frames)

    waiting_for : (o : Option ListedMethod) (listed : ListedMethod) → o ≡ Some listed → IsWaitedFor o
        → AreWaiting program typing world.heap (result_type listed.id.desc) thread.frames
    waiting_for o listed e w = subst IsWaitedFor e w

    module _ (waits : IsWaitedFor (slice_get program.listing.methods method)) where
      answered_fits : (answer : ApiAnswer) (change : Change) → answered program world number thread method receiver arguments answer ≡ Some change → Fits change
      answered_fits answer change e =
          let l = and_then_of (λ (listed : ListedMethod). cond (answer_fits program world.heap (types_of listed.id.desc).result receiver arguments answer)
          (answered_well program world number thread method receiver arguments answer) None) (slice_get program.listing.methods method) change e in
          let c = if_held (answer_fits program world.heap (types_of l.0.id.desc).result receiver arguments answer) _ change l.2 in
          by_answer l.0 l.1 (waiting_for (slice_get program.listing.methods method) l.0 l.1 waits) answer c.0 (thrown_by answer) refl change c.1

      null_fits : (change : Change) → null_thrown program world number thread method ≡ Some change → Fits change
      null_fits change e =
          let l = there_and (slice_get program.listing.methods method) waits in
          thrown_fits (result_type l.0.id.desc) null_pointer l.2 (built_in_thrown program typing ok null_pointer (0, omega arith, refl)) change e

      -- A step of the thread leaves what fits.
      pub call_stepped_fits : (choice : Choice) (change : Change)
          → call_stepped program world number thread method receiver arguments choice ≡ Some change → Fits change
      call_stepped_fits choices.Plain change e = null_fits change (if_held (is_on_null receiver) _ change e).1
      call_stepped_fits (choices.Answer answer) change e = answered_fits answer change (unless_held (is_on_null receiver) _ change e)

      -- The caller has room for each answer that fits.
      pub can_take : (answer : ApiAnswer)
          → option_map_or (λ (listed : ListedMethod). answer_fits program world.heap (types_of listed.id.desc).result receiver arguments answer)
          (slice_get program.listing.methods method) false ≡ true
          → CanTake answer thread.frames
      can_take answer e =
          let h = holds_at (λ (listed : ListedMethod). answer_fits program world.heap (types_of listed.id.desc).result receiver arguments answer)
          (slice_get program.listing.methods method) e in
          room_for h.item h.is (waiting_for (slice_get program.listing.methods method) h.item h.is waits) answer h.passes
