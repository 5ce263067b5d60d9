-- The machine moves.
use Rattle.std.proofs.Common.{
  ◌≡◌,
  ℕ,
  ◌+◌,
  ◌≤◌,
  Bool,
  true,
  false,
  cond,
  List,
  [],
  ◌∷◌,
  length,
  drop,
  Option,
  Some,
  None,
  Ok,
  Err,
  refl,
  subst,
  arith,
}
use Rattle.std.specs.Prelude.{◌==◌, ◌&&◌, IsSome, not, find, slice_get, option_map, option_and_then}
use Rattle.std.specs.Option.{option_map_or, option_to_list}
use Rattle.std.proofs.lemmas.Bool.{le-ltb}
use Rattle.std.proofs.lemmas.Option.{same_Some}
use Rattle.api_listing.specs.declared.descriptor.FieldType.{FieldType}
use Rattle.api_listing.specs.declared.events.ApiAnswer.{ApiAnswer}
use Rattle.api_listing.specs.declared.events.ApiAnswer.TheVariants as answers
use Rattle.api_listing.specs.declared.events.Event.{Event}
use Rattle.api_listing.specs.declared.types.ListedMethod.{ListedMethod}
use Rattle.insn_codec.specs.declared.shape.Heap.{Heap}
use Rattle.insn_codec.specs.declared.shape.Heap.TheVariants as heap
use Rattle.insn_codec.specs.declared.shape.ValueKind.TheVariants as kinds
use Rattle.bytecode_model.specs.declared.program.Program.{Program}
use Rattle.bytecode_model.specs.declared.program.Target.{Target}
use Rattle.guest_heap.specs.declared.frame.Frame.{Frame}
use Rattle.guest_heap.specs.declared.object.Monitor.{Monitor}
use Rattle.guest_heap.specs.declared.object.Object.{Object}
use Rattle.guest_heap.specs.declared.thread.Thread.{Thread}
use Rattle.guest_heap.specs.declared.value.Value.{Value}
use Rattle.guest_heap.specs.declared.value.Value.TheVariants as values
use Rattle.guest_model.specs.declared.machine.Choice.TheVariants as choices
use Rattle.guest_model.specs.declared.machine.Machine.{Machine}
use Rattle.guest_model.specs.Calls.{types_of}
use Rattle.guest_model.specs.Monitors.{entered, held_once_more, left}
use Rattle.guest_frames.specs.Stepping.{after}
use Rattle.guest_model.specs.Parts.{result_of}
use Rattle.guest_frames.specs.Values.{are_one, fits, is_null}
use Rattle.guest_model.specs.Answering.{answer_fits, answered_well, given, returned_by}
use Rattle.guest_model.specs.Changes.{Change, World, returned, world_of}
use Rattle.guest_model.specs.Enabled.{is_held_by_other}
use Rattle.guest_model.specs.Kinds.{class_of_value}
use Rattle.guest_model.specs.Moving.{
  AnswersStep,
  CanTake,
  EnteringSteps,
  HasRoomFor,
  FreeIsEntered,
  HasOne,
  HasRoom,
  IsNumber,
  IsObject,
  IsReadyFor,
  IsReference,
  StackFits,
  Leaves,
  LeavingSteps,
  ReadySteps,
  ReturningSteps,
  ThrowingSteps,
  pushed_by,
  taken_by,
}
use Rattle.guest_model.specs.Stepping.{Acting, comes_to, enters, leaves, left_with, throws_top, operates}
use Rattle.guest_model.specs.HeapOperations.{HeapResult, heap_result}
use Rattle.guest_model.proofs.Leaving.{leaves_as_many}
use Rattle.guest_model.proofs.There.{cond_either, get_some, holds_there, map_some, then_some}
use Rattle.guest_model.proofs.HeapOperations.{ready_operates}

-- ---- operands

pub one_there : (P : Value → Type 0) (items : List Value) → HasOne P items → IsSome (slice_get items 0)
one_there P [] h = absurd h
one_there P (v ∷ below) h = refl

one_is : (P : Value → Type 0) (items : List Value) (v : Value) → HasOne P items → slice_get items 0 ≡ Some v → P v
one_is P [] v h e = absurd h
one_is P (w ∷ below) v h e = subst P (same_Some w v e) h

one_dropped : (items : List Value) (n : ℕ) → length items ≤ n → length (drop 1 items) ≤ n
one_dropped [] n h = h
one_dropped (v ∷ below) n h = omega arith

pub after_some : (frame : Frame) (items : List Value) → length items ≤ frame.stack.size → IsSome (after frame items)
after_some frame items h = rw (le-ltb frame.stack.size (length items) h) refl

-- ---- instructions that are ready

-- what an instruction leaves is at most the stack's size, if it does not throw
abbrev FitsAfter : Frame → HeapResult → Type 0
FitsAfter frame None = Unit {0}
FitsAfter frame (Some (Ok made)) = length made.1 ≤ frame.stack.size
FitsAfter frame (Some (Err class)) = Unit {0}

fits_after : (frame : Frame) (t p : ℕ) (o : HeapResult) → Leaves t p (length frame.stack.items) o
    → length frame.stack.items + p ≤ frame.stack.size + t → FitsAfter frame o
fits_after frame t p None leaves room = tt
fits_after frame t p (Some (Ok made)) leaves room = omega (arith, leaves, room)
fits_after frame t p (Some (Err class)) leaves room = tt

module _ (program : Program) where
  comes_some : (world : World) (a : Acting) (o : HeapResult) → IsSome o → FitsAfter a.frame o
      → IsSome (option_and_then (comes_to program world a) o)
  comes_some world a None h fit = absurd cc
  comes_some world a (Some (Ok made)) h fit = map_some _ (after a.frame made.1) (after_some a.frame made.1 fit)
  comes_some world a (Some (Err class)) h fit = refl

  ready_step : (machine : Machine) (a : Acting) (what : Heap) (ref : Target)
      → IsReadyFor program (world_of machine) what ref a.frame.stack.items
      → HasRoomFor a.frame what
      → IsSome (operates program (world_of machine) a what ref)
  ready_step machine a what ref h room =
      let done = heap_result program (world_of machine) what ref a.frame.stack.items in
      let leaves = leaves_as_many program (world_of machine) what ref a.frame.stack.items in
      comes_some (world_of machine) a done (ready_operates program (world_of machine) what ref a.frame.stack.items h)
      (fits_after a.frame (taken_by what) (pushed_by what) done leaves room)

pub ready_steps : ReadySteps
ready_steps program machine a heap.Constant ref h fit = ready_step program machine a heap.Constant ref h fit
ready_steps program machine a (heap.ReadItem item) ref h fit = ready_step program machine a (heap.ReadItem item) ref h fit
ready_steps program machine a (heap.WriteItem item) ref h fit = ready_step program machine a (heap.WriteItem item) ref h fit
ready_steps program machine a (heap.Divide remainder) ref h fit = ready_step program machine a (heap.Divide remainder) ref h fit
ready_steps program machine a heap.ReadStatic ref h fit = ready_step program machine a heap.ReadStatic ref h fit
ready_steps program machine a heap.WriteStatic ref h fit = ready_step program machine a heap.WriteStatic ref h fit
ready_steps program machine a heap.ReadField ref h fit = ready_step program machine a heap.ReadField ref h fit
ready_steps program machine a heap.WriteField ref h fit = ready_step program machine a heap.WriteField ref h fit
ready_steps program machine a heap.New ref h fit = ready_step program machine a heap.New ref h fit
ready_steps program machine a (heap.NewArray kind) ref h fit = ready_step program machine a (heap.NewArray kind) ref h fit
ready_steps program machine a heap.NewArrayOf ref h fit = ready_step program machine a heap.NewArrayOf ref h fit
ready_steps program machine a heap.Length ref h fit = ready_step program machine a heap.Length ref h fit
ready_steps program machine a heap.Cast ref h fit = ready_step program machine a heap.Cast ref h fit
ready_steps program machine a heap.IsInstance ref h fit = ready_step program machine a heap.IsInstance ref h fit
ready_steps program machine a (heap.Call how) ref h fit = absurd h
ready_steps program machine a heap.Throw ref h fit = absurd h
ready_steps program machine a heap.Enter ref h fit = absurd h
ready_steps program machine a heap.Exit ref h fit = absurd h
ready_steps program machine a (heap.Return kind) ref h fit = absurd h

-- ---- monitors

own_some : (b : Bool) (more : List Monitor) → not b ≡ false → IsSome (cond b (Some more) None)
own_some true more e = refl
own_some false more e = absurd cc

entered_or : (b : Bool) (m : Monitor) (number : ℕ) (on : Value) (others more : List Monitor)
    → option_map_or (λ (m : Monitor). not (m.owner == number)) (cond b (Some m) (find (λ (m : Monitor). are_one m.on on) others)) false
    ≡ false
    → (is_held_by_other others number on ≡ false → IsSome (entered others number on))
    → IsSome (cond b (cond (m.owner == number) (Some more) None) (option_map (λ rest. m ∷ rest) (entered others number on)))
entered_or true m number on others more e later = own_some (m.owner == number) more e
entered_or false m number on others more e later = map_some _ (entered others number on) (later e)

pub free_entered : FreeIsEntered
free_entered [] number on e = refl
free_entered (m ∷ others) number on e =
    entered_or (are_one m.on on) m number on others (held_once_more m ∷ others) e (free_entered others number on)

enter_or : (b : Bool) (monitors : List Monitor) (number : ℕ) (on : Value) (thrown : Option Change) (f : List Monitor → Option Change)
    → IsSome thrown
    → ((held : List Monitor) → IsSome (f held)) → (not b && is_held_by_other monitors number on) ≡ false
    → IsSome (cond b thrown (option_and_then f (entered monitors number on)))
enter_or true monitors number on thrown f t each e = t
enter_or false monitors number on thrown f t each e =
    then_some f (entered monitors number on) (free_entered monitors number on e) (λ held h. each held)

-- what is left below the topmost operand fits
below_fits : (frame : Frame) → StackFits frame → IsSome (after frame (drop 1 frame.stack.items))
below_fits frame within = after_some frame (drop 1 frame.stack.items) (one_dropped frame.stack.items frame.stack.size within)

pub entering_steps : EnteringSteps
entering_steps program machine a ref one within free =
    then_some (enters program (world_of machine) a) (slice_get a.frame.stack.items 0) (one_there IsReference a.frame.stack.items one)
    (λ on e. enter_or (is_null on) machine.monitors a.number on _ _ refl
    (λ held. map_some _ (after a.frame (drop 1 a.frame.stack.items)) (below_fits a.frame within))
    (subst (λ (o : Option Value). option_map_or (λ v. not (is_null v) && is_held_by_other machine.monitors a.number v) o false ≡ false)
    e free))

left_some : (program : Program) (world : World) (a : Acting) (o : Option (List Monitor))
    → IsSome (after a.frame (drop 1 a.frame.stack.items)) → IsSome (left_with program world a o)
left_some program world a None h = refl
left_some program world a (Some held) h = map_some _ (after a.frame (drop 1 a.frame.stack.items)) h

pub leaving_steps : LeavingSteps
leaving_steps program machine a ref one within =
    then_some (leaves program (world_of machine) a) (slice_get a.frame.stack.items 0) (one_there IsReference a.frame.stack.items one)
    (λ on e. cond_either (is_null on) _ _ refl
    (left_some program (world_of machine) a (left machine.monitors a.number on) (below_fits a.frame within)))

-- ---- throwing

pub null_or : {A : Type 0} (b : Bool) (x y : Option A) → IsSome x → (b ≡ false → IsSome y) → IsSome (cond b x y)
null_or true x y h each = h
null_or false x y h each = each refl

pub object_class : (heap : List Object) (v : Value) → IsObject heap v → is_null v ≡ false → IsSome (class_of_value heap v)
object_class heap (values.Int n) h e = absurd h
object_class heap values.Null h e = absurd cc
object_class heap (values.Ref at) h e = map_some _ (slice_get heap at) (get_some heap at h)
object_class heap (values.Class index) h e = refl
object_class heap (values.Lit index) h e = refl

throw_some : (program : Program) (world : World) (a : Acting) (v : Value) → IsObject world.heap v
    → IsSome (throws_top program world a v)
throw_some program world a v h =
    null_or (is_null v) _ _ refl (λ lives. map_some _ (class_of_value world.heap v) (object_class world.heap v h lives))

pub throwing_steps : ThrowingSteps
throwing_steps program machine a ref one =
    then_some (throws_top program (world_of machine) a) (slice_get a.frame.stack.items 0)
    (one_there (IsObject machine.heap) a.frame.stack.items one)
    (λ v e. throw_some program (world_of machine) a v (one_is (IsObject machine.heap) a.frame.stack.items v one e))

-- ---- returning

returned_some : (program : Program) (world : World) (thread : Thread) (frames : List Frame) (result : Option Value) (event : Option Event)
    → HasRoom (length (option_to_list result)) frames → IsSome (returned program world thread frames result event)
returned_some program world thread [] result event h = refl
returned_some program world thread (caller ∷ below) None event h =
    map_some _ (after caller caller.stack.items) (after_some caller caller.stack.items (omega arith))
returned_some program world thread (caller ∷ below) (Some v) event h =
    map_some _ (after caller (v ∷ caller.stack.items)) (after_some caller (v ∷ caller.stack.items) (omega arith))

-- room for one is room for none, too
room_for : (result : Option Value) (frames : List Frame) → HasRoom 1 frames → HasRoom (length (option_to_list result)) frames
room_for result [] h = tt
room_for None (caller ∷ below) h = omega arith
room_for (Some v) (caller ∷ below) h = omega arith

number_fits : (v : Value) → IsNumber v → IsSome (cond (fits kinds.Int v) (Some (Some v)) None)
number_fits (values.Int n) h = refl
number_fits values.Null h = absurd h
number_fits (values.Ref at) h = absurd h
number_fits (values.Class index) h = absurd h
number_fits (values.Lit index) h = absurd h

reference_fits : (v : Value) → IsReference v → IsSome (cond (fits kinds.Reference v) (Some (Some v)) None)
reference_fits (values.Int n) h = absurd h
reference_fits values.Null h = refl
reference_fits (values.Ref at) h = refl
reference_fits (values.Class index) h = refl
reference_fits (values.Lit index) h = refl

number_result : (items : List Value) → HasOne IsNumber items → IsSome (result_of (Some kinds.Int) items)
number_result [] h = absurd h
number_result (v ∷ below) h = number_fits v h

reference_result : (items : List Value) → HasOne IsReference items → IsSome (result_of (Some kinds.Reference) items)
reference_result [] h = absurd h
reference_result (v ∷ below) h = reference_fits v h

pub returning_steps : ReturningSteps
returning_steps program machine a None ref h = returned_some program _ a.thread a.below None None h
returning_steps program machine a (Some kinds.Int) ref h =
    then_some _ (result_of (Some kinds.Int) a.frame.stack.items) (number_result a.frame.stack.items h.0)
    (λ result e. returned_some program _ a.thread a.below result None (room_for result a.below h.1))
returning_steps program machine a (Some kinds.Reference) ref h =
    then_some _ (result_of (Some kinds.Reference) a.frame.stack.items) (reference_result a.frame.stack.items h.0)
    (λ result e. returned_some program _ a.thread a.below result None (room_for result a.below h.1))

-- ---- answers

holds_then : {A B : Type 0} (p : A → Bool) (o : Option A) (f : A → Option B) → option_map_or p o false ≡ true
    → ((x : A) → p x ≡ true → IsSome (f x))
    → IsSome (option_and_then f o)
holds_then p None f e each = absurd cc
holds_then p (Some x) f e each = each x e

module _ (program : Program) (world : World) (number : ℕ) (thread : Thread) (method : ℕ) where
  gave_some : (o : Option (World × Option Value)) → IsSome o → HasRoom 1 thread.frames
      → IsSome (option_and_then (returned_by program number thread method) o)
  gave_some o h room =
      then_some (returned_by program number thread method) o h
      (λ gave e. returned_some program gave.0 thread thread.frames gave.1 _ (room_for gave.1 thread.frames room))

  answer_some : (result : Option FieldType) (receiver : Option Value) (arguments : List Value) (answer : ApiAnswer)
      → answer_fits program world.heap result receiver arguments answer ≡ true → CanTake answer thread.frames
      → IsSome (answered_well program world number thread method receiver arguments answer)
  answer_some result receiver arguments answers.Nothing fit room = returned_some program world thread thread.frames None _ room
  answer_some result receiver arguments (answers.Int n) fit room = gave_some (given world receiver arguments (answers.Int n)) refl room
  answer_some result receiver arguments answers.Null fit room = gave_some (given world receiver arguments answers.Null) refl room
  answer_some result receiver arguments (answers.Text text) fit room =
      gave_some (given world receiver arguments (answers.Text text)) refl room
  answer_some result receiver arguments (answers.Fresh class) fit room =
      gave_some (given world receiver arguments (answers.Fresh class)) refl room
  answer_some result receiver arguments (answers.Arg i) fit room =
      gave_some (given world receiver arguments (answers.Arg i))
      (map_some _ (slice_get arguments i) (holds_there _ (slice_get arguments i) fit)) room
  answer_some result receiver arguments answers.Receiver fit room =
      gave_some (given world receiver arguments answers.Receiver) (map_some _ receiver (holds_there _ receiver fit)) room
  answer_some result receiver arguments (answers.Throws class) fit room = refl

pub answers_step : AnswersStep
answers_step program machine number thread method receiver arguments choices.Plain may room = rw may refl
answers_step program machine number thread method receiver arguments (choices.Answer answer) may room =
    rw may.0 (holds_then _ (slice_get program.listing.methods method) _ may.1
    (λ (listed : ListedMethod) fit. rw fit
    (answer_some program (world_of machine) number thread method (types_of listed.id.desc).result receiver arguments answer fit room)))
