-- What the library sees of a machine can be written: what that says of values, objects, frames and threads, and what keeps it.
use Rattle.std.proofs.Common.{◌≡◌, ℕ, ◌+◌, ◌<◌, Bool, true, false, cond, List, [], ◌∷◌, ◌++◌, length, drop, replicate, Option, Some, None, refl, subst, ◌∙◌, arith}
use Rattle.std.specs.Prelude.{◌-◌, ◌==◌, nat_lt, nat_le, slice_get, reverse, take, option_map}
use Rattle.std.specs.List.{AllByRecursion}
use Rattle.std.specs.Option.{option_map_or, option_to_list}
use Rattle.std.proofs.lemmas.Bool.{leb-true}
use Rattle.std.proofs.lemmas.List.{length-reverse, length-take-le}
use Rattle.std.proofs.lemmas.Option.{cond_some, slice_get_within}
use Rattle.api_listing.specs.declared.events.ApiValue.TheVariants as api
use Rattle.api_listing.specs.declared.events.Event.{Event}
use Rattle.bytecode_model.specs.declared.program.Handler.{Handler}
use Rattle.bytecode_model.specs.declared.program.Method.{Method}
use Rattle.bytecode_model.specs.declared.program.Program.{Program}
use Rattle.bytecode_model.specs.SearchOrder.{Name}
use Rattle.guest_heap.specs.declared.frame.Frame.{Frame}
use Rattle.guest_heap.specs.declared.object.Monitor.{Monitor}
use Rattle.guest_heap.specs.declared.object.Object.{Object}
use Rattle.guest_heap.specs.declared.object.Object.TheVariants as objects
use Rattle.guest_heap.specs.declared.thread.Doing.{Doing}
use Rattle.guest_heap.specs.declared.thread.Doing.TheVariants as doings
use Rattle.guest_heap.specs.declared.thread.Thread.{Thread}
use Rattle.guest_heap.specs.declared.value.Value.{Value}
use Rattle.guest_heap.specs.declared.value.Value.TheVariants as values
use Rattle.guest_model.specs.Calls.{Taken, arity, taken}
use Rattle.guest_model.specs.Places.{method_at}
use Rattle.guest_frames.specs.Stepping.{moved_to, fitted, after}
use Rattle.guest_model.specs.Parts.{main_argument, thrown_thread}
use Rattle.guest_model.specs.Throwing.{bare_object, caught_in, handler_of, unwound}
use Rattle.guest_frames.specs.Values.{values_moved}
use Rattle.guest_model.proofs.Effects.{IsKeptBy}
use Rattle.guest_model.specs.Changes.{
  World,
  Change,
  ended_thread,
  ends_thread,
  enters_method,
  frame_begun,
  frame_of,
  goes,
  lock_of,
  lock_taken,
  rests,
  rests_now,
  returned,
  throws,
  throws_new,
  with_event,
  with_heap,
  with_monitors,
  with_object,
}
use Rattle.guest_model.specs.Finding.{Given}
use Rattle.guest_model.specs.Seen.{object_shown, value_shown}
use Rattle.guest_model.proofs.Options.{
  map_of,
  IfThere,
  if_none,
  if_some,
  if_either,
  if_then,
  if_mapped,
  if_made,
  all_get,
  all_append,
  all_drop,
  all_take,
  all_replicate,
  all_reverse,
  all_of_one,
}
use Rattle.api_listing.specs.declared.types.ListedMethod.{ListedMethod}
use Rattle.bytecode_model.specs.Classes.{classes_of, is_below}
use Rattle.guest_model.specs.Calls.{name_at}
use Rattle.guest_model.specs.Kinds.{string}
use Rattle.guest_model.specs.Seen.{literal_at}
use Rattle.guest_model.proofs.Options.{there_or}
use Rattle.event_record.proofs.WrittenLines.{IsEventWritten, IsNamed, ShowsWords}

-- ---- what is named

-- The class of an object is a word, and a text is made of bytes.
abbrev pub ObjectNamed : Object → Type 0
ObjectNamed (objects.Plain class fields target thread) = IsNamed class
ObjectNamed (objects.Array desc items) = IsNamed desc
ObjectNamed (objects.Text text) = AllByRecursion (λ b. b < 256) text

abbrev pub HeapNamed : List Object → Type 0
HeapNamed heap = AllByRecursion ObjectNamed heap

-- each text of the program is made of bytes
abbrev pub LiteralsAreBytes : Program → Type 0
LiteralsAreBytes program = (index : ℕ) → AllByRecursion (λ b. b < 256) (literal_at program index)

-- a method of the listing takes fewer than 256 arguments
abbrev pub FewArguments : Program → Type 0
FewArguments program = (index : ℕ) (listed : ListedMethod) → slice_get program.listing.methods index ≡ Some listed → arity listed.id.desc < 256

module _ (program : Program) where
  -- ---- values

  -- The object of a class shows a name.
  abbrev pub IsShown : Value → Type 0
  IsShown (values.Int n) = Unit {0}
  IsShown values.Null = Unit {0}
  IsShown (values.Ref at) = Unit {0}
  IsShown (values.Class index) = IsNamed (name_at (classes_of program) index)
  IsShown (values.Lit index) = Unit {0}

  abbrev pub AreShown : List Value → Type 0
  AreShown items = AllByRecursion IsShown items

  -- what instructions make of such values on their frame alone
  pub shown_kept : IsKeptBy values_moved IsShown
  shown_kept = record {
    none = tt;
    of_two = λ op v w is also. tt;
    of_one = λ op v is. tt;
  }

  -- ---- objects

  -- the fields and the target of an object, and the items of an array
  abbrev pub ObjectShown : Object → Type 0
  ObjectShown (objects.Plain class fields target thread) = AreShown fields × IsShown target
  ObjectShown (objects.Array desc items) = AreShown items
  ObjectShown (objects.Text text) = Unit {0}

  abbrev pub HeapShown : List Object → Type 0
  HeapShown heap = AllByRecursion ObjectShown heap

  pub record WorldShown (world : World) : Type 0 where
    pub heap : HeapShown world.heap
    pub named : HeapNamed world.heap
    pub statics : AllByRecursion AreShown world.statics

  -- ---- what is shared

  pub held_shown : (world : World) (held : List Monitor) → WorldShown world → WorldShown (with_monitors world held)
  held_shown world held words = record { heap = words.heap; named = words.named; statics = words.statics }

  pub heap_shown : (world : World) (heap : List Object) → HeapShown heap → HeapNamed heap → WorldShown world → WorldShown (with_heap world heap)
  heap_shown world heap all named words = record { heap = all; named = named; statics = words.statics }

  pub more_shown : (world : World) (object : Object) → ObjectShown object → ObjectNamed object → WorldShown world → WorldShown (with_object world object)
  more_shown world object h named words =
      heap_shown world (world.heap ++ object ∷ []) (all_append ObjectShown world.heap (object ∷ []) words.heap (h, tt))
      (all_append ObjectNamed world.heap (object ∷ []) words.named (named, tt)) words

  -- ---- frames and threads

  abbrev pub FrameShown : Frame → Type 0
  FrameShown frame = AreShown frame.locals × AreShown frame.stack.items

  -- what a thread waits with for the answer of a call, of fewer than 256 arguments
  abbrev pub WaitsShown : Doing → Type 0
  WaitsShown doings.Running = Unit {0}
  WaitsShown (doings.InCall method receiver arguments) = AreShown (option_to_list receiver) × AreShown arguments × (length arguments < 256)
  WaitsShown doings.Ended = Unit {0}

  pub record ThreadShown (thread : Thread) : Type 0 where
    pub frames : AllByRecursion FrameShown thread.frames
    pub waits : WaitsShown thread.doing

  pub ended_shown : ThreadShown ended_thread
  ended_shown = record { frames = tt; waits = tt }

  pub fitted_shown : (frame : Frame) (at : ℕ) (locals items : List Value) → AreShown locals → AreShown items
      → IfThere FrameShown (fitted frame at locals items)
  fitted_shown frame at locals items p q =
      if_either FrameShown (nat_lt frame.stack.size (length items)) _ _ (if_none FrameShown)
      (if_some FrameShown (moved_to frame at locals items) (p, q))

  pub after_shown : (frame : Frame) (items : List Value) → FrameShown frame → AreShown items → IfThere FrameShown (after frame items)
  after_shown frame items words all = fitted_shown frame (frame.at + 1) frame.locals items words.0 all

  -- ---- what a call takes

  pub record TakesShown (n : ℕ) (t : Taken) : Type 0 where
    pub receiver : AreShown (option_to_list t.receiver)
    pub arguments : AreShown t.arguments
    pub beneath : AreShown t.beneath
    pub count : length t.arguments ≡ n

  pub taken_shown : (static : Bool) (n : ℕ) (stack : List Value) → AreShown stack → IfThere (TakesShown n) (taken static n stack)
  unfolding IfThere
  taken_shown true n stack all t e =
      let c = cond_some (nat_le n (length stack))
      (record { receiver = None; arguments = reverse (take n stack); beneath = drop n stack }) t e in
      subst (TakesShown n) c.1 (record {
        receiver = tt;
        arguments = all_reverse IsShown (take n stack) (all_take IsShown n stack all);
        beneath = all_drop IsShown n stack all;
        count = length-reverse (take n stack) ∙ length-take-le n stack (leb-true n (length stack) c.0);
      })
  taken_shown false n stack all t e =
      let m = map_of (λ (v : Value). record { receiver = Some v; arguments = reverse (take n stack); beneath = drop (n + 1) stack })
      (slice_get stack n) t e in
      let within : n < length stack = slice_get_within stack n m.0 m.1 in
      subst (TakesShown n) m.2 (record {
        receiver = (all_get IsShown stack n m.0 all m.1, tt);
        arguments = all_reverse IsShown (take n stack) (all_take IsShown n stack all);
        beneath = all_drop IsShown (n + 1) stack all;
        count = length-reverse (take n stack) ∙ length-take-le n stack (omega arith);
      })

  -- ---- what the library sees

  module _ (literals : LiteralsAreBytes program) where
    object_is_written : (at : ℕ) (object : Object) → ObjectNamed object → ShowsWords (object_shown program at object)
    object_is_written at (objects.Plain class fields target thread) named = by (is_below program class string) where
      by : (b : Bool) → ShowsWords (cond b (api.Text []) (api.Obj class at))
      by true = tt
      by false = named
    object_is_written at (objects.Array desc items) named = named
    object_is_written at (objects.Text text) named = named

    pub shown_is_written : (heap : List Object) → HeapNamed heap → (v : Value) → IsShown v → ShowsWords (value_shown program heap v)
    shown_is_written heap named (values.Int n) h = tt
    shown_is_written heap named values.Null h = tt
    shown_is_written heap named (values.Ref at) h =
        there_or ShowsWords (object_shown program at) (slice_get heap at) api.Null tt
        (λ object e. object_is_written at object (all_get ObjectNamed heap at object named e))
    shown_is_written heap named (values.Class index) h = h
    shown_is_written heap named (values.Lit index) h = literals index

  -- ---- frames that begin

  pub frame_shown : (to : Given) (method : Method) (receiver : Option Value) (arguments : List Value) → AreShown (option_to_list receiver)
      → AreShown arguments → FrameShown (frame_of program to method receiver arguments)
  frame_shown to method receiver arguments p q =
      let given : List Value = option_to_list receiver ++ arguments in (
        all_append IsShown given (replicate (method.max_locals - length given) values.Null)
            (all_append IsShown (option_to_list receiver) arguments p q) (all_replicate IsShown _ values.Null tt),
        tt,
      )

  main_shown : (b : Bool) → AreShown (cond b [] (main_argument program ∷ []))
  main_shown true = tt
  main_shown false = (tt, tt)

  pub rests_shown : (to_begin : List Given) → ThreadShown (rests program to_begin)
  rests_shown [] = ended_shown
  rests_shown (next ∷ to_begin) = record {
    frames =
        all_of_one FrameShown (frame_begun program next)
        (if_mapped FrameShown _ (method_at program next.0 next.1)
        (λ method e. frame_shown next method None _ tt (main_shown (arity method.desc == 0))));
    waits = tt;
  }

  module _ (thrown : Value) (class : Name) (word : IsShown thrown) where
    caught_shown : (frame : Frame) → FrameShown frame → IfThere FrameShown (caught_in program thrown class frame)
    caught_shown frame words =
        if_then FrameShown _ (handler_of program frame class)
        (λ (handler : Handler) e. if_either FrameShown (nat_lt 0 frame.stack.size) _ _
        (if_some FrameShown (moved_to frame handler.at frame.locals (thrown ∷ [])) (words.0, (word, tt))) (if_none FrameShown))

    caught_or : (o : Option Frame) (below others : List Frame) → IfThere FrameShown o → AllByRecursion FrameShown below
        → AllByRecursion FrameShown others
        → AllByRecursion FrameShown (option_map_or (λ (f : Frame). f ∷ below) o others)
    unfolding IfThere
    caught_or None below others words all later = later
    caught_or (Some f) below others words all later = (words f refl, all)

    pub unwound_shown : (frames : List Frame) → AllByRecursion FrameShown frames
        → AllByRecursion FrameShown (unwound program thrown class frames)
    unwound_shown [] all = tt
    unwound_shown (frame ∷ below) all =
        caught_or (caught_in program thrown class frame) below (unwound program thrown class below) (caught_shown frame all.0) all.1
        (unwound_shown below all.1)

  thrown_shown : (frames : List Frame) (to_begin : List Given) → AllByRecursion FrameShown frames
      → ThreadShown (thrown_thread frames to_begin)
  thrown_shown [] to_begin all = ended_shown
  thrown_shown (frame ∷ below) to_begin all = record { frames = all; waits = tt }

  -- ---- changes

  abbrev pub SeenWritten : Option Event → Type 0
  SeenWritten event = AllByRecursion (IsEventWritten) (option_to_list event)

  -- What is shared afterwards, the thread of the change and one that begins are so, and what is seen can be written.
  pub record Good (change : Change) : Type 0 where
    pub world : WorldShown change.world
    pub thread : ThreadShown change.thread
    pub begins : AllByRecursion ThreadShown (option_to_list change.begins)
    pub seen : SeenWritten change.event

  abbrev pub GoodIf : Option Change → Type 0
  GoodIf change = IfThere Good change

  pub goes_good : (world : World) (thread : Thread) (frames : List Frame) → WorldShown world → AllByRecursion FrameShown frames
      → Good (goes world thread frames)
  goes_good world thread frames words all = record { world = words; thread = record { frames = all; waits = tt }; begins = tt; seen = tt }

  -- the top frame was changed
  pub went_on : (world : World) (thread : Thread) (frame : Option Frame) (below : List Frame) → WorldShown world → IfThere FrameShown frame
      → AllByRecursion FrameShown below → GoodIf (option_map (λ (f : Frame). goes world thread (f ∷ below)) frame)
  went_on world thread frame below words on all =
      if_made FrameShown Good _ frame (λ f h. goes_good world thread (f ∷ below) words (h, all)) on

  pub ends_good : (world : World) (number : ℕ) (frames : List Frame) → WorldShown world → Good (ends_thread world number frames)
  ends_good world number frames words = record { world = held_shown world _ words; thread = ended_shown; begins = tt; seen = tt }

  pub throws_good : (world : World) (number : ℕ) (thread : Thread) (frames : List Frame) (thrown : Value) (class : Name)
      (event : Option Event) → WorldShown world → IsShown thrown → AllByRecursion FrameShown frames → SeenWritten event
      → Good (throws program world number thread frames thrown class event)
  throws_good world number thread frames thrown class event words word all seen = record {
    world = held_shown world _ words;
    thread = thrown_shown _ thread.to_begin (unwound_shown thrown class word frames all);
    begins = tt;
    seen = seen;
  }

  pub throws_new_good : (world : World) (number : ℕ) (thread : Thread) (frames : List Frame) (class : Name) (event : Option Event)
      → IsNamed class → WorldShown world → AllByRecursion FrameShown frames → SeenWritten event
      → Good (throws_new program world number thread frames class event)
  throws_new_good world number thread frames class event named words all seen =
      throws_good _ number thread frames _ class event (more_shown world (bare_object class) (tt, tt) named words) tt all seen

  pub enters_good : (world : World) (number : ℕ) (thread : Thread) (waiting : List Frame) (to : Given) (receiver : Option Value)
      (arguments : List Value) → WorldShown world → AllByRecursion FrameShown waiting → AreShown (option_to_list receiver)
      → AreShown arguments → GoodIf (enters_method program world number thread waiting to receiver arguments)
  enters_good world number thread waiting to receiver arguments words all p q =
      if_then Good _ (method_at program to.0 to.1)
      (λ method e. if_then Good _ (lock_taken world.monitors number (lock_of program to.0 method receiver))
      (λ held l. if_some Good _ (goes_good (with_monitors world held) thread _ (held_shown world held words)
      (frame_shown to method receiver arguments p q, all))))

  event_good : (event : Option Event) (change : Change) → Good change → SeenWritten event → Good (with_event change event)
  event_good event change good seen = record { world = good.world; thread = good.thread; begins = good.begins; seen = seen }

  pub returned_good : (world : World) (thread : Thread) (frames : List Frame) (result : Option Value) (event : Option Event)
      → WorldShown world → AllByRecursion FrameShown frames → AreShown (option_to_list result) → SeenWritten event
      → GoodIf (returned program world thread frames result event)
  returned_good world thread [] result event words all on_stack seen =
      if_some Good (with_event (rests_now program world thread) event)
      (record { world = words; thread = rests_shown thread.to_begin; begins = tt; seen = seen })
  returned_good world thread (caller ∷ below) result event words all on_stack seen =
      if_made FrameShown Good (λ (f : Frame). with_event (goes world thread (f ∷ below)) event) (after caller _)
      (λ f h. event_good event (goes world thread (f ∷ below)) (goes_good world thread (f ∷ below) words (h, all.1)) seen)
      (after_shown caller _ all.0 (all_append IsShown (option_to_list result) caller.stack.items on_stack all.0.1))
