-- The values of a client's machine are not the object of conspec/State, and its objects are of classes of the client: what keeps it.
use Rattle.std.proofs.Common.{
  ◌≡◌,
  ℕ,
  ◌+◌,
  ◌<◌,
  Bool,
  true,
  false,
  List,
  [],
  ◌∷◌,
  ◌++◌,
  length,
  drop,
  Option,
  Some,
  None,
  refl,
  subst,
  arith,
}
use Rattle.std.specs.Prelude.{◌-◌, ◌==◌, nat_le, nat_lt, slice_get, replicate, reverse, take, option_map, cond}
use Rattle.std.specs.List.{AllByRecursion}
use Rattle.std.specs.Option.{option_map_or, option_to_list}
use Rattle.std.proofs.lemmas.List.{length-append, length-map}
use Rattle.std.proofs.lemmas.Option.{cond_some, slice_get_within}
use Rattle.api_listing.specs.declared.events.Event.{Event}
use Rattle.insn_codec.specs.declared.shape.Shape.{Shape}
use Rattle.insn_codec.specs.declared.shape.Shape.TheVariants as shapes
use Rattle.bytecode_model.specs.declared.program.Handler.{Handler}
use Rattle.bytecode_model.specs.declared.program.LinkedClass.{LinkedClass}
use Rattle.bytecode_model.specs.declared.program.Method.{Method}
use Rattle.bytecode_model.specs.declared.program.Program.{Program}
use Rattle.bytecode_model.specs.Heads.{head_of, is_synchronized}
use Rattle.bytecode_model.specs.SearchOrder.{Name}
use Rattle.guest_heap.specs.declared.frame.Frame.{Frame}
use Rattle.guest_heap.specs.declared.object.Monitor.{Monitor}
use Rattle.guest_heap.specs.declared.object.Object.{Object}
use Rattle.guest_heap.specs.declared.object.Object.TheVariants as objects
use Rattle.guest_heap.specs.declared.thread.Doing.{Doing}
use Rattle.guest_heap.specs.declared.thread.Doing.TheVariants as doings
use Rattle.guest_heap.specs.declared.thread.Thread.{Thread}
use Rattle.guest_heap.specs.declared.value.Value.{Value}
use Rattle.guest_heap.specs.declared.value.Value.TheVariants as values
use Rattle.guest_frames.specs.Stepping.{after, fitted, moved_to}
use Rattle.guest_frames.specs.Values.{values_moved}
use Rattle.guest_model.specs.Calls.{Taken, arity, taken}
use Rattle.guest_model.specs.Changes.{
  Change,
  World,
  ended_thread,
  ends_thread,
  enters_method,
  frame_begun,
  frame_of,
  goes,
  lock_of,
  lock_taken,
  rests,
  rests_now,
  returned,
  throws,
  throws_new,
  with_event,
  with_heap,
  with_monitors,
  with_object,
}
use Rattle.guest_model.specs.Finding.{Given}
use Rattle.guest_model.specs.Kinds.{class_of_object}
use Rattle.guest_model.specs.Parts.{main_argument, thrown_thread}
use Rattle.guest_model.specs.Places.{method_at}
use Rattle.guest_model.specs.Throwing.{bare_object, caught_in, handler_of, unwound}
use Rattle.guest_model.proofs.Effects.{IsKeptBy, NamesOnly}
use Rattle.guest_model.proofs.Options.{
  IfThere,
  all_append,
  all_drop,
  all_get,
  all_of_one,
  all_replicate,
  all_reverse,
  all_take,
  and_then_of,
  if_either,
  if_made,
  if_mapped,
  if_none,
  if_some,
  if_then,
  map_of,
}
use Rattle.guest_erasing.specs.Laid.{IsClientName}
use Rattle.guest_erasing.specs.Mirrors.{IsClientValue}

-- an instruction may name every number
pub names_numbers : (shape : Shape) → NamesOnly (λ n. Unit {0}) shape
names_numbers (shapes.Push n) = tt
names_numbers (shapes.Increment slot by) = tt
names_numbers shapes.Nothing = tt
names_numbers shapes.PushNull = tt
names_numbers (shapes.Load kind slot) = tt
names_numbers (shapes.Store kind slot) = tt
names_numbers (shapes.Move form) = tt
names_numbers (shapes.Two op) = tt
names_numbers (shapes.One op) = tt
names_numbers (shapes.Test relation to) = tt
names_numbers (shapes.Compare relation to) = tt
names_numbers (shapes.CompareReferences same to) = tt
names_numbers (shapes.TestNull null to) = tt
names_numbers (shapes.Goto to) = tt
names_numbers shapes.Switch = tt
names_numbers (shapes.Heap what) = tt

module _ (client : Program) where
  -- ---- values

  abbrev pub IsValue : Value → Type 0
  IsValue v = IsClientValue client v

  abbrev pub AreValues : List Value → Type 0
  AreValues items = AllByRecursion IsValue items

  -- what instructions make of such values on their frame alone
  pub values_kept : IsKeptBy values_moved IsValue
  values_kept = record { none = tt; of_two = λ op v w is also. tt; of_one = λ op v is. tt }

  -- the object of a given class is one of the client's
  pub given_value : (class method : ℕ) (m : Method) → method_at client class method ≡ Some m
      → IsValue (values.Class (length client.listing.classes + class))
  given_value class method m e =
      let c = and_then_of (λ (c : LinkedClass). slice_get c.methods method) (slice_get client.classes class) m e in
      let within : class < length client.classes = slice_get_within client.classes class c.0 c.1 in
      let all = length-append client.listing.classes (Rattle.std.specs.Prelude.map (λ (c : LinkedClass). head_of c.file) client.classes) in
      let given = length-map client.classes (λ (c : LinkedClass). head_of c.file) in
      omega (arith, all, given, within)

  -- ---- objects

  abbrev pub ObjectValues : Object → Type 0
  ObjectValues (objects.Plain class fields target thread) = AreValues fields × IsValue target
  ObjectValues (objects.Array desc items) = AreValues items
  ObjectValues (objects.Text text) = Unit {0}

  abbrev pub IsNamed : Object → Type 0
  IsNamed object = IsClientName (class_of_object object)

  -- ---- what is shared

  pub record WorldValues (world : World) : Type 0 where
    pub heap : AllByRecursion ObjectValues world.heap
    pub statics : AllByRecursion AreValues world.statics

  pub record WorldHolds (world : World) : Type 0 where
    pub holds : WorldValues world
    pub names : AllByRecursion IsNamed world.heap

  pub held_holds : (world : World) (held : List Monitor) → WorldHolds world → WorldHolds (with_monitors world held)
  held_holds world held h = record { holds = record { heap = h.holds.heap; statics = h.holds.statics }; names = h.names }

  pub heap_holds : (world : World) (heap : List Object) → AllByRecursion ObjectValues heap → AllByRecursion IsNamed heap → WorldHolds world
      → WorldHolds (with_heap world heap)
  heap_holds world heap all names h = record { holds = record { heap = all; statics = h.holds.statics }; names = names }

  pub object_holds : (world : World) (object : Object) → ObjectValues object → IsNamed object → WorldHolds world
      → WorldHolds (with_object world object)
  object_holds world object is name h =
      heap_holds world (world.heap ++ object ∷ []) (all_append ObjectValues world.heap (object ∷ []) h.holds.heap (is, tt))
      (all_append IsNamed world.heap (object ∷ []) h.names (name, tt)) h

  -- ---- frames and threads

  pub record FrameValues (frame : Frame) : Type 0 where
    pub locals : AreValues frame.locals
    pub items : AreValues frame.stack.items
    pub lock : AreValues (option_to_list frame.lock)

  abbrev pub WaitsValues : Doing → Type 0
  WaitsValues doings.Running = Unit {0}
  WaitsValues (doings.InCall method receiver arguments) = AreValues (option_to_list receiver) × AreValues arguments
  WaitsValues doings.Ended = Unit {0}

  pub fitted_values : (frame : Frame) (at : ℕ) (locals items : List Value) → FrameValues frame → AreValues locals → AreValues items
      → IfThere FrameValues (fitted frame at locals items)
  fitted_values frame at locals items f p q =
      if_either FrameValues (nat_lt frame.stack.size (length items)) _ _ (if_none FrameValues)
      (if_some FrameValues (moved_to frame at locals items) (record { locals = p; items = q; lock = f.lock }))

  pub after_values : (frame : Frame) (items : List Value) → FrameValues frame → AreValues items → IfThere FrameValues (after frame items)
  after_values frame items f all = fitted_values frame (frame.at + 1) frame.locals items f f.locals all

  -- ---- what a call takes

  pub record TakesValues (t : Taken) : Type 0 where
    pub receiver : AreValues (option_to_list t.receiver)
    pub arguments : AreValues t.arguments
    pub beneath : AreValues t.beneath

  pub taken_values : (static : Bool) (n : ℕ) (stack : List Value) → AreValues stack → IfThere TakesValues (taken static n stack)
  unfolding IfThere
  taken_values true n stack all t e =
      let c = cond_some (nat_le n (length stack))
      (record { receiver = None; arguments = reverse (take n stack); beneath = drop n stack }) t e in
      subst TakesValues c.1 (record {
        receiver = tt;
        arguments = all_reverse IsValue (take n stack) (all_take IsValue n stack all);
        beneath = all_drop IsValue n stack all;
      })
  taken_values false n stack all t e =
      let m = map_of (λ (v : Value). record { receiver = Some v; arguments = reverse (take n stack); beneath = drop (n + 1) stack })
      (slice_get stack n) t e in
      subst TakesValues m.2 (record {
        receiver = (all_get IsValue stack n m.0 all m.1, tt);
        arguments = all_reverse IsValue (take n stack) (all_take IsValue n stack all);
        beneath = all_drop IsValue (n + 1) stack all;
      })

  -- ---- frames that begin

  lock_values : (b : Bool) (v : Value) → IsValue v → AreValues (option_to_list (cond b (Some v) None))
  lock_values true v h = (h, tt)
  lock_values false v h = tt

  on_values : (receiver : Option Value) (own : Value) → IsValue own → AreValues (option_to_list receiver)
      → IsValue (option_map_or (λ (v : Value). v) receiver own)
  on_values None own h all = h
  on_values (Some v) own h all = all.0

  pub frame_values : (to : Given) (method : Method) → method_at client to.0 to.1 ≡ Some method
      → (receiver : Option Value) (arguments : List Value)
      → AreValues (option_to_list receiver) → AreValues arguments → FrameValues (frame_of client to method receiver arguments)
  frame_values to method there receiver arguments p q =
      let given : List Value = option_to_list receiver ++ arguments in
      let own : Value = values.Class (length client.listing.classes + to.0) in
      record {
        locals = all_append IsValue given (replicate (method.max_locals - length given) values.Null)
            (all_append IsValue (option_to_list receiver) arguments p q) (all_replicate IsValue _ values.Null tt);
        items = tt;
        lock = lock_values (is_synchronized method.flags) (option_map_or (λ (v : Value). v) receiver own)
            (on_values receiver own (given_value to.0 to.1 method there) p);
      }

  main_values : (b : Bool) → AreValues (cond b [] (main_argument client ∷ []))
  main_values true = tt
  main_values false = (tt, tt)

  -- ---- threads

  pub record ThreadValues (thread : Thread) : Type 0 where
    pub frames : AllByRecursion FrameValues thread.frames
    pub waits : WaitsValues thread.doing

  pub ended_values : ThreadValues ended_thread
  ended_values = record { frames = tt; waits = tt }

  pub rests_values : (to_begin : List Given) → ThreadValues (rests client to_begin)
  rests_values [] = ended_values
  rests_values (next ∷ to_begin) = record {
    frames =
        all_of_one FrameValues (frame_begun client next)
        (if_mapped FrameValues _ (method_at client next.0 next.1)
        (λ method e. frame_values next method e None _ tt (main_values (arity method.desc == 0))));
    waits = tt;
  }

  module _ (thrown : Value) (class : Name) (is : IsValue thrown) where
    caught_values : (frame : Frame) → FrameValues frame → IfThere FrameValues (caught_in client thrown class frame)
    caught_values frame f =
        if_then FrameValues _ (handler_of client frame class)
        (λ (handler : Handler) e. if_either FrameValues (nat_lt 0 frame.stack.size) _ _
        (if_some FrameValues (moved_to frame handler.at frame.locals (thrown ∷ []))
        (record { locals = f.locals; items = (is, tt); lock = f.lock }))
        (if_none FrameValues))

    caught_or : (o : Option Frame) (below others : List Frame) → IfThere FrameValues o → AllByRecursion FrameValues below
        → AllByRecursion FrameValues others
        → AllByRecursion FrameValues (option_map_or (λ (f : Frame). f ∷ below) o others)
    unfolding IfThere
    caught_or None below others f all later = later
    caught_or (Some g) below others f all later = (f g refl, all)

    pub unwound_values : (frames : List Frame) → AllByRecursion FrameValues frames
        → AllByRecursion FrameValues (unwound client thrown class frames)
    unwound_values [] all = tt
    unwound_values (frame ∷ below) all =
        caught_or (caught_in client thrown class frame) below (unwound client thrown class below) (caught_values frame all.0) all.1
        (unwound_values below all.1)

  thrown_values : (frames : List Frame) (to_begin : List Given) → AllByRecursion FrameValues frames
      → ThreadValues (thrown_thread frames to_begin)
  thrown_values [] to_begin all = ended_values
  thrown_values (frame ∷ below) to_begin all = record { frames = all; waits = tt }

  -- ---- changes

  -- What is shared afterwards, the thread of the change and one that begins are so.
  pub record Good (change : Change) : Type 0 where
    pub world : WorldHolds change.world
    pub thread : ThreadValues change.thread
    pub begins : AllByRecursion ThreadValues (option_to_list change.begins)

  abbrev pub GoodIf : Option Change → Type 0
  GoodIf change = IfThere Good change

  pub goes_good : (world : World) (thread : Thread) (frames : List Frame) → WorldHolds world → AllByRecursion FrameValues frames
      → Good (goes world thread frames)
  goes_good world thread frames h all = record { world = h; thread = record { frames = all; waits = tt }; begins = tt }

  -- the top frame was changed
  pub went_on : (world : World) (thread : Thread) (frame : Option Frame) (below : List Frame) → WorldHolds world → IfThere FrameValues frame
      → AllByRecursion FrameValues below → GoodIf (option_map (λ (f : Frame). goes world thread (f ∷ below)) frame)
  went_on world thread frame below h on all = if_made FrameValues Good _ frame (λ f g. goes_good world thread (f ∷ below) h (g, all)) on

  pub throws_good : (world : World) (number : ℕ) (thread : Thread) (frames : List Frame) (thrown : Value) (class : Name)
      (event : Option Event) → WorldHolds world
      → IsValue thrown → AllByRecursion FrameValues frames → Good (throws client world number thread frames thrown class event)
  throws_good world number thread frames thrown class event h is all = record {
    world = held_holds world _ h;
    thread = thrown_values _ thread.to_begin (unwound_values thrown class is frames all);
    begins = tt;
  }

  pub throws_new_good : (world : World) (number : ℕ) (thread : Thread) (frames : List Frame) (class : Name) (event : Option Event)
      → IsClientName class → WorldHolds world
      → AllByRecursion FrameValues frames → Good (throws_new client world number thread frames class event)
  throws_new_good world number thread frames class event name h all =
      throws_good _ number thread frames _ class event (object_holds world (bare_object class) (tt, tt) name h) tt all

  pub enters_good : (world : World) (number : ℕ) (thread : Thread) (waiting : List Frame) (to : Given) (receiver : Option Value)
      (arguments : List Value) → WorldHolds world
      → AllByRecursion FrameValues waiting → AreValues (option_to_list receiver) → AreValues arguments
      → GoodIf (enters_method client world number thread waiting to receiver arguments)
  enters_good world number thread waiting to receiver arguments h all p q =
      if_then Good _ (method_at client to.0 to.1)
      (λ method e. if_then Good _ (lock_taken world.monitors number (lock_of client to.0 method receiver))
      (λ held l. if_some Good _
      (goes_good (with_monitors world held) thread _ (held_holds world held h) (frame_values to method e receiver arguments p q, all))))

  pub returned_good : (world : World) (thread : Thread) (frames : List Frame) (result : Option Value) (event : Option Event)
      → WorldHolds world
      → AllByRecursion FrameValues frames → AreValues (option_to_list result) → GoodIf (returned client world thread frames result event)
  returned_good world thread [] result event h all on_stack =
      if_some Good (with_event (rests_now client world thread) event)
      (record { world = h; thread = rests_values thread.to_begin; begins = tt })
  returned_good world thread (caller ∷ below) result event h all on_stack =
      if_made FrameValues Good (λ (f : Frame). with_event (goes world thread (f ∷ below)) event) (after caller _)
      (λ f g. let good = goes_good world thread (f ∷ below) h
      (g, all.1) in record { world = good.world; thread = good.thread; begins = good.begins })
      (after_values caller _ all.0 (all_append IsValue (option_to_list result) caller.stack.items on_stack all.0.items))

  pub ends_good : (world : World) (number : ℕ) (frames : List Frame) → WorldHolds world → Good (ends_thread world number frames)
  ends_good world number frames h = record { world = held_holds world _ h; thread = ended_values; begins = tt }
