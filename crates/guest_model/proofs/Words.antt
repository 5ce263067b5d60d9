-- The numbers of a machine are of 32 bits: what that says of values, objects, frames and threads, and what keeps it.
use Rattle.std.proofs.Common.{◌≡◌, ℕ, ◌+◌, ◌^◌, ◌<◌, Bool, true, false, cond, List, [], ◌∷◌, ◌++◌, length, drop, replicate, Option, Some, None, refl, subst, ◌∙◌, arith}
use Rattle.std.specs.Prelude.{pos, ◌-◌, ◌==◌, nat_lt, nat_le, slice_get, reverse, take, option_map, FitsSigned}
use Rattle.std.specs.Int.{w32}
use Rattle.std.specs.List.{AllByRecursion}
use Rattle.std.specs.Option.{option_map_or, option_to_list}
use Rattle.std.proofs.lemmas.Bool.{leb-true}
use Rattle.std.proofs.lemmas.List.{length-reverse, length-take-le}
use Rattle.std.proofs.lemmas.Option.{cond_some, slice_get_within}
use Rattle.api_listing.specs.declared.events.ApiValue.TheVariants as api
use Rattle.api_listing.specs.declared.events.Event.{Event}
use Rattle.bytecode_model.specs.declared.program.Handler.{Handler}
use Rattle.bytecode_model.specs.declared.program.Method.{Method}
use Rattle.bytecode_model.specs.declared.program.Program.{Program}
use Rattle.bytecode_model.specs.SearchOrder.{Name}
use Rattle.guest_heap.specs.declared.frame.Frame.{Frame}
use Rattle.guest_heap.specs.declared.object.Monitor.{Monitor}
use Rattle.guest_heap.specs.declared.object.Object.{Object}
use Rattle.guest_heap.specs.declared.object.Object.TheVariants as objects
use Rattle.guest_heap.specs.declared.thread.Doing.{Doing}
use Rattle.guest_heap.specs.declared.thread.Doing.TheVariants as doings
use Rattle.guest_heap.specs.declared.thread.Thread.{Thread}
use Rattle.guest_heap.specs.declared.value.Value.{Value}
use Rattle.guest_heap.specs.declared.value.Value.TheVariants as values
use Rattle.guest_model.specs.Calls.{Taken, arity, taken}
use Rattle.guest_model.specs.Places.{method_at}
use Rattle.guest_frames.specs.Stepping.{moved_to, fitted, after}
use Rattle.guest_model.specs.Parts.{main_argument, thrown_thread}
use Rattle.guest_model.specs.Throwing.{bare_object, caught_in, handler_of, unwound}
use Rattle.guest_frames.specs.Values.{number_of, values_moved}
use Rattle.guest_model.proofs.Arithmetic.{cast_fits, made_of_one_fits, made_of_two_fits}
use Rattle.guest_model.proofs.Effects.{IsKeptBy}
use Rattle.guest_model.specs.Changes.{
  World,
  Change,
  ended_thread,
  ends_thread,
  enters_method,
  frame_begun,
  frame_of,
  goes,
  lock_of,
  lock_taken,
  rests,
  rests_now,
  returned,
  throws,
  throws_new,
  with_event,
  with_heap,
  with_monitors,
  with_object,
}
use Rattle.guest_model.specs.Finding.{Given}
use Rattle.guest_model.specs.Numbers.{IsInRange, IsWordSeen}
use Rattle.guest_model.specs.Seen.{object_shown, value_shown}
use Rattle.guest_model.proofs.Options.{
  map_of,
  IfThere,
  if_none,
  if_some,
  if_either,
  if_then,
  if_mapped,
  if_made,
  all_get,
  all_append,
  all_drop,
  all_take,
  all_replicate,
  all_reverse,
  all_of_one,
}

-- ---- values

-- a text whose characters an int can count
abbrev pub IsShort : List ℕ → Type 0
IsShort text = length text < 2 ^ 16

-- A number is of 32 bits.
abbrev pub IsWord : Value → Type 0
IsWord (values.Int n) = FitsSigned w32 n
IsWord values.Null = Unit {0}
IsWord (values.Ref at) = Unit {0}
IsWord (values.Class index) = Unit {0}
IsWord (values.Lit index) = Unit {0}

abbrev pub AreWords : List Value → Type 0
AreWords items = AllByRecursion IsWord items

-- the number of a value, which is 0 where it is none
number_is : (v : Value) → IsWord v → FitsSigned w32 (number_of v)
number_is (values.Int n) h = h
number_is values.Null h = cast_fits 0
number_is (values.Ref at) h = cast_fits 0
number_is (values.Class index) h = cast_fits 0
number_is (values.Lit index) h = cast_fits 0

-- what instructions make of such values on their frame alone
pub words_kept : IsKeptBy values_moved IsWord
words_kept = record {
  none = tt;
  of_two = λ op v w is also. made_of_two_fits op (number_of v) (number_of w) (number_is v is);
  of_one = λ op v is. made_of_one_fits op (number_of v);
}

-- ---- objects

-- the items of an array are as many as an int can count
abbrev pub ObjectWords : Object → Type 0
ObjectWords (objects.Plain class fields target thread) = AreWords fields × IsWord target
ObjectWords (objects.Array desc items) = AreWords items × FitsSigned w32 (pos (length items))
ObjectWords (objects.Text text) = IsShort text

abbrev pub HeapWords : List Object → Type 0
HeapWords heap = AllByRecursion ObjectWords heap

pub record WorldWords (world : World) : Type 0 where
  pub heap : HeapWords world.heap
  pub statics : AllByRecursion AreWords world.statics

-- ---- what is shared

pub held_words : (world : World) (held : List Monitor) → WorldWords world → WorldWords (with_monitors world held)
held_words world held words = record { heap = words.heap; statics = words.statics }

pub heap_words : (world : World) (heap : List Object) → HeapWords heap → WorldWords world → WorldWords (with_heap world heap)
heap_words world heap all words = record { heap = all; statics = words.statics }

pub object_words : (world : World) (object : Object) → ObjectWords object → WorldWords world → WorldWords (with_object world object)
object_words world object h words =
    heap_words world (world.heap ++ object ∷ []) (all_append ObjectWords world.heap (object ∷ []) words.heap (h, tt)) words

-- ---- frames and threads

abbrev pub FrameWords : Frame → Type 0
FrameWords frame = AreWords frame.locals × AreWords frame.stack.items

-- what a thread waits with for the answer of a call
abbrev pub WaitsWords : Doing → Type 0
WaitsWords doings.Running = Unit {0}
WaitsWords (doings.InCall method receiver arguments) = AreWords (option_to_list receiver) × AreWords arguments
WaitsWords doings.Ended = Unit {0}

pub record ThreadWords (thread : Thread) : Type 0 where
  pub frames : AllByRecursion FrameWords thread.frames
  pub waits : WaitsWords thread.doing

pub ended_words : ThreadWords ended_thread
ended_words = record { frames = tt; waits = tt }

pub fitted_words : (frame : Frame) (at : ℕ) (locals items : List Value) → AreWords locals → AreWords items
    → IfThere FrameWords (fitted frame at locals items)
fitted_words frame at locals items p q =
    if_either FrameWords (nat_lt frame.stack.size (length items)) _ _ (if_none FrameWords)
    (if_some FrameWords (moved_to frame at locals items) (p, q))

pub after_words : (frame : Frame) (items : List Value) → FrameWords frame → AreWords items → IfThere FrameWords (after frame items)
after_words frame items words all = fitted_words frame (frame.at + 1) frame.locals items words.0 all

-- ---- what a call takes

pub record TakesWords (n : ℕ) (t : Taken) : Type 0 where
  pub receiver : AreWords (option_to_list t.receiver)
  pub arguments : AreWords t.arguments
  pub beneath : AreWords t.beneath
  pub count : length t.arguments ≡ n

pub taken_words : (static : Bool) (n : ℕ) (stack : List Value) → AreWords stack → IfThere (TakesWords n) (taken static n stack)
unfolding IfThere
taken_words true n stack all t e =
    let c = cond_some (nat_le n (length stack))
    (record { receiver = None; arguments = reverse (take n stack); beneath = drop n stack }) t e in
    subst (TakesWords n) c.1 (record {
      receiver = tt;
      arguments = all_reverse IsWord (take n stack) (all_take IsWord n stack all);
      beneath = all_drop IsWord n stack all;
      count = length-reverse (take n stack) ∙ length-take-le n stack (leb-true n (length stack) c.0);
    })
taken_words false n stack all t e =
    let m = map_of (λ (v : Value). record { receiver = Some v; arguments = reverse (take n stack); beneath = drop (n + 1) stack })
    (slice_get stack n) t e in
    let within : n < length stack = slice_get_within stack n m.0 m.1 in
    subst (TakesWords n) m.2 (record {
      receiver = (all_get IsWord stack n m.0 all m.1, tt);
      arguments = all_reverse IsWord (take n stack) (all_take IsWord n stack all);
      beneath = all_drop IsWord (n + 1) stack all;
      count = length-reverse (take n stack) ∙ length-take-le n stack (omega arith);
    })

module _ (program : Program) where
  -- ---- what the library sees

  object_is_word : (at : ℕ) (o : Option Object) → IsWordSeen (option_map_or (object_shown program at) o api.Null)
  object_is_word at None = tt
  object_is_word at (Some (objects.Plain class fields target thread)) = plain_is_word _ at class where
    plain_is_word : (b : Bool) (at : ℕ) (class : Name) → IsWordSeen (cond b (api.Text []) (api.Obj class at))
    plain_is_word true at class = tt
    plain_is_word false at class = tt
  object_is_word at (Some (objects.Array desc items)) = tt
  object_is_word at (Some (objects.Text text)) = tt

  pub shown_is_word : (heap : List Object) (v : Value) → IsWord v → IsWordSeen (value_shown program heap v)
  shown_is_word heap (values.Int n) h = h
  shown_is_word heap values.Null h = tt
  shown_is_word heap (values.Ref at) h = object_is_word at (slice_get heap at)
  shown_is_word heap (values.Class index) h = tt
  shown_is_word heap (values.Lit index) h = tt

  -- ---- frames that begin

  pub frame_words : (to : Given) (method : Method) (receiver : Option Value) (arguments : List Value) → AreWords (option_to_list receiver)
      → AreWords arguments → FrameWords (frame_of program to method receiver arguments)
  frame_words to method receiver arguments p q =
      let given : List Value = option_to_list receiver ++ arguments in (
        all_append IsWord given (replicate (method.max_locals - length given) values.Null)
            (all_append IsWord (option_to_list receiver) arguments p q) (all_replicate IsWord _ values.Null tt),
        tt,
      )

  main_words : (b : Bool) → AreWords (cond b [] (main_argument program ∷ []))
  main_words true = tt
  main_words false = (tt, tt)

  pub rests_words : (to_begin : List Given) → ThreadWords (rests program to_begin)
  rests_words [] = ended_words
  rests_words (next ∷ to_begin) = record {
    frames =
        all_of_one FrameWords (frame_begun program next)
        (if_mapped FrameWords _ (method_at program next.0 next.1)
        (λ method e. frame_words next method None _ tt (main_words (arity method.desc == 0))));
    waits = tt;
  }

  module _ (thrown : Value) (class : Name) (word : IsWord thrown) where
    caught_words : (frame : Frame) → FrameWords frame → IfThere FrameWords (caught_in program thrown class frame)
    caught_words frame words =
        if_then FrameWords _ (handler_of program frame class)
        (λ (handler : Handler) e. if_either FrameWords (nat_lt 0 frame.stack.size) _ _
        (if_some FrameWords (moved_to frame handler.at frame.locals (thrown ∷ [])) (words.0, (word, tt))) (if_none FrameWords))

    caught_or : (o : Option Frame) (below others : List Frame) → IfThere FrameWords o → AllByRecursion FrameWords below
        → AllByRecursion FrameWords others
        → AllByRecursion FrameWords (option_map_or (λ (f : Frame). f ∷ below) o others)
    unfolding IfThere
    caught_or None below others words all later = later
    caught_or (Some f) below others words all later = (words f refl, all)

    pub unwound_words : (frames : List Frame) → AllByRecursion FrameWords frames
        → AllByRecursion FrameWords (unwound program thrown class frames)
    unwound_words [] all = tt
    unwound_words (frame ∷ below) all =
        caught_or (caught_in program thrown class frame) below (unwound program thrown class below) (caught_words frame all.0) all.1
        (unwound_words below all.1)

  thrown_words : (frames : List Frame) (to_begin : List Given) → AllByRecursion FrameWords frames
      → ThreadWords (thrown_thread frames to_begin)
  thrown_words [] to_begin all = ended_words
  thrown_words (frame ∷ below) to_begin all = record { frames = all; waits = tt }

  -- ---- changes

  abbrev pub SeenInRange : Option Event → Type 0
  SeenInRange event = AllByRecursion (IsInRange program) (option_to_list event)

  -- What is shared afterwards, the thread of the change and one that begins are so, and what is seen is in range.
  pub record Good (change : Change) : Type 0 where
    pub world : WorldWords change.world
    pub thread : ThreadWords change.thread
    pub begins : AllByRecursion ThreadWords (option_to_list change.begins)
    pub seen : SeenInRange change.event

  abbrev pub GoodIf : Option Change → Type 0
  GoodIf change = IfThere Good change

  pub goes_good : (world : World) (thread : Thread) (frames : List Frame) → WorldWords world → AllByRecursion FrameWords frames
      → Good (goes world thread frames)
  goes_good world thread frames words all = record { world = words; thread = record { frames = all; waits = tt }; begins = tt; seen = tt }

  -- the top frame was changed
  pub went_on : (world : World) (thread : Thread) (frame : Option Frame) (below : List Frame) → WorldWords world → IfThere FrameWords frame
      → AllByRecursion FrameWords below → GoodIf (option_map (λ (f : Frame). goes world thread (f ∷ below)) frame)
  went_on world thread frame below words on all =
      if_made FrameWords Good _ frame (λ f h. goes_good world thread (f ∷ below) words (h, all)) on

  pub ends_good : (world : World) (number : ℕ) (frames : List Frame) → WorldWords world → Good (ends_thread world number frames)
  ends_good world number frames words = record { world = held_words world _ words; thread = ended_words; begins = tt; seen = tt }

  pub throws_good : (world : World) (number : ℕ) (thread : Thread) (frames : List Frame) (thrown : Value) (class : Name)
      (event : Option Event) → WorldWords world → IsWord thrown → AllByRecursion FrameWords frames → SeenInRange event
      → Good (throws program world number thread frames thrown class event)
  throws_good world number thread frames thrown class event words word all seen = record {
    world = held_words world _ words;
    thread = thrown_words _ thread.to_begin (unwound_words thrown class word frames all);
    begins = tt;
    seen = seen;
  }

  pub throws_new_good : (world : World) (number : ℕ) (thread : Thread) (frames : List Frame) (class : Name) (event : Option Event)
      → WorldWords world → AllByRecursion FrameWords frames → SeenInRange event
      → Good (throws_new program world number thread frames class event)
  throws_new_good world number thread frames class event words all seen =
      throws_good _ number thread frames _ class event (object_words world (bare_object class) (tt, tt) words) tt all seen

  pub enters_good : (world : World) (number : ℕ) (thread : Thread) (waiting : List Frame) (to : Given) (receiver : Option Value)
      (arguments : List Value) → WorldWords world → AllByRecursion FrameWords waiting → AreWords (option_to_list receiver)
      → AreWords arguments → GoodIf (enters_method program world number thread waiting to receiver arguments)
  enters_good world number thread waiting to receiver arguments words all p q =
      if_then Good _ (method_at program to.0 to.1)
      (λ method e. if_then Good _ (lock_taken world.monitors number (lock_of program to.0 method receiver))
      (λ held l. if_some Good _ (goes_good (with_monitors world held) thread _ (held_words world held words)
      (frame_words to method receiver arguments p q, all))))

  event_good : (event : Option Event) (change : Change) → Good change → SeenInRange event → Good (with_event change event)
  event_good event change good seen = record { world = good.world; thread = good.thread; begins = good.begins; seen = seen }

  pub returned_good : (world : World) (thread : Thread) (frames : List Frame) (result : Option Value) (event : Option Event)
      → WorldWords world → AllByRecursion FrameWords frames → AreWords (option_to_list result) → SeenInRange event
      → GoodIf (returned program world thread frames result event)
  returned_good world thread [] result event words all on_stack seen =
      if_some Good (with_event (rests_now program world thread) event)
      (record { world = words; thread = rests_words thread.to_begin; begins = tt; seen = seen })
  returned_good world thread (caller ∷ below) result event words all on_stack seen =
      if_made FrameWords Good (λ (f : Frame). with_event (goes world thread (f ∷ below)) event) (after caller _)
      (λ f h. event_good event (goes world thread (f ∷ below)) (goes_good world thread (f ∷ below) words (h, all.1)) seen)
      (after_words caller _ all.0 (all_append IsWord (option_to_list result) caller.stack.items on_stack all.0.1))
