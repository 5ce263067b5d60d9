-- What a step of a thread that is well changes is well.
use Rattle.std.proofs.Common.{◌≡◌, ℕ, false, List, [], ◌∷◌, drop, Option, Some, None, refl, ap}
use Rattle.std.specs.Prelude.{Result, Ok, Err, slice_get}
use Rattle.std.specs.List.{AllByRecursion}
use Rattle.std.specs.Option.{option_map_or}
use Rattle.api_listing.specs.declared.events.ApiAnswer.{ApiAnswer}
use Rattle.api_listing.specs.declared.events.Event.TheVariants as events
use Rattle.insn_codec.specs.declared.insn.Insn.{Insn}
use Rattle.insn_codec.specs.declared.shape.Heap.{Heap}
use Rattle.insn_codec.specs.declared.shape.Heap.TheVariants as heap
use Rattle.insn_codec.specs.declared.shape.ValueKind.{ValueKind}
use Rattle.insn_codec.specs.declared.shape.Shape.{Shape}
use Rattle.insn_codec.specs.declared.shape.Shape.TheVariants as shapes
use Rattle.insn_codec.specs.Control.{next_of}
use Rattle.insn_codec.specs.Effect.{Moved, effect}
use Rattle.insn_codec.specs.Shapes.{shape_of}
use Rattle.insn_codec.specs.Table.{ends, is_heap}
use Rattle.insn_codec.proofs.Table.{goes_to_successor}
use Rattle.bytecode_model.specs.declared.program.Method.{Method}
use Rattle.bytecode_model.specs.declared.program.Program.{Program}
use Rattle.bytecode_model.specs.declared.program.Target.{Target}
use Rattle.bytecode_model.specs.declared.program.Target.TheVariants as target
use Rattle.bytecode_model.specs.SearchOrder.{Name}
use Rattle.guest_heap.specs.declared.frame.Frame.{Frame}
use Rattle.guest_heap.specs.declared.object.Monitor.{Monitor}
use Rattle.guest_heap.specs.declared.thread.Doing.{Doing}
use Rattle.guest_heap.specs.declared.thread.Doing.TheVariants as doings
use Rattle.guest_heap.specs.declared.thread.Thread.{Thread}
use Rattle.guest_heap.specs.declared.value.Value.{Value}
use Rattle.guest_model.specs.declared.machine.Choice.{Choice}
use Rattle.guest_model.specs.declared.machine.Choice.TheVariants as choices
use Rattle.guest_model.specs.declared.machine.Machine.{Machine}
use Rattle.guest_model.specs.Monitors.{entered, left}
use Rattle.guest_model.specs.Places.{insn_at, insn_in, method_at}
use Rattle.guest_frames.specs.Stepping.{after, fitted, frame_stepped}
use Rattle.guest_model.specs.ClosedPlaces.{Places, IsAt, HasInsns, IsCalled, IsClosed}
use Rattle.guest_model.specs.Parts.{bad_monitor, null_pointer, result_of}
use Rattle.guest_frames.specs.Values.{is_null, values_moved, values_seen}
use Rattle.guest_model.specs.Answering.{answer_fits, answered, given, thrown_by, thrown_by_library}
use Rattle.guest_model.specs.Changes.{Change, World, with_monitors, world_of}
use Rattle.guest_model.specs.Kinds.{class_of_value}
use Rattle.guest_model.specs.Stepping.{Acting, acts_on, acts_throwing, call_stepped, comes_to, doing_stepped, enters, frames_stepped, heap_in, heap_stepped, insn_stepped, is_on_null, leaves, left_with, returns, running_stepped, throws_top, operates}
use Rattle.guest_model.specs.HeapOperations.{heap_result}
use Rattle.guest_model.proofs.Calling.{calls_good}
use Rattle.guest_model.proofs.Going.{Stands, Waits, TopCalls, DoesWell, Standing, Well, Good, called, fitted_stands, went_on, inside, after_insn, returned_good}
use Rattle.guest_model.proofs.Options.{and_then_of, IfThere, if_none, if_some, if_either, if_then, if_mapped, there_or}
use Rattle.guest_model.proofs.Throwing.{throws_good, throws_new_good}

module _ (program : Program) (reached : Places) (sound : HasInsns program) (closed : IsClosed program reached) where
  abbrev IsGood : Change → Type 0
  IsGood change = Good program reached change

  abbrev GoodIf : Option Change → Type 0
  GoodIf change = IfThere IsGood change

  -- ---- instructions

  module _ (a : Acting) (stands : Standing program reached (a.frame ∷ a.below)) (insn : Insn) (ref : Target)
      (there : IsAt program a.frame.class a.frame.method a.frame.at insn ref) where
    throws_here : (world : World) (class : Name) → GoodIf (Some (acts_throwing program world a class))
    throws_here world class =
        if_some IsGood _ (throws_new_good program reached closed world a.number a.thread (a.frame ∷ a.below) class None stands tt)

    acts_good : (world : World) (frame : Option Frame) → ((f : Frame) → frame ≡ Some f → Stands program reached f)
        → GoodIf (acts_on world a frame)
    acts_good world frame inside = went_on program reached world a.thread a.below frame inside stands.stand.1 stands.wait

    goes_after : (world : World) (items : List Value) → ends (shape_of insn) ≡ false → GoodIf (acts_on world a (after a.frame items))
    goes_after world items stays =
        acts_good world (after a.frame items) (after_insn program reached sound closed a.frame insn ref stands.stand.0 there stays items)

    comes_good : (world : World) (made : Result (World × List Value) Name) → ends (shape_of insn) ≡ false
        → GoodIf (comes_to program world a made)
    comes_good world (Ok made) stays = goes_after made.0 made.1 stays
    comes_good world (Err class) stays = throws_here world class

    operates_good : (world : World) (what : Heap) → ends (shape_of insn) ≡ false → GoodIf (operates program world a what ref)
    operates_good world what stays =
        if_then IsGood _ (heap_result program world what ref a.frame.stack.items) (λ made e. comes_good world made stays)

    enters_good : (world : World) (on : Value) → ends (shape_of insn) ≡ false → GoodIf (enters program world a on)
    enters_good world on stays =
        if_either IsGood (is_null on) _ _ (throws_here world null_pointer)
        (if_then IsGood _ (entered world.monitors a.number on)
        (λ held e. goes_after (with_monitors world held) (drop 1 a.frame.stack.items) stays))

    left_good : (world : World) (held : Option (List Monitor)) → ends (shape_of insn) ≡ false → GoodIf (left_with program world a held)
    left_good world None stays = throws_here world bad_monitor
    left_good world (Some held) stays = goes_after (with_monitors world held) (drop 1 a.frame.stack.items) stays

    leaves_good : (world : World) (on : Value) → ends (shape_of insn) ≡ false → GoodIf (leaves program world a on)
    leaves_good world on stays =
        if_either IsGood (is_null on) _ _ (throws_here world null_pointer) (left_good world (left world.monitors a.number on) stays)

    throws_top_good : (world : World) (v : Value) → GoodIf (throws_top program world a v)
    throws_top_good world v =
        if_either IsGood (is_null v) _ _ (throws_here world null_pointer)
        (if_mapped IsGood _ (class_of_value world.heap v)
        (λ class e. throws_good program reached closed world a.number a.thread (a.frame ∷ a.below) v class None stands tt))

    returns_good : (world : World) (kind : Option ValueKind) → GoodIf (returns program world a kind)
    returns_good world kind =
        if_then IsGood _ (result_of kind a.frame.stack.items)
        (λ result e. returned_good program reached sound closed _ a.thread a.below result None stands.stand.1 stands.wait tt)

    heap_good : (machine : Machine) (what : Heap) → shape_of insn ≡ shapes.Heap what → GoodIf (heap_stepped program machine a what ref)
    heap_good machine (heap.Call how) shape =
        calls_good program reached sound closed machine a.number a.thread a.frame a.below how insn ref stands there shape
    heap_good machine heap.Throw shape =
        if_then IsGood _ (slice_get a.frame.stack.items 0) (λ v e. throws_top_good (world_of machine) v)
    heap_good machine heap.Enter shape =
        if_then IsGood _ (slice_get a.frame.stack.items 0) (λ v e. enters_good (world_of machine) v (ap ends shape))
    heap_good machine heap.Exit shape =
        if_then IsGood _ (slice_get a.frame.stack.items 0) (λ v e. leaves_good (world_of machine) v (ap ends shape))
    heap_good machine (heap.Return kind) shape = returns_good (world_of machine) kind
    heap_good machine heap.Constant shape = operates_good (world_of machine) heap.Constant (ap ends shape)
    heap_good machine (heap.ReadItem item) shape = operates_good (world_of machine) (heap.ReadItem item) (ap ends shape)
    heap_good machine (heap.WriteItem item) shape = operates_good (world_of machine) (heap.WriteItem item) (ap ends shape)
    heap_good machine (heap.Divide remainder) shape = operates_good (world_of machine) (heap.Divide remainder) (ap ends shape)
    heap_good machine heap.ReadStatic shape = operates_good (world_of machine) heap.ReadStatic (ap ends shape)
    heap_good machine heap.WriteStatic shape = operates_good (world_of machine) heap.WriteStatic (ap ends shape)
    heap_good machine heap.ReadField shape = operates_good (world_of machine) heap.ReadField (ap ends shape)
    heap_good machine heap.WriteField shape = operates_good (world_of machine) heap.WriteField (ap ends shape)
    heap_good machine heap.New shape = operates_good (world_of machine) heap.New (ap ends shape)
    heap_good machine (heap.NewArray kind) shape = operates_good (world_of machine) (heap.NewArray kind) (ap ends shape)
    heap_good machine heap.NewArrayOf shape = operates_good (world_of machine) heap.NewArrayOf (ap ends shape)
    heap_good machine heap.Length shape = operates_good (world_of machine) heap.Length (ap ends shape)
    heap_good machine heap.Cast shape = operates_good (world_of machine) heap.Cast (ap ends shape)
    heap_good machine heap.IsInstance shape = operates_good (world_of machine) heap.IsInstance (ap ends shape)

    frame_stands : is_heap (shape_of insn) ≡ false → (f : Frame) → frame_stepped insn a.frame ≡ Some f → Stands program reached f
    frame_stands alone f e =
        let frame : Frame = a.frame in
        let to : ℕ = next_of values_seen insn frame.at frame.stack.items in
        let m = and_then_of (λ (m : Moved Value). fitted frame to m.0 m.1)
        (effect values_moved (shape_of insn) frame.locals frame.stack.items) f e in
        fitted_stands program reached frame to m.0.0 m.0.1 f m.2
        (closed.next frame.class frame.method frame.at insn ref (inside program reached frame insn ref stands.stand.0 there) there to
        (goes_to_successor values_seen insn frame.at frame.stack.items (sound frame.class frame.method frame.at insn ref there) alone))

    alone_good : (machine : Machine) → is_heap (shape_of insn) ≡ false → GoodIf (acts_on (world_of machine) a (frame_stepped insn a.frame))
    alone_good machine alone = acts_good (world_of machine) (frame_stepped insn a.frame) (frame_stands alone)

    shape_good : (machine : Machine) (shape : Shape) → shape_of insn ≡ shape
        → GoodIf (option_map_or (λ what. heap_stepped program machine a what ref) (heap_in shape)
        (acts_on (world_of machine) a (frame_stepped insn a.frame)))
    shape_good machine (shapes.Heap what) e = heap_good machine what e
    shape_good machine shapes.Nothing e = alone_good machine (ap is_heap e)
    shape_good machine (shapes.Push n) e = alone_good machine (ap is_heap e)
    shape_good machine shapes.PushNull e = alone_good machine (ap is_heap e)
    shape_good machine (shapes.Load kind slot) e = alone_good machine (ap is_heap e)
    shape_good machine (shapes.Store kind slot) e = alone_good machine (ap is_heap e)
    shape_good machine (shapes.Move form) e = alone_good machine (ap is_heap e)
    shape_good machine (shapes.Two op) e = alone_good machine (ap is_heap e)
    shape_good machine (shapes.One op) e = alone_good machine (ap is_heap e)
    shape_good machine (shapes.Increment slot by) e = alone_good machine (ap is_heap e)
    shape_good machine (shapes.Test relation to) e = alone_good machine (ap is_heap e)
    shape_good machine (shapes.Compare relation to) e = alone_good machine (ap is_heap e)
    shape_good machine (shapes.CompareReferences same to) e = alone_good machine (ap is_heap e)
    shape_good machine (shapes.TestNull null to) e = alone_good machine (ap is_heap e)
    shape_good machine (shapes.Goto to) e = alone_good machine (ap is_heap e)
    shape_good machine shapes.Switch e = alone_good machine (ap is_heap e)

  insn_good : (machine : Machine) (a : Acting) (next : Insn × Target) → Standing program reached (a.frame ∷ a.below)
      → insn_at program a.frame ≡ Some next → GoodIf (insn_stepped program machine a next)
  insn_good machine a next stands e =
      let m = and_then_of (λ (of : Method). insn_in of a.frame.at) (method_at program a.frame.class a.frame.method) next e in
      shape_good a stands next.0 next.1 (record { of = m.0; there = m.1; is = m.2 }) machine (shape_of next.0) refl

  frames_good : (machine : Machine) (number : ℕ) (thread : Thread) (frames : List Frame) → Standing program reached frames
      → GoodIf (frames_stepped program machine number thread frames)
  frames_good machine number thread [] stands = if_none IsGood
  frames_good machine number thread (frame ∷ below) stands =
      if_then IsGood _ (insn_at program frame)
      (λ next e. insn_good machine (record { number = number; thread = thread; frame = frame; below = below }) next stands e)

  -- ---- answers

  -- what the thread waits for is called at a place of the set
  called_by : (listed : ℕ) (frames : List Frame) → Standing program reached frames → TopCalls program reached listed frames
      → IsCalled program reached listed
  called_by listed [] stands top = absurd top
  called_by listed (frame ∷ below) stands top = called program reached frame listed stands.stand.0 top

  all_wait : (listed : ℕ) (frames : List Frame) → Standing program reached frames → TopCalls program reached listed frames
      → AllByRecursion (Waits program reached) frames
  all_wait listed [] stands top = absurd top
  all_wait listed (frame ∷ below) stands top = (record { ref = target.ApiMethod listed; at_call = top }, stands.wait)

  module _ (world : World) (number : ℕ) (thread : Thread) (listed : ℕ) (stands : Standing program reached thread.frames)
      (top : TopCalls program reached listed thread.frames) where
    is_called : IsCalled program reached listed
    is_called = called_by listed thread.frames stands top

    throws_there : (class : Name) → GoodIf (thrown_by_library program world number thread listed class)
    throws_there class =
        let event = Some (events.Except number listed) in
        if_some IsGood _ (throws_new_good program reached closed world number thread thread.frames class event stands is_called)

    answered_good : (receiver : Option Value) (arguments : List Value) (answer : ApiAnswer)
        → GoodIf (answered program world number thread listed receiver arguments answer)
    answered_good receiver arguments answer =
        if_then IsGood _ (slice_get program.listing.methods listed)
        (λ of e. if_either IsGood (answer_fits program world.heap _ receiver arguments answer) _ _
        (there_or (GoodIf) _ (thrown_by answer) _
        (if_then IsGood _ (given world receiver arguments answer)
        (λ gave f. returned_good program reached sound closed gave.0 thread thread.frames gave.1 _ stands.stand
        (all_wait listed thread.frames stands top) is_called))
        (λ class f. throws_there class))
        (if_none IsGood))

    call_good : (receiver : Option Value) (arguments : List Value) (choice : Choice)
        → GoodIf (call_stepped program world number thread listed receiver arguments choice)
    call_good receiver arguments choices.Plain =
        if_either IsGood (is_on_null receiver) _ _ (throws_there null_pointer) (if_none IsGood)
    call_good receiver arguments (choices.Answer answer) =
        if_either IsGood (is_on_null receiver) _ _ (if_none IsGood) (answered_good receiver arguments answer)

  -- ---- a thread

  running_good : (machine : Machine) (number : ℕ) (thread : Thread) (choice : Choice) → Standing program reached thread.frames
      → GoodIf (running_stepped program machine number thread choice)
  running_good machine number thread choices.Plain stands = frames_good machine number thread thread.frames stands
  running_good machine number thread (choices.Answer answer) stands = if_none IsGood

  does_good : (machine : Machine) (number : ℕ) (thread : Thread) (doing : Doing) (choice : Choice) → Standing program reached thread.frames
      → DoesWell program reached doing thread.frames → GoodIf (doing_stepped program machine number thread doing choice)
  does_good machine number thread doings.Running choice stands does = running_good machine number thread choice stands
  does_good machine number thread (doings.InCall listed receiver arguments) choice stands does =
      call_good (world_of machine) number thread listed stands does receiver arguments choice
  does_good machine number thread doings.Ended choice stands does = if_none IsGood

  pub thread_good : (machine : Machine) (number : ℕ) (thread : Thread) (choice : Choice) → Well program reached thread
      → GoodIf (doing_stepped program machine number thread thread.doing choice)
  thread_good machine number thread choice well = does_good machine number thread thread.doing choice well.frames well.does
