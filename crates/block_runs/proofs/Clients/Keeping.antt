-- Whatever the steps of a client are, its objects are of classes of the client, and no value is the object of conspec/State.
use Rattle.std.proofs.Common.{ℕ, ◌<◌, arith, List, [], ◌∷◌, drop, length, Option, Some, None, Result, Ok, Err, refl}
use Rattle.std.specs.Prelude.{bytes_eq, is_some, slice_get}
use Rattle.std.specs.List.{AllByRecursion}
use Rattle.std.specs.Option.{option_to_list}
use Rattle.mon_base.proofs.Lists.{position_below}
use Rattle.api_listing.specs.declared.events.Event.{Event}
use Rattle.api_listing.specs.declared.types.ListedClass.{ListedClass}
use Rattle.insn_codec.specs.declared.insn.Insn.{Insn}
use Rattle.insn_codec.specs.declared.shape.Heap.{Heap}
use Rattle.insn_codec.specs.declared.shape.Heap.TheVariants as heap
use Rattle.insn_codec.specs.declared.shape.ValueKind.{ValueKind}
use Rattle.insn_codec.specs.Control.{next_of}
use Rattle.insn_codec.specs.Effect.{Moved, effect}
use Rattle.insn_codec.specs.Shapes.{shape_of}
use Rattle.bytecode_model.specs.declared.program.Method.{Method}
use Rattle.bytecode_model.specs.declared.program.Program.{Program}
use Rattle.bytecode_model.specs.declared.program.Target.{Target}
use Rattle.bytecode_model.specs.declared.program.Target.TheVariants as target
use Rattle.bytecode_model.specs.Classes.{classes_of}
use Rattle.bytecode_model.specs.SearchOrder.{Name}
use Rattle.guest_heap.specs.declared.frame.Frame.{Frame}
use Rattle.guest_heap.specs.declared.object.Monitor.{Monitor}
use Rattle.guest_heap.specs.declared.thread.Doing.{Doing}
use Rattle.guest_heap.specs.declared.thread.Doing.TheVariants as doings
use Rattle.guest_heap.specs.declared.thread.Thread.{Thread}
use Rattle.guest_heap.specs.declared.value.Value.{Value}
use Rattle.guest_heap.specs.declared.value.Value.TheVariants as values
use Rattle.guest_frames.specs.Stepping.{after, frame_stepped}
use Rattle.guest_frames.specs.Values.{fits, is_null, values_moved, values_seen}
use Rattle.guest_model.specs.declared.machine.Choice.{Choice}
use Rattle.guest_model.specs.declared.machine.Choice.TheVariants as choices
use Rattle.guest_model.specs.declared.machine.Machine.{Machine}
use Rattle.guest_model.specs.declared.machine.Step.{Step}
use Rattle.guest_model.specs.Changes.{Change, World, with_monitors, world_of}
use Rattle.guest_model.specs.ClosedPlaces.{IsAt}
use Rattle.guest_model.specs.HeapOperations.{heap_result, name_named}
use Rattle.guest_model.specs.Kinds.{class_of_value}
use Rattle.guest_model.specs.Monitors.{entered, left}
use Rattle.guest_model.specs.Parts.{bad_monitor, constant_value, null_pointer, result_of}
use Rattle.guest_model.specs.Places.{class_index, insn_at, insn_in, method_at}
use Rattle.guest_model.specs.Runs.{exec, start_of, trace}
use Rattle.guest_model.specs.Stepping.{
  Acting,
  acts_on,
  acts_throwing,
  call_stepped,
  changed,
  comes_to,
  doing_stepped,
  enters,
  frames_stepped,
  heap_in,
  heap_stepped,
  insn_stepped,
  is_on_null,
  leaves,
  left_with,
  operates,
  returns,
  running_stepped,
  throws_top,
}
use Rattle.guest_model.proofs.Always.{EachChangeKeeps, holds_always}
use Rattle.guest_model.proofs.Effects.{effect_keeps}
use Rattle.guest_model.proofs.HeapResults.{Comes, result_comes}
use Rattle.guest_model.proofs.Options.{
  IfThere,
  all_drop,
  all_get,
  and_then_of,
  if_either,
  if_mapped,
  if_none,
  if_some,
  if_then,
  is_there,
  there_or,
}
use Rattle.guest_model.proofs.Staying.{threads_keep}
use Rattle.guest_erasing.specs.Laid.{IsClientName}
use Rattle.block_runs.proofs.Clients.Answering.{ListsClients, answered_good, thrown_good}
use Rattle.block_runs.proofs.Clients.Made.{NamedResult, result_named, values_last}
use Rattle.block_runs.proofs.Clients.Named.{IsFree}
use Rattle.block_runs.proofs.Clients.Passing.{calls_good}
use Rattle.block_runs.proofs.Clients.Values.{
  AreValues,
  FrameValues,
  Good,
  GoodIf,
  IsValue,
  ObjectValues,
  ThreadValues,
  WaitsValues,
  WorldHolds,
  WorldValues,
  after_values,
  fitted_values,
  held_holds,
  names_numbers,
  returned_good,
  throws_good,
  throws_new_good,
  values_kept,
  went_on,
}

-- Nothing in a class that an instruction names has to do with conspec/State.
abbrev pub NamesFree : Program → Type 0
NamesFree client =
    (class method at : ℕ) (insn : Insn) (name : Name) → IsAt client class method at insn (target.ClassName name) → IsFree name

module _ (client : Program) where
  -- ---- what instructions name

  constant_is : (ref : Target) → IfThere (IsValue client) (constant_value client ref)
  constant_is (target.Number n) = if_some (IsValue client) (values.Int n) tt
  constant_is (target.Literal index) = if_some (IsValue client) (values.Lit index) tt
  constant_is (target.ClassName name) =
      if_mapped (IsValue client) values.Class (class_index client name)
      (λ index e. let within = position_below (λ (c : ListedClass). bytes_eq c.name name) 0 (classes_of client) index e in
      let so : index < length (classes_of client) = omega (arith, within) in so)
  constant_is target.None = if_none (IsValue client)
  constant_is (target.ApiMethod index) = if_none (IsValue client)
  constant_is (target.Builtin index) = if_none (IsValue client)
  constant_is (target.Method class index) = if_none (IsValue client)
  constant_is (target.Field class index) = if_none (IsValue client)
  constant_is (target.ApiField index) = if_none (IsValue client)

  module _ (free : NamesFree client) where
    name_free : (class method at : ℕ) (insn : Insn) (ref : Target) → IsAt client class method at insn ref → IfThere IsFree (name_named ref)
    name_free class method at insn (target.ClassName name) there = if_some IsFree name (free class method at insn name there)
    name_free class method at insn (target.Number n) there = if_none IsFree
    name_free class method at insn (target.Literal index) there = if_none IsFree
    name_free class method at insn target.None there = if_none IsFree
    name_free class method at insn (target.ApiMethod index) there = if_none IsFree
    name_free class method at insn (target.Builtin index) there = if_none IsFree
    name_free class method at insn (target.Method of index) there = if_none IsFree
    name_free class method at insn (target.Field of index) there = if_none IsFree
    name_free class method at insn (target.ApiField index) there = if_none IsFree

  -- a result is among the operands
  abbrev ResultValues : Option Value → Type 0
  ResultValues result = AreValues client (option_to_list result)

  result_values : (kind : Option ValueKind) (items : List Value) → AreValues client items → IfThere ResultValues (result_of kind items)
  result_values None items all = if_some ResultValues None tt
  result_values (Some kind) items all =
      if_then ResultValues _ (slice_get items 0)
      (λ v e. if_either ResultValues (fits kind v) _ _ (if_some ResultValues (Some v) (all_get (IsValue client) items 0 v all e, tt))
      (if_none ResultValues))

module _ (client : Program) (free : NamesFree client) (lists : ListsClients client) where
  abbrev IsGood : Change → Type 0
  IsGood change = Good client change

  abbrev GoodSo : Option Change → Type 0
  GoodSo change = GoodIf client change

  -- ---- instructions

  module _ (a : Acting) (frame : FrameValues client a.frame) (below : AllByRecursion (FrameValues client) a.below) where
    throws_here : (world : World) (class : Name) → IsClientName class → WorldHolds client world
        → GoodSo (Some (acts_throwing client world a class))
    throws_here world class name h =
        if_some IsGood _ (throws_new_good client world a.number a.thread (a.frame ∷ a.below) class None name h (frame, below))

    acts_good : (world : World) (f : Option Frame) → WorldHolds client world → IfThere (FrameValues client) f → GoodSo (acts_on world a f)
    acts_good world f h on = went_on client world a.thread f a.below h on below

    goes_after : (world : World) (items : List Value) → WorldHolds client world → AreValues client items
        → GoodSo (acts_on world a (after a.frame items))
    goes_after world items h all = acts_good world (after a.frame items) h (after_values client a.frame items frame all)

    -- with one operand less
    goes_less : (world : World) → WorldHolds client world → GoodSo (acts_on world a (after a.frame (drop 1 a.frame.stack.items)))
    goes_less world h = goes_after world (drop 1 a.frame.stack.items) h (all_drop (IsValue client) 1 a.frame.stack.items frame.items)

    comes_good : (world : World) (made : Result (World × List Value) Name) → WorldHolds client world
        → Comes (IsValue client) (WorldValues client) made
        → NamedResult made → GoodSo (comes_to client world a made)
    comes_good world (Ok made) h comes names = goes_after made.0 made.1 (record { holds = comes.0; names = names }) comes.1
    comes_good world (Err class) h comes name = throws_here world class name h

    enters_good : (world : World) (on : Value) → WorldHolds client world → GoodSo (enters client world a on)
    enters_good world on h =
        if_either IsGood (is_null on) _ _ (throws_here world null_pointer refl h)
        (if_then IsGood _ (entered world.monitors a.number on)
        (λ held e. goes_less (with_monitors world held) (held_holds client world held h)))

    left_good : (world : World) (held : Option (List Monitor)) → WorldHolds client world → GoodSo (left_with client world a held)
    left_good world None h = throws_here world bad_monitor refl h
    left_good world (Some held) h = goes_less (with_monitors world held) (held_holds client world held h)

    leaves_good : (world : World) (on : Value) → WorldHolds client world → GoodSo (leaves client world a on)
    leaves_good world on h =
        if_either IsGood (is_null on) _ _ (throws_here world null_pointer refl h) (left_good world (left world.monitors a.number on) h)

    throws_top_good : (world : World) (v : Value) → WorldHolds client world → IsValue client v → GoodSo (throws_top client world a v)
    throws_top_good world v h is =
        if_either IsGood (is_null v) _ _ (throws_here world null_pointer refl h)
        (if_mapped IsGood _ (class_of_value world.heap v)
        (λ class e. throws_good client world a.number a.thread (a.frame ∷ a.below) v class None h is (frame, below)))

    returns_good : (world : World) (kind : Option ValueKind) → WorldHolds client world → GoodSo (returns client world a kind)
    returns_good world kind h =
        if_then IsGood _ (result_of kind a.frame.stack.items)
        (λ result e. returned_good client _ a.thread a.below result None (held_holds client world _ h) below
        (is_there (ResultValues client) _ result (result_values client kind a.frame.stack.items frame.items) e))

    module _ (machine : Machine) (h : WorldHolds client (world_of machine)) (insn : Insn) (ref : Target)
        (there : IsAt client a.frame.class a.frame.method a.frame.at insn ref) where
      operates_good : (what : Heap) → GoodSo (operates client (world_of machine) a what ref)
      operates_good what =
          if_then IsGood _ (heap_result client (world_of machine) what ref a.frame.stack.items)
          (λ made e. comes_good (world_of machine) made h
          (is_there (Comes (IsValue client) (WorldValues client)) _ made
          (result_comes (IsValue client) (ObjectValues client) (WorldValues client) (λ class. Unit {0}) (values_last client) client
          (world_of machine) h.holds
          a.frame.stack.items frame.items what ref (λ constant. constant_is client ref) (λ class field named. tt)) e)
          (is_there NamedResult _ made
          (result_named client (world_of machine) h.names a.frame.stack.items what ref
          (name_free client free a.frame.class a.frame.method a.frame.at insn ref there)) e))

      heap_good : (what : Heap) → GoodSo (heap_stepped client machine a what ref)
      heap_good (heap.Call how) = calls_good client machine h a.number a.thread a.frame a.below how ref frame below
      heap_good heap.Throw =
          if_then IsGood _ (slice_get a.frame.stack.items 0)
          (λ v e. throws_top_good (world_of machine) v h (all_get (IsValue client) a.frame.stack.items 0 v frame.items e))
      heap_good heap.Enter = if_then IsGood _ (slice_get a.frame.stack.items 0) (λ v e. enters_good (world_of machine) v h)
      heap_good heap.Exit = if_then IsGood _ (slice_get a.frame.stack.items 0) (λ v e. leaves_good (world_of machine) v h)
      heap_good (heap.Return kind) = returns_good (world_of machine) kind h
      heap_good heap.Constant = operates_good heap.Constant
      heap_good (heap.ReadItem item) = operates_good (heap.ReadItem item)
      heap_good (heap.WriteItem item) = operates_good (heap.WriteItem item)
      heap_good (heap.Divide remainder) = operates_good (heap.Divide remainder)
      heap_good heap.ReadStatic = operates_good heap.ReadStatic
      heap_good heap.WriteStatic = operates_good heap.WriteStatic
      heap_good heap.ReadField = operates_good heap.ReadField
      heap_good heap.WriteField = operates_good heap.WriteField
      heap_good heap.New = operates_good heap.New
      heap_good (heap.NewArray kind) = operates_good (heap.NewArray kind)
      heap_good heap.NewArrayOf = operates_good heap.NewArrayOf
      heap_good heap.Length = operates_good heap.Length
      heap_good heap.Cast = operates_good heap.Cast
      heap_good heap.IsInstance = operates_good heap.IsInstance

      alone_values : IfThere (FrameValues client) (frame_stepped insn a.frame)
      alone_values =
          if_then (FrameValues client) _ (effect values_moved (shape_of insn) a.frame.locals a.frame.stack.items)
          (λ (m : Moved Value) e.
          let k = effect_keeps values_moved (IsValue client)
          (values_kept client) a.frame.locals a.frame.stack.items m frame.locals frame.items (shape_of insn)
          (names_numbers (shape_of insn)) e in
          fitted_values client a.frame (next_of values_seen insn a.frame.at a.frame.stack.items) m.0 m.1 frame k.0 k.1)

      insn_good : GoodSo (insn_stepped client machine a (insn, ref))
      insn_good =
          there_or GoodSo (λ what. heap_stepped client machine a what ref) (heap_in (shape_of insn)) _
          (acts_good (world_of machine) (frame_stepped insn a.frame) h alone_values) (λ what e. heap_good what)

  -- ---- threads

  module _ (machine : Machine) (h : WorldHolds client (world_of machine)) (number : ℕ) (thread : Thread) where
    frames_good : (frames : List Frame) → AllByRecursion (FrameValues client) frames
        → GoodSo (frames_stepped client machine number thread frames)
    frames_good [] all = if_none IsGood
    frames_good (frame ∷ below) all =
        let a : Acting = record { number = number; thread = thread; frame = frame; below = below } in
        if_then IsGood _ (insn_at client frame)
        (λ next e. let m = and_then_of (λ (of : Method). insn_in of frame.at) (method_at client frame.class frame.method) next e in
        insn_good a all.0 all.1 machine h next.0 next.1 (record { of = m.0; there = m.1; is = m.2 }))

    running_good : (choice : Choice) → AllByRecursion (FrameValues client) thread.frames
        → GoodSo (running_stepped client machine number thread choice)
    running_good choices.Plain all = frames_good thread.frames all
    running_good (choices.Answer answer) all = if_none IsGood

    call_good : (method : ℕ) (receiver : Option Value) (arguments : List Value) (choice : Choice)
        → AllByRecursion (FrameValues client) thread.frames
        → AreValues client (option_to_list receiver) → AreValues client arguments
        → GoodSo (call_stepped client (world_of machine) number thread method receiver arguments choice)
    call_good method receiver arguments choices.Plain all p q =
        if_either IsGood (is_on_null receiver) _ _
        (thrown_good client lists (world_of machine) h number thread method all null_pointer refl) (if_none IsGood)
    call_good method receiver arguments (choices.Answer answer) all p q =
        if_either IsGood (is_on_null receiver) _ _ (if_none IsGood)
        (answered_good client lists (world_of machine) h number thread method all receiver arguments p q answer)

    does_good : (doing : Doing) (choice : Choice) → AllByRecursion (FrameValues client) thread.frames → WaitsValues client doing
        → GoodSo (doing_stepped client machine number thread doing choice)
    does_good doings.Running choice all waits = running_good choice all
    does_good (doings.InCall method receiver arguments) choice all waits = call_good method receiver arguments choice all waits.0 waits.1
    does_good doings.Ended choice all waits = if_none IsGood

  -- ---- runs

  -- What is shared, and each thread, hold such values.
  pub record Holds (machine : Machine) (events : List Event) : Type 0 where
    pub world : WorldHolds client (world_of machine)
    pub threads : AllByRecursion (ThreadValues client) machine.threads

  changed_good : (machine : Machine) (step : Step) → WorldHolds client (world_of machine)
      → AllByRecursion (ThreadValues client) machine.threads
      → GoodSo (changed client machine step)
  changed_good machine step h all =
      if_either IsGood (is_some machine.stopped) _ _ (if_none IsGood)
      (if_then IsGood _ (slice_get machine.threads step.thread)
      (λ thread e. let t : ThreadValues client thread = all_get (ThreadValues client) machine.threads step.thread thread all e in
      does_good machine h step.thread thread thread.doing step.choice t.frames t.waits))

  change_keeps : EachChangeKeeps client Holds
  change_keeps machine events step change was e =
      let good = is_there IsGood (changed client machine step) change (changed_good machine step was.world was.threads) e in
      record {
        world = record { holds = record { heap = good.world.holds.heap; statics = good.world.holds.statics }; names = good.world.names };
        threads = threads_keep (ThreadValues client) step.thread machine change was.threads good.thread good.begins;
      }

  pub always : Holds (start_of client) [] → (steps : List Step) → Holds (exec client steps) (trace client steps)
  always first steps = holds_always client Holds first change_keeps steps
