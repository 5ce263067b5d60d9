-- Whatever the steps are, each event is in range.
use Rattle.std.proofs.Common.{ℕ, List, [], ◌∷◌, drop, Option, Some, None, Result, Ok, Err}
use Rattle.std.specs.Prelude.{is_some, slice_get}
use Rattle.std.specs.List.{AllByRecursion}
use Rattle.std.specs.Option.{option_to_list}
use Rattle.api_listing.specs.declared.events.Event.{Event}
use Rattle.insn_codec.specs.declared.insn.Insn.{Insn}
use Rattle.insn_codec.specs.declared.shape.Heap.{Heap}
use Rattle.insn_codec.specs.declared.shape.Heap.TheVariants as heap
use Rattle.insn_codec.specs.declared.shape.ValueKind.{ValueKind}
use Rattle.insn_codec.specs.Control.{next_of}
use Rattle.insn_codec.specs.Effect.{Moved, effect}
use Rattle.insn_codec.specs.Shapes.{shape_of}
use Rattle.bytecode_model.specs.declared.program.Method.{Method}
use Rattle.bytecode_model.specs.declared.program.Program.{Program}
use Rattle.bytecode_model.specs.declared.program.Target.{Target}
use Rattle.bytecode_model.specs.SearchOrder.{Name}
use Rattle.guest_heap.specs.declared.frame.Frame.{Frame}
use Rattle.guest_heap.specs.declared.object.Monitor.{Monitor}
use Rattle.guest_heap.specs.declared.thread.Doing.{Doing}
use Rattle.guest_heap.specs.declared.thread.Doing.TheVariants as doings
use Rattle.guest_heap.specs.declared.thread.Thread.{Thread}
use Rattle.guest_heap.specs.declared.value.Value.{Value}
use Rattle.guest_model.specs.declared.machine.Choice.{Choice}
use Rattle.guest_model.specs.declared.machine.Choice.TheVariants as choices
use Rattle.guest_model.specs.declared.machine.Machine.{Machine}
use Rattle.guest_heap.specs.declared.value.Value.TheVariants as values
use Rattle.guest_model.specs.declared.machine.Step.{Step}
use Rattle.guest_model.specs.Monitors.{entered, left}
use Rattle.guest_model.specs.Places.{insn_at, insn_in, method_at}
use Rattle.guest_frames.specs.Stepping.{after, frame_stepped}
use Rattle.guest_model.specs.ClosedPlaces.{HasInsns, IsAt}
use Rattle.guest_model.specs.Parts.{bad_monitor, constant_value, null_pointer, result_of}
use Rattle.guest_frames.specs.Values.{fits, is_null, values_moved, values_seen}
use Rattle.guest_model.proofs.Effects.{effect_keeps}
use Rattle.guest_model.proofs.Numbers.{insn_names_words}
use Rattle.guest_model.proofs.Options.{
  and_then_of,
  IfThere,
  if_none,
  if_some,
  if_either,
  if_then,
  if_mapped,
  is_there,
  there_or,
  all_get,
  all_append,
  all_drop,
}
use Rattle.guest_model.specs.Changes.{Change, World, with_monitors, world_of}
use Rattle.guest_model.specs.Kinds.{class_of_value}
use Rattle.guest_model.specs.Numbers.{IsInRange, KeepsWords, SeesInRange}
use Rattle.guest_model.specs.Runs.{exec, start_of, trace}
use Rattle.guest_model.specs.Stepping.{
  Acting,
  acts_on,
  acts_throwing,
  call_stepped,
  changed,
  comes_to,
  doing_stepped,
  enters,
  frames_stepped,
  heap_in,
  heap_stepped,
  insn_stepped,
  is_on_null,
  leaves,
  left_with,
  returns,
  running_stepped,
  throws_top,
  operates,
}
use Rattle.guest_model.specs.HeapOperations.{heap_result}
use Rattle.guest_model.proofs.Always.{EachChangeKeeps, holds_always}
use Rattle.guest_model.proofs.Answers.{answered_good, null_good}
use Rattle.guest_model.proofs.HeapResults.{Comes, result_comes}
use Rattle.guest_model.proofs.KeptWords.{words_last}
use Rattle.guest_model.proofs.Passing.{LiteralsAreShort, calls_good}
use Rattle.guest_model.proofs.Staying.{threads_keep}
use Rattle.guest_model.proofs.Words.{
  AreWords,
  FrameWords,
  Good,
  GoodIf,
  IsWord,
  ObjectWords,
  ThreadWords,
  WaitsWords,
  WorldWords,
  after_words,
  fitted_words,
  held_words,
  returned_good,
  throws_good,
  throws_new_good,
  went_on,
  words_kept,
}

-- what an instruction of the program pushes that it names
abbrev pub NamesWords : Program → Type 0
NamesWords program =
    (class method at : ℕ) (insn : Insn) (ref : Target) → IsAt program class method at insn ref → IfThere IsWord (constant_value program ref)

-- a result is among the operands
abbrev ResultWords : Option Value → Type 0
ResultWords result = AreWords (option_to_list result)

result_words : (kind : Option ValueKind) (items : List Value) → AreWords items → IfThere ResultWords (result_of kind items)
result_words None items all = if_some ResultWords None tt
result_words (Some kind) items all =
    if_then ResultWords _ (slice_get items 0)
    (λ v e. if_either ResultWords (fits kind v) _ _ (if_some ResultWords (Some v) (all_get IsWord items 0 v all e, tt)) (if_none ResultWords))

module _ (program : Program) (insns : HasInsns program) (names : NamesWords program) (literals : LiteralsAreShort program) where
  abbrev IsGood : Change → Type 0
  IsGood change = Good program change

  -- ---- instructions

  module _ (a : Acting) (frame : FrameWords a.frame) (below : AllByRecursion FrameWords a.below) where
    throws_here : (world : World) (class : Name) → WorldWords world → GoodIf program (Some (acts_throwing program world a class))
    throws_here world class words =
        if_some IsGood _ (throws_new_good program world a.number a.thread (a.frame ∷ a.below) class None words (frame, below) tt)

    acts_good : (world : World) (f : Option Frame) → WorldWords world → IfThere FrameWords f → GoodIf program (acts_on world a f)
    acts_good world f words on = went_on program world a.thread f a.below words on below

    goes_after : (world : World) (items : List Value) → WorldWords world → AreWords items → GoodIf program (acts_on world a (after a.frame items))
    goes_after world items words all = acts_good world (after a.frame items) words (after_words a.frame items frame all)

    -- with one operand less
    goes_less : (world : World) → WorldWords world → GoodIf program (acts_on world a (after a.frame (drop 1 a.frame.stack.items)))
    goes_less world words = goes_after world (drop 1 a.frame.stack.items) words (all_drop IsWord 1 a.frame.stack.items frame.1)

    comes_good : (world : World) (made : Result (World × List Value) Name) → WorldWords world → Comes IsWord WorldWords made
        → GoodIf program (comes_to program world a made)
    comes_good world (Ok made) words comes = goes_after made.0 made.1 comes.0 comes.1
    comes_good world (Err class) words comes = throws_here world class words

    enters_good : (world : World) (on : Value) → WorldWords world → GoodIf program (enters program world a on)
    enters_good world on words =
        if_either IsGood (is_null on) _ _ (throws_here world null_pointer words)
        (if_then IsGood _ (entered world.monitors a.number on)
        (λ held e. goes_less (with_monitors world held) (held_words world held words)))

    left_good : (world : World) (held : Option (List Monitor)) → WorldWords world → GoodIf program (left_with program world a held)
    left_good world None words = throws_here world bad_monitor words
    left_good world (Some held) words = goes_less (with_monitors world held) (held_words world held words)

    leaves_good : (world : World) (on : Value) → WorldWords world → GoodIf program (leaves program world a on)
    leaves_good world on words =
        if_either IsGood (is_null on) _ _ (throws_here world null_pointer words)
        (left_good world (left world.monitors a.number on) words)

    throws_top_good : (world : World) (v : Value) → WorldWords world → IsWord v → GoodIf program (throws_top program world a v)
    throws_top_good world v words word =
        if_either IsGood (is_null v) _ _ (throws_here world null_pointer words)
        (if_mapped IsGood _ (class_of_value world.heap v)
        (λ class e. throws_good program world a.number a.thread (a.frame ∷ a.below) v class None words word (frame, below) tt))

    returns_good : (world : World) (kind : Option ValueKind) → WorldWords world → GoodIf program (returns program world a kind)
    returns_good world kind words =
        if_then IsGood _ (result_of kind a.frame.stack.items)
        (λ result e. returned_good program _ a.thread a.below result None (held_words world _ words) below
        (is_there ResultWords _ result (result_words kind a.frame.stack.items frame.1) e) tt)

    module _ (machine : Machine) (words : WorldWords (world_of machine)) (insn : Insn) (ref : Target)
        (there : IsAt program a.frame.class a.frame.method a.frame.at insn ref) where
      operates_good : (what : Heap) → GoodIf program (operates program (world_of machine) a what ref)
      operates_good what =
          if_then IsGood _ (heap_result program (world_of machine) what ref a.frame.stack.items)
          (λ made e. comes_good (world_of machine) made words
          (is_there (Comes IsWord WorldWords) _ made
          (result_comes IsWord ObjectWords WorldWords (λ class. Unit {0}) words_last program (world_of machine) words a.frame.stack.items
          frame.1 what ref (λ constant. names a.frame.class a.frame.method a.frame.at insn ref there) (λ class field named. tt)) e))

      heap_good : (what : Heap) → GoodIf program (heap_stepped program machine a what ref)
      heap_good (heap.Call how) = calls_good program literals machine words a.number a.thread a.frame a.below how ref frame below
      heap_good heap.Throw =
          if_then IsGood _ (slice_get a.frame.stack.items 0)
          (λ v e. throws_top_good (world_of machine) v words (all_get IsWord a.frame.stack.items 0 v frame.1 e))
      heap_good heap.Enter = if_then IsGood _ (slice_get a.frame.stack.items 0) (λ v e. enters_good (world_of machine) v words)
      heap_good heap.Exit = if_then IsGood _ (slice_get a.frame.stack.items 0) (λ v e. leaves_good (world_of machine) v words)
      heap_good (heap.Return kind) = returns_good (world_of machine) kind words
      heap_good heap.Constant = operates_good heap.Constant
      heap_good (heap.ReadItem item) = operates_good (heap.ReadItem item)
      heap_good (heap.WriteItem item) = operates_good (heap.WriteItem item)
      heap_good (heap.Divide remainder) = operates_good (heap.Divide remainder)
      heap_good heap.ReadStatic = operates_good heap.ReadStatic
      heap_good heap.WriteStatic = operates_good heap.WriteStatic
      heap_good heap.ReadField = operates_good heap.ReadField
      heap_good heap.WriteField = operates_good heap.WriteField
      heap_good heap.New = operates_good heap.New
      heap_good (heap.NewArray kind) = operates_good (heap.NewArray kind)
      heap_good heap.NewArrayOf = operates_good heap.NewArrayOf
      heap_good heap.Length = operates_good heap.Length
      heap_good heap.Cast = operates_good heap.Cast
      heap_good heap.IsInstance = operates_good heap.IsInstance

      alone_words : IfThere FrameWords (frame_stepped insn a.frame)
      alone_words =
          if_then FrameWords _ (effect values_moved (shape_of insn) a.frame.locals a.frame.stack.items)
          (λ (m : Moved Value) e.
          let k = effect_keeps values_moved IsWord words_kept a.frame.locals a.frame.stack.items m frame.0 frame.1 (shape_of insn)
          (insn_names_words insn (insns a.frame.class a.frame.method a.frame.at insn ref there)) e in
          fitted_words a.frame (next_of values_seen insn a.frame.at a.frame.stack.items) m.0 m.1 k.0 k.1)

      insn_good : GoodIf program (insn_stepped program machine a (insn, ref))
      insn_good =
          there_or (GoodIf program) (λ what. heap_stepped program machine a what ref) (heap_in (shape_of insn)) _
          (acts_good (world_of machine) (frame_stepped insn a.frame) words alone_words) (λ what e. heap_good what)

  -- ---- threads

  module _ (machine : Machine) (words : WorldWords (world_of machine)) (number : ℕ) (thread : Thread) where
    frames_good : (frames : List Frame) → AllByRecursion FrameWords frames → GoodIf program (frames_stepped program machine number thread frames)
    frames_good [] all = if_none IsGood
    frames_good (frame ∷ below) all =
        let a : Acting = record { number = number; thread = thread; frame = frame; below = below } in
        if_then IsGood _ (insn_at program frame)
        (λ next e. let m = and_then_of (λ (of : Method). insn_in of frame.at) (method_at program frame.class frame.method) next e in
        insn_good a all.0 all.1 machine words next.0 next.1 (record { of = m.0; there = m.1; is = m.2 }))

    running_good : (choice : Choice) → AllByRecursion FrameWords thread.frames → GoodIf program (running_stepped program machine number thread choice)
    running_good choices.Plain all = frames_good thread.frames all
    running_good (choices.Answer answer) all = if_none IsGood

    call_good : (method : ℕ) (receiver : Option Value) (arguments : List Value) (choice : Choice) → AllByRecursion FrameWords thread.frames
        → AreWords (option_to_list receiver) → AreWords arguments
        → GoodIf program (call_stepped program (world_of machine) number thread method receiver arguments choice)
    call_good method receiver arguments choices.Plain all p q =
        if_either IsGood (is_on_null receiver) _ _ (null_good program (world_of machine) words number thread method all null_pointer)
        (if_none IsGood)
    call_good method receiver arguments (choices.Answer answer) all p q =
        if_either IsGood (is_on_null receiver) _ _ (if_none IsGood)
        (answered_good program (world_of machine) words number thread method all receiver arguments p q answer)

    does_good : (doing : Doing) (choice : Choice) → AllByRecursion FrameWords thread.frames → WaitsWords doing
        → GoodIf program (doing_stepped program machine number thread doing choice)
    does_good doings.Running choice all waits = running_good choice all
    does_good (doings.InCall method receiver arguments) choice all waits = call_good method receiver arguments choice all waits.0 waits.1
    does_good doings.Ended choice all waits = if_none IsGood

  -- ---- runs

  -- the numbers of the machine, and those that were seen
  pub record AllInRange (machine : Machine) (events : List Event) : Type 0 where
    pub world : WorldWords (world_of machine)
    pub threads : AllByRecursion ThreadWords machine.threads
    pub seen : AllByRecursion (IsInRange program) events

  changed_good : (machine : Machine) (step : Step) → WorldWords (world_of machine) → AllByRecursion ThreadWords machine.threads
      → GoodIf program (changed program machine step)
  changed_good machine step words all =
      if_either IsGood (is_some machine.stopped) _ _ (if_none IsGood)
      (if_then IsGood _ (slice_get machine.threads step.thread)
      (λ thread e. let h : ThreadWords thread = all_get ThreadWords machine.threads step.thread thread all e in
      does_good machine words step.thread thread thread.doing step.choice h.frames h.waits))

  change_keeps : EachChangeKeeps program AllInRange
  change_keeps machine events step change was e =
      let good = is_there IsGood (changed program machine step) change (changed_good machine step was.world was.threads) e in
      record {
        world = record { heap = good.world.heap; statics = good.world.statics };
        threads = threads_keep ThreadWords step.thread machine change was.threads good.thread good.begins;
        seen = all_append (IsInRange program) events (option_to_list change.event) was.seen good.seen;
      }

  pub always_in_range : AllInRange (start_of program) [] → (steps : List Step) → AllInRange (exec program steps) (trace program steps)
  always_in_range first steps = holds_always program AllInRange first change_keeps steps

  pub sees_in_range : AllInRange (start_of program) [] → SeesInRange program
  sees_in_range first steps = (always_in_range first steps).seen

  pub keeps_words : AllInRange (start_of program) [] → KeepsWords program
  keeps_words first steps number local thread frame n there top is =
      let of = all_get ThreadWords (exec program steps).threads number thread (always_in_range first steps).threads there in
      all_get IsWord frame.locals local (values.Int n) (all_get FrameWords thread.frames 0 frame of.frames top).0 is
