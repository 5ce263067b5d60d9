-- What the library sees of a run can be written, line by line.
use Rattle.std.proofs.Common.{ℕ, List, [], ◌∷◌, drop, Option, Some, None, Result, Ok, Err}
use Rattle.std.specs.Prelude.{is_some, slice_get}
use Rattle.std.specs.List.{AllByRecursion}
use Rattle.std.specs.Option.{option_to_list}
use Rattle.api_listing.specs.declared.events.Event.{Event}
use Rattle.insn_codec.specs.declared.insn.Insn.{Insn}
use Rattle.insn_codec.specs.declared.shape.Heap.{Heap}
use Rattle.insn_codec.specs.declared.shape.Heap.TheVariants as heap
use Rattle.insn_codec.specs.declared.shape.ValueKind.{ValueKind}
use Rattle.insn_codec.specs.Control.{next_of}
use Rattle.insn_codec.specs.Effect.{Moved, effect}
use Rattle.insn_codec.specs.Shapes.{shape_of}
use Rattle.bytecode_model.specs.declared.program.Method.{Method}
use Rattle.bytecode_model.specs.declared.program.Program.{Program}
use Rattle.bytecode_model.specs.declared.program.Target.{Target}
use Rattle.bytecode_model.specs.SearchOrder.{Name}
use Rattle.guest_heap.specs.declared.frame.Frame.{Frame}
use Rattle.guest_heap.specs.declared.object.Monitor.{Monitor}
use Rattle.guest_heap.specs.declared.thread.Doing.{Doing}
use Rattle.guest_heap.specs.declared.thread.Doing.TheVariants as doings
use Rattle.guest_heap.specs.declared.thread.Thread.{Thread}
use Rattle.guest_heap.specs.declared.value.Value.{Value}
use Rattle.guest_model.specs.declared.machine.Choice.{Choice}
use Rattle.guest_model.specs.declared.machine.Choice.TheVariants as choices
use Rattle.guest_model.specs.declared.machine.Machine.{Machine}
use Rattle.guest_heap.specs.declared.value.Value.TheVariants as values
use Rattle.guest_model.specs.declared.machine.Step.{Step}
use Rattle.guest_model.specs.Monitors.{entered, left}
use Rattle.guest_model.specs.Places.{insn_at, insn_in, method_at}
use Rattle.guest_frames.specs.Stepping.{after, frame_stepped}
use Rattle.guest_model.specs.ClosedPlaces.{IsAt}
use Rattle.guest_model.specs.Parts.{bad_monitor, constant_value, null_pointer, result_of}
use Rattle.guest_frames.specs.Values.{fits, is_null, values_moved, values_seen}
use Rattle.guest_model.proofs.Effects.{effect_keeps}
use Rattle.guest_model.proofs.Options.{and_then_of, IfThere, if_none, if_some, if_either, if_then, if_mapped, is_there, there_or, all_get, all_drop}
use Rattle.guest_model.specs.Changes.{Change, World, with_monitors, world_of}
use Rattle.guest_model.specs.Kinds.{class_of_value}
use Rattle.guest_model.specs.Stepping.{
  Acting,
  acts_on,
  acts_throwing,
  call_stepped,
  changed,
  comes_to,
  doing_stepped,
  enters,
  frames_stepped,
  heap_in,
  heap_stepped,
  insn_stepped,
  is_on_null,
  leaves,
  left_with,
  returns,
  running_stepped,
  throws_top,
  operates,
}
use Rattle.guest_model.specs.HeapOperations.{heap_result}
use Rattle.guest_model.proofs.HeapResults.{Comes, result_comes}
use Rattle.guest_model.proofs.Staying.{threads_keep}
use Rattle.std.proofs.Common.{ℤ, ◌≡◌, ◌<◌, Bool, true, false, cond, length, subst, ap, arith}
use Rattle.std.specs.Prelude.{pos, ◌||◌, IfSome}
use Rattle.std.proofs.lemmas.Option.{slice_get_within}
use Rattle.api_listing.specs.declared.descriptor.FieldType.{FieldType}
use Rattle.api_listing.specs.declared.events.ApiAnswer.{ApiAnswer}
use Rattle.api_listing.specs.declared.events.ApiAnswer.TheVariants as answers
use Rattle.api_listing.specs.declared.types.ListedMethod.{ListedMethod}
use Rattle.guest_heap.specs.declared.object.Object.{Object}
use Rattle.insn_codec.specs.declared.shape.Shape.{Shape}
use Rattle.insn_codec.specs.declared.shape.Shape.TheVariants as shapes
use Rattle.guest_model.specs.Answering.{answer_fits, is_no_object, is_of, of_class}
use Rattle.guest_model.specs.Calls.{types_of}
use Rattle.guest_model.specs.Changes.{applied}
use Rattle.guest_model.specs.Enabled.{MayStep, StepsAreEnabled}
use Rattle.guest_model.specs.Layout.{first_value, is_of_references}
use Rattle.guest_model.specs.HeapOperations.{kept, name_named, truth}
use Rattle.guest_model.proofs.HeapResults.{Lasts}
use Rattle.guest_model.proofs.Effects.{NamesOnly}
use Rattle.guest_model.proofs.Options.{all_set, map_of}
use Rattle.event_record.specs.declared.writing.Line.{Line}
use Rattle.event_record.specs.RunLines.{AnswersBytes, AreLinesFrom, BringsBytes}
use Rattle.event_record.proofs.ClassNames.{ClassesNamed, bad_monitor_named, holds_at, null_pointer_named}
use Rattle.event_record.proofs.NamedOperation.{Comes as ComesNamed, operation_named}
use Rattle.event_record.proofs.Shown.{AreShown, FewArguments, FrameShown, Good, GoodIf, HeapShown, IsShown, LiteralsAreBytes, ObjectShown, ThreadShown, WaitsShown, WorldShown, after_shown, fitted_shown, held_shown, returned_good, shown_kept, throws_good, throws_new_good, went_on}
use Rattle.event_record.proofs.ShownAnswers.{answered_good, null_good}
use Rattle.event_record.proofs.ShownCalls.{calls_good}
use Rattle.event_record.proofs.WrittenLines.{IsChoiceWritten, IsEventWritten, IsLineWritten, IsNamed, IsWritten}

-- what an instruction of the program pushes that it names
abbrev pub NamesShown : Program → Type 0
NamesShown program =
    (class method at : ℕ) (insn : Insn) (ref : Target) → IsAt program class method at insn ref → IfThere (IsShown program) (constant_value program ref)

-- what an instruction of the program names is a class or an array that is named by a word
abbrev pub NamesNamed : Program → Type 0
NamesNamed program =
    (class method at : ℕ) (insn : Insn) (ref : Target) → IsAt program class method at insn ref
    → (name : Name) → name_named ref ≡ Some name → IsNamed name

-- what is known of the program
pub record IsNamedProgram (program : Program) : Type 0 where
  pub shown : NamesShown program
  pub named : NamesNamed program
  pub literals : LiteralsAreBytes program
  pub few : FewArguments program
  pub classes : ClassesNamed program.listing.classes

-- the values in objects and static fields
pub record ValuesShown (program : Program) (world : World) : Type 0 where
  pub heap : HeapShown program world.heap
  pub statics : AllByRecursion (AreShown program) world.statics

-- ---- what instructions come to

any_number : (shape : Shape) → NamesOnly (λ (n : ℤ). Unit {0}) shape
any_number shapes.Nothing = tt
any_number (shapes.Push n) = tt
any_number shapes.PushNull = tt
any_number (shapes.Load kind slot) = tt
any_number (shapes.Store kind slot) = tt
any_number (shapes.Move form) = tt
any_number (shapes.Two op) = tt
any_number (shapes.One op) = tt
any_number (shapes.Increment slot by) = tt
any_number (shapes.Test relation to) = tt
any_number (shapes.Compare relation to) = tt
any_number (shapes.CompareReferences same to) = tt
any_number (shapes.TestNull null to) = tt
any_number (shapes.Goto to) = tt
any_number shapes.Switch = tt
any_number (shapes.Heap what) = tt

truth_shown : (program : Program) (b : Bool) → IsShown program (truth b)
truth_shown program true = tt
truth_shown program false = tt

first_or : (program : Program) (b : Bool) → IsShown program (cond b values.Null (values.Int (pos 0)))
first_or program true = tt
first_or program false = tt

pub first_shown : (program : Program) (desc : Name) → IsShown program (first_value desc)
first_shown program desc = first_or program (is_of_references desc)

kept_shown : (program : Program) (desc : Name) (v : Value) → IsShown program v → IsShown program (kept desc v)
kept_shown program desc (values.Int n) h = tt
kept_shown program desc values.Null h = tt
kept_shown program desc (values.Ref at) h = tt
kept_shown program desc (values.Class index) h = h
kept_shown program desc (values.Lit index) h = tt

values_last : (program : Program) → Lasts (IsShown program) (ObjectShown program) (ValuesShown program) (λ class. Unit {0})
values_last program = record {
  reference = λ at. tt;
  truths = truth_shown program;
  first = first_shown program;
  item = kept_shown program;
  quotients = λ remainder x y e h. tt;
  new = λ class list all. (all, tt);
  fields = λ class list on thread h. h.0;
  fields_set = λ class old list on thread all h. (all, h.1);
  items = λ desc list h. (h, tt);
  array = λ desc list all count. all;
  on_heap = λ world words. words.heap;
  heap_set = λ world heap all words. record { heap = all; statics = words.statics };
  statics = λ world class list may words e. all_get (AreShown program) world.statics class list words.statics e;
  statics_set = λ world class old list may e all words. record {
    heap = words.heap;
    statics = all_set (AreShown program) world.statics class list words.statics all;
  };
}

-- a result is among the operands
abbrev ResultShown : Program → Option Value → Type 0
ResultShown program result = AreShown program (option_to_list result)

result_shown : (program : Program) (kind : Option ValueKind) (items : List Value) → AreShown program items → IfThere (ResultShown program) (result_of kind items)
result_shown program None items all = if_some (ResultShown program) None tt
result_shown program (Some kind) items all =
    if_then (ResultShown program) _ (slice_get items 0)
    (λ v e. if_either (ResultShown program) (fits kind v) _ _ (if_some (ResultShown program) (Some v) (all_get (IsShown program) items 0 v all e, tt)) (if_none (ResultShown program)))

module _ (program : Program) (known : IsNamedProgram program) where
  abbrev IsGood : Change → Type 0
  IsGood change = Good program change

  -- ---- instructions

  module _ (a : Acting) (frame : FrameShown program a.frame) (below : AllByRecursion (FrameShown program) a.below) where
    throws_here : (world : World) (class : Name) → IsNamed class → WorldShown program world → GoodIf program (Some (acts_throwing program world a class))
    throws_here world class named words =
        if_some IsGood _ (throws_new_good program world a.number a.thread (a.frame ∷ a.below) class None named words (frame, below) tt)

    acts_good : (world : World) (f : Option Frame) → WorldShown program world → IfThere (FrameShown program) f → GoodIf program (acts_on world a f)
    acts_good world f words on = went_on program world a.thread f a.below words on below

    goes_after : (world : World) (items : List Value) → WorldShown program world → AreShown program items → GoodIf program (acts_on world a (after a.frame items))
    goes_after world items words all = acts_good world (after a.frame items) words (after_shown program a.frame items frame all)

    -- with one operand less
    goes_less : (world : World) → WorldShown program world → GoodIf program (acts_on world a (after a.frame (drop 1 a.frame.stack.items)))
    goes_less world words = goes_after world (drop 1 a.frame.stack.items) words (all_drop (IsShown program) 1 a.frame.stack.items frame.1)

    comes_good : (world : World) (made : Result (World × List Value) Name) → WorldShown program world
        → Comes (IsShown program) (ValuesShown program) made → ComesNamed program made → GoodIf program (comes_to program world a made)
    comes_good world (Ok made) words comes named =
        goes_after made.0 made.1 (record { heap = comes.0.heap; named = named; statics = comes.0.statics }) comes.1
    comes_good world (Err class) words comes named = throws_here world class named words

    enters_good : (world : World) (on : Value) → WorldShown program world → GoodIf program (enters program world a on)
    enters_good world on words =
        if_either IsGood (is_null on) _ _ (throws_here world null_pointer null_pointer_named words)
        (if_then IsGood _ (entered world.monitors a.number on)
        (λ held e. goes_less (with_monitors world held) (held_shown program world held words)))

    left_good : (world : World) (held : Option (List Monitor)) → WorldShown program world → GoodIf program (left_with program world a held)
    left_good world None words = throws_here world bad_monitor bad_monitor_named words
    left_good world (Some held) words = goes_less (with_monitors world held) (held_shown program world held words)

    leaves_good : (world : World) (on : Value) → WorldShown program world → GoodIf program (leaves program world a on)
    leaves_good world on words =
        if_either IsGood (is_null on) _ _ (throws_here world null_pointer null_pointer_named words)
        (left_good world (left world.monitors a.number on) words)

    throws_top_good : (world : World) (v : Value) → WorldShown program world → IsShown program v → GoodIf program (throws_top program world a v)
    throws_top_good world v words word =
        if_either IsGood (is_null v) _ _ (throws_here world null_pointer null_pointer_named words)
        (if_mapped IsGood _ (class_of_value world.heap v)
        (λ class e. throws_good program world a.number a.thread (a.frame ∷ a.below) v class None words word (frame, below) tt))

    returns_good : (world : World) (kind : Option ValueKind) → WorldShown program world → GoodIf program (returns program world a kind)
    returns_good world kind words =
        if_then IsGood _ (result_of kind a.frame.stack.items)
        (λ result e. returned_good program _ a.thread a.below result None (held_shown program world _ words) below
        (is_there (ResultShown program) _ result (result_shown program kind a.frame.stack.items frame.1) e) tt)

    module _ (machine : Machine) (words : WorldShown program (world_of machine)) (insn : Insn) (ref : Target)
        (there : IsAt program a.frame.class a.frame.method a.frame.at insn ref) where
      operates_good : (what : Heap) → GoodIf program (operates program (world_of machine) a what ref)
      operates_good what =
          if_then IsGood _ (heap_result program (world_of machine) what ref a.frame.stack.items)
          (λ made e. comes_good (world_of machine) made words
          (is_there (Comes (IsShown program) (ValuesShown program)) _ made
          (result_comes (IsShown program) (ObjectShown program) (ValuesShown program) (λ class. Unit {0}) (values_last program) program
          (world_of machine) (record { heap = words.heap; statics = words.statics }) a.frame.stack.items
          frame.1 what ref (λ constant. known.shown a.frame.class a.frame.method a.frame.at insn ref there) (λ class field named. tt)) e)
          (is_there (ComesNamed program) _ made
          (operation_named program (world_of machine) words.named a.frame.stack.items what ref
          (known.named a.frame.class a.frame.method a.frame.at insn ref there)) e))

      heap_good : (what : Heap) → GoodIf program (heap_stepped program machine a what ref)
      heap_good (heap.Call how) = calls_good program known.literals known.few machine words a.number a.thread a.frame a.below how ref frame below
      heap_good heap.Throw =
          if_then IsGood _ (slice_get a.frame.stack.items 0)
          (λ v e. throws_top_good (world_of machine) v words (all_get (IsShown program) a.frame.stack.items 0 v frame.1 e))
      heap_good heap.Enter = if_then IsGood _ (slice_get a.frame.stack.items 0) (λ v e. enters_good (world_of machine) v words)
      heap_good heap.Exit = if_then IsGood _ (slice_get a.frame.stack.items 0) (λ v e. leaves_good (world_of machine) v words)
      heap_good (heap.Return kind) = returns_good (world_of machine) kind words
      heap_good heap.Constant = operates_good heap.Constant
      heap_good (heap.ReadItem item) = operates_good (heap.ReadItem item)
      heap_good (heap.WriteItem item) = operates_good (heap.WriteItem item)
      heap_good (heap.Divide remainder) = operates_good (heap.Divide remainder)
      heap_good heap.ReadStatic = operates_good heap.ReadStatic
      heap_good heap.WriteStatic = operates_good heap.WriteStatic
      heap_good heap.ReadField = operates_good heap.ReadField
      heap_good heap.WriteField = operates_good heap.WriteField
      heap_good heap.New = operates_good heap.New
      heap_good (heap.NewArray kind) = operates_good (heap.NewArray kind)
      heap_good heap.NewArrayOf = operates_good heap.NewArrayOf
      heap_good heap.Length = operates_good heap.Length
      heap_good heap.Cast = operates_good heap.Cast
      heap_good heap.IsInstance = operates_good heap.IsInstance

      alone_shown : IfThere (FrameShown program) (frame_stepped insn a.frame)
      alone_shown =
          if_then (FrameShown program) _ (effect values_moved (shape_of insn) a.frame.locals a.frame.stack.items)
          (λ (m : Moved Value) e.
          let k = effect_keeps values_moved (IsShown program) (shown_kept program) a.frame.locals a.frame.stack.items m frame.0 frame.1 (shape_of insn)
          (any_number (shape_of insn)) e in
          fitted_shown program a.frame (next_of values_seen insn a.frame.at a.frame.stack.items) m.0 m.1 k.0 k.1)

      insn_good : GoodIf program (insn_stepped program machine a (insn, ref))
      insn_good =
          there_or (GoodIf program) (λ what. heap_stepped program machine a what ref) (heap_in (shape_of insn)) _
          (acts_good (world_of machine) (frame_stepped insn a.frame) words alone_shown) (λ what e. heap_good what)

  -- ---- threads

  module _ (machine : Machine) (words : WorldShown program (world_of machine)) (number : ℕ) (thread : Thread) where
    frames_good : (frames : List Frame) → AllByRecursion (FrameShown program) frames → GoodIf program (frames_stepped program machine number thread frames)
    frames_good [] all = if_none IsGood
    frames_good (frame ∷ below) all =
        let a : Acting = record { number = number; thread = thread; frame = frame; below = below } in
        if_then IsGood _ (insn_at program frame)
        (λ next e. let m = and_then_of (λ (of : Method). insn_in of frame.at) (method_at program frame.class frame.method) next e in
        insn_good a all.0 all.1 machine words next.0 next.1 (record { of = m.0; there = m.1; is = m.2 }))

    running_good : (choice : Choice) → AllByRecursion (FrameShown program) thread.frames → GoodIf program (running_stepped program machine number thread choice)
    running_good choices.Plain all = frames_good thread.frames all
    running_good (choices.Answer answer) all = if_none IsGood

    call_good : (method : ℕ) (receiver : Option Value) (arguments : List Value) (choice : Choice) → AllByRecursion (FrameShown program) thread.frames
        → AreShown program (option_to_list receiver) → AreShown program arguments → BringsBytes choice
        → GoodIf program (call_stepped program (world_of machine) number thread method receiver arguments choice)
    call_good method receiver arguments choices.Plain all p q brings =
        if_either IsGood (is_on_null receiver) _ _ (null_good program known.literals known.classes (world_of machine) words number thread method all null_pointer null_pointer_named)
        (if_none IsGood)
    call_good method receiver arguments (choices.Answer answer) all p q brings =
        if_either IsGood (is_on_null receiver) _ _ (if_none IsGood)
        (answered_good program known.literals known.classes (world_of machine) words number thread method all receiver arguments p q answer brings)

    does_good : (doing : Doing) (choice : Choice) → AllByRecursion (FrameShown program) thread.frames → WaitsShown program doing → BringsBytes choice
        → GoodIf program (doing_stepped program machine number thread doing choice)
    does_good doings.Running choice all waits brings = running_good choice all
    does_good (doings.InCall method receiver arguments) choice all waits brings = call_good method receiver arguments choice all waits.0 waits.1 brings
    does_good doings.Ended choice all waits brings = if_none IsGood

  -- ---- runs

  -- what a machine shows can be written
  pub record MachineShown (machine : Machine) : Type 0 where
    pub world : WorldShown program (world_of machine)
    pub threads : AllByRecursion (ThreadShown program) machine.threads

  changed_good : (machine : Machine) (step : Step) → MachineShown machine → BringsBytes step.choice → GoodIf program (changed program machine step)
  changed_good machine step shown brings =
      if_either IsGood (is_some machine.stopped) _ _ (if_none IsGood)
      (if_then IsGood _ (slice_get machine.threads step.thread)
      (λ thread e. let h : ThreadShown program thread = all_get (ThreadShown program) machine.threads step.thread thread shown.threads e in
      does_good machine shown.world step.thread thread thread.doing step.choice h.frames h.waits brings))

  machine_after : (machine : Machine) (number : ℕ) (change : Change) → MachineShown machine → Good program change
      → MachineShown (applied number machine change)
  machine_after machine number change shown good = record {
    world = record { heap = good.world.heap; named = good.world.named; statics = good.world.statics };
    threads = threads_keep (ThreadShown program) number machine change shown.threads good.thread good.begins;
  }

  -- an argument that an answer gives is one of fewer than 256
  place_written : (heap : List Object) (result : Option FieldType) (receiver : Option Value) (arguments : List Value) (answer : ApiAnswer)
      → length arguments < 256 → AnswersBytes answer → answer_fits program heap result receiver arguments answer ≡ true → IsWritten answer
  place_written heap result receiver arguments answers.Nothing less brings fit = tt
  place_written heap result receiver arguments (answers.Int n) less brings fit = tt
  place_written heap result receiver arguments answers.Null less brings fit = tt
  place_written heap result receiver arguments (answers.Text bytes) less brings fit = brings
  place_written heap result receiver arguments (answers.Fresh class) less brings fit = tt
  place_written heap result receiver arguments (answers.Arg place) less brings fit =
      let v = holds_at (λ (v : Value). of_class result (λ name. is_no_object v || is_of program heap v name)) (slice_get arguments place) fit in
      let within : place < length arguments = slice_get_within arguments place v.0 v.1 in
      omega (arith, within, less)
  place_written heap result receiver arguments answers.Receiver less brings fit = tt
  place_written heap result receiver arguments (answers.Throws class) less brings fit = tt

  choice_written : (machine : Machine) (number : ℕ) (frames : List Frame) (doing : Doing) (choice : Choice) → WaitsShown program doing
      → BringsBytes choice → MayStep program machine number frames doing choice → IsChoiceWritten choice
  choice_written machine number frames doings.Running choices.Plain waits brings may = tt
  choice_written machine number frames doings.Running (choices.Answer answer) waits brings may = absurd may
  choice_written machine number frames (doings.InCall method receiver arguments) choices.Plain waits brings may = tt
  choice_written machine number frames (doings.InCall method receiver arguments) (choices.Answer answer) waits brings may =
      let l = holds_at (λ (listed : ListedMethod). answer_fits program machine.heap (types_of listed.id.desc).result receiver arguments answer)
      (slice_get program.listing.methods method) may.1 in
      place_written machine.heap (types_of l.0.id.desc).result receiver arguments answer waits.2 brings l.2
  choice_written machine number frames doings.Ended choice waits brings may = absurd may

  event_written : (o : Option Event) → AllByRecursion IsEventWritten (option_to_list o) → IfSome o IsEventWritten
  event_written None all = tt
  event_written (Some event) all = all.0

  abbrev LineBrings : Line → Type 0
  LineBrings line = BringsBytes line.step.choice

  pub lines_written : StepsAreEnabled → (lines : List Line) (machine : Machine) → MachineShown machine → AreLinesFrom program machine lines
      → AllByRecursion LineBrings lines → AllByRecursion IsLineWritten lines
  lines_written enabled [] machine shown are brings = tt
  lines_written enabled (line ∷ lines) machine shown are brings =
      let m = map_of (λ (change : Change). (applied line.step.thread machine change, change.event)) (changed program machine line.step)
      (are.0, line.event) are.1 in
      let same : applied line.step.thread machine m.0 ≡ are.0 = ap (λ (made : Machine × Option Event). made.0) m.2 in
      let event : m.0.event ≡ line.event = ap (λ (made : Machine × Option Event). made.1) m.2 in
      let good : Good program m.0 = is_there IsGood (changed program machine line.step) m.0 (changed_good machine line.step shown brings.0) m.1 in
      let able = enabled program machine line.step m.0 m.1 in
      let thread = all_get (ThreadShown program) machine.threads line.step.thread able.thread shown.threads able.there in
      let next = subst MachineShown same (machine_after machine line.step.thread m.0 shown good) in (
        record {
          choice = choice_written machine line.step.thread able.thread.frames able.thread.doing line.step.choice thread.waits brings.0 able.may;
          event = event_written line.event (subst (λ (o : Option Event). AllByRecursion IsEventWritten (option_to_list o)) event good.seen);
        },
        lines_written enabled lines are.0 next are.2 brings.1,
      )
