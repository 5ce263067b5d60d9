-- Calls pass what can be written, and leave such values.
use Rattle.std.proofs.Common.{◌≡◌, ℕ, ℤ, ◌<◌, false, List, [], ◌∷◌, ◌++◌, length, Option, Some, None, refl, ap, arith}
use Rattle.std.specs.Prelude.{pos, slice_get, slice_set}
use Rattle.std.specs.List.{AllByRecursion}
use Rattle.std.specs.Option.{option_map_or, option_or, option_to_list}
use Rattle.api_listing.specs.declared.types.ListedMethod.{ListedMethod}
use Rattle.insn_codec.specs.declared.shape.How.{How}
use Rattle.insn_codec.specs.declared.shape.How.TheVariants as hows
use Rattle.bytecode_model.specs.declared.program.Method.{Method}
use Rattle.bytecode_model.specs.declared.program.Program.{Program}
use Rattle.bytecode_model.specs.declared.program.Target.{Target}
use Rattle.bytecode_model.specs.declared.program.Target.TheVariants as target
use Rattle.bytecode_model.specs.SearchOrder.{Name}
use Rattle.guest_heap.specs.declared.frame.Frame.{Frame}
use Rattle.guest_heap.specs.declared.object.Object.{Object}
use Rattle.guest_heap.specs.declared.object.Object.TheVariants as objects
use Rattle.guest_heap.specs.declared.thread.Thread.{Thread}
use Rattle.guest_heap.specs.declared.value.Value.{Value}
use Rattle.guest_heap.specs.declared.value.Value.TheVariants as values
use Rattle.guest_model.specs.declared.machine.Machine.{Machine}
use Rattle.guest_model.specs.Calls.{arity, taken}
use Rattle.guest_model.specs.Places.{method_at}
use Rattle.guest_model.specs.Parts.{null_pointer, running}
use Rattle.guest_frames.specs.Values.{is_null}
use Rattle.guest_model.proofs.Options.{map_of, IfThere, if_none, if_some, if_either, if_then, if_made, is_there, the_one, there_or, all_get, all_set, all_append, all_mapped}
use Rattle.guest_model.specs.declared.builtin.Builtin.{Builtin}
use Rattle.guest_model.specs.declared.builtin.Builtin.TheVariants as builtins
use Rattle.guest_model.specs.Builtins.{builtin_at, characters}
use Rattle.guest_model.specs.Calling.{
  Calling,
  aimed_at,
  aims,
  begun_thread,
  built_in,
  call_throws,
  calls,
  calls_given,
  calls_library,
  calls_named,
  desc_named,
  enters_on,
  exits,
  goes_past,
  has_ended,
  is_static_call,
  joined,
  joins,
  lacked,
  lacking,
  on_receiver,
  run_of,
  runs,
  runs_object,
  runs_target,
  second_start,
  started,
  started_as,
  starts,
  stopped_by,
  target_in,
  target_of,
  thread_of_value,
  waiting,
  with_changed,
}
use Rattle.guest_model.specs.Changes.{World, Change, ended_thread, enters_method, frame_of, with_heap, world_of}
use Rattle.guest_model.specs.Finding.{Given, client_run, is_run, method_run}
use Rattle.guest_model.specs.Kinds.{class_of_value, is_thread}
use Rattle.guest_model.specs.Seen.{string_of, value_shown}
use Rattle.event_record.proofs.ClassNames.{null_pointer_named, second_start_named}
use Rattle.event_record.proofs.Shown.{AreShown, FewArguments, FrameShown, Good, GoodIf, HeapShown, IsShown, LiteralsAreBytes, ObjectNamed, ObjectShown, TakesShown, ThreadShown, WorldShown, after_shown, ended_shown, ends_good, enters_good, frame_shown, heap_shown, shown_is_written, taken_shown, throws_new_good, went_on}
use Rattle.event_record.proofs.WrittenLines.{IsNamed, ShowsWords}

module _ (program : Program) where
  -- ---- objects that are changed

  changed_all : (P : Object → Type 0) (heap : List Object) (on : Value) (f : Object → Object) → ((o : Object) → P o → P (f o))
      → AllByRecursion P heap → AllByRecursion P (with_changed heap on f)
  changed_all P heap (values.Int n) f keeps all = all
  changed_all P heap values.Null f keeps all = all
  changed_all P heap (values.Ref at) f keeps all =
      there_or (AllByRecursion P) (λ (object : Object). slice_set heap at (f object)) (slice_get heap at) heap all
      (λ object e. all_set P heap at (f object) all (keeps object (all_get P heap at object all e)))
  changed_all P heap (values.Class index) f keeps all = all
  changed_all P heap (values.Lit index) f keeps all = all

  started_named : (number : ℕ) (o : Object) → ObjectNamed o → ObjectNamed (started_as number o)
  started_named number (objects.Plain class fields target thread) h = h
  started_named number (objects.Array desc items) h = h
  started_named number (objects.Text text) h = h

  aimed_named : (to : Value) (o : Object) → ObjectNamed o → ObjectNamed (aimed_at to o)
  aimed_named to (objects.Plain class fields target thread) h = h
  aimed_named to (objects.Array desc items) h = h
  aimed_named to (objects.Text text) h = h

  started_shown : (number : ℕ) (o : Object) → ObjectShown program o → ObjectShown program (started_as number o)
  started_shown number (objects.Plain class fields target thread) h = h
  started_shown number (objects.Array desc items) h = h
  started_shown number (objects.Text text) h = h

  aimed_shown : (to : Value) → IsShown program to → (o : Object) → ObjectShown program o → ObjectShown program (aimed_at to o)
  aimed_shown to word (objects.Plain class fields target thread) h = (h.0, word)
  aimed_shown to word (objects.Array desc items) h = h
  aimed_shown to word (objects.Text text) h = h

  target_is_word : (o : Object) → ObjectShown program o → IsShown program (target_in o)
  target_is_word (objects.Plain class fields target thread) h = h.1
  target_is_word (objects.Array desc items) h = tt
  target_is_word (objects.Text text) h = tt

  target_word : (heap : List Object) (on : Value) → HeapShown program heap → IsShown program (target_of heap on)
  target_word heap (values.Int n) all = tt
  target_word heap values.Null all = tt
  target_word heap (values.Ref at) all =
      there_or (IsShown program) target_in (slice_get heap at) values.Null tt (λ o e. target_is_word o (all_get (ObjectShown program) heap at o all e))
  target_word heap (values.Class index) all = tt
  target_word heap (values.Lit index) all = tt

  if_or : {A : Type 0} (P : A → Type 0) (o q : Option A) → IfThere P o → IfThere P q → IfThere P (option_or o q)
  if_or P None q h k = k
  if_or P (Some x) q h k = h

  -- ---- threads that begin

  -- what is to be run, and what it is run on
  abbrev RunShown : Given × Value → Type 0
  RunShown run = IsShown program run.1

  run_shown : (heap : List Object) (on : Value) → IsShown program on → IfThere RunShown (run_of program heap on)
  run_shown heap on word =
      if_then RunShown _ (class_of_value heap on)
      (λ class e. if_then RunShown _ (client_run program class) (λ to f. if_some RunShown (to, on) word))

  begun_shown : (run : Option (Given × Value)) → IfThere RunShown run → ThreadShown program (begun_thread program run)
  begun_shown None h = (ended_shown program)
  begun_shown (Some run) h =
      let begins : Method → Thread = λ method. running (frame_of program run.0 method (Some run.1) [] ∷ []) [] in
      there_or (ThreadShown program) begins (method_at program run.0.0 run.0.1) ended_thread (ended_shown program)
      (λ method e. record {
        frames = (frame_shown program run.0 method (Some run.1) [] (is_there RunShown (Some run) run h refl, tt) tt, tt);
        waits = tt;
      })

  module _ (literals : LiteralsAreBytes program) (few : FewArguments program) (machine : Machine) (words : WorldShown program (world_of machine)) (c : Calling) (n : ℕ)
      (frame : FrameShown program c.frame) (below : AllByRecursion (FrameShown program) c.below) (passed : TakesShown program n c.passed) where
    throws_there : (class : Name) → IsNamed class → Good program (call_throws program (world_of machine) c class)
    throws_there class named = throws_new_good program (world_of machine) c.number c.thread (c.frame ∷ c.below) class None named words (frame, below) tt

    past_good : (world : World) → WorldShown program world → (results : List Value) → AreShown program results → GoodIf program (goes_past world c results)
    past_good world shared results all =
        went_on program world c.thread _ c.below shared
        (after_shown program c.frame (results ++ c.passed.beneath) frame (all_append (IsShown program) results c.passed.beneath all passed.beneath)) below

    receiver_good : (f : Value → Option Change) → ((v : Value) → IsShown program v → GoodIf program (f v))
        → GoodIf program (on_receiver program (world_of machine) c f)
    receiver_good f each =
        if_then (Good program) _ c.passed.receiver
        (λ v e. if_either (Good program) (is_null v) _ _ (if_some (Good program) _ (throws_there null_pointer null_pointer_named))
        (each v (the_one (IsShown program) c.passed.receiver v passed.receiver e)))

    waiting_shown : AllByRecursion (FrameShown program) (waiting c)
    waiting_shown = ((frame.0, passed.beneath), below)

    method_good : (to : Given) (receiver : Option Value) (arguments : List Value) → AreShown program (option_to_list receiver) → AreShown program arguments
        → GoodIf program (enters_method program (world_of machine) c.number c.thread (waiting c) to receiver arguments)
    method_good to receiver arguments p q =
        enters_good program (world_of machine) c.number c.thread (waiting c) to receiver arguments words waiting_shown p q

    -- ---- threads

    started_good : (on : Value) → IsShown program on → (number : Option ℕ) → GoodIf program (started program machine c on number)
    started_good on word (Some number) = if_some (Good program) _ (throws_there second_start second_start_named)
    started_good on word None =
        let target = target_of machine.heap on in
        let run = option_or (run_of program machine.heap on) (run_of program machine.heap target) in
        let is_run =
        if_or RunShown (run_of program machine.heap on) (run_of program machine.heap target) (run_shown machine.heap on word)
        (run_shown machine.heap target (target_word machine.heap on words.heap)) in
        let started = started_as (length machine.threads) in
        let heap = changed_all (ObjectShown program) machine.heap on started (started_shown (length machine.threads)) words.heap in
        let named = changed_all ObjectNamed machine.heap on started (started_named (length machine.threads)) words.named in
        if_made (Good program) (Good program) _ _
        (λ change good. record { world = good.world; thread = good.thread; begins = (begun_shown run is_run, tt); seen = good.seen })
        (past_good (with_heap (world_of machine) (with_changed machine.heap on started))
        (heap_shown program (world_of machine) (with_changed machine.heap on started) heap named words) [] tt)

    starts_good : (on : Value) → IsShown program on → GoodIf program (starts program machine c on)
    starts_good on word = if_then (Good program) _ (thread_of_value machine.heap on) (λ number e. started_good on word number)

    joined_good : (number : Option ℕ) → GoodIf program (joined machine c number)
    joined_good None = past_good (world_of machine) words [] tt
    joined_good (Some number) =
        if_either (Good program) (has_ended machine number) _ _ (past_good (world_of machine) words [] tt) (if_none (Good program))

    joins_good : (on : Value) → GoodIf program (joins machine c on)
    joins_good on = if_then (Good program) _ (thread_of_value machine.heap on) (λ number e. joined_good number)

    runs_good : (run : Option (Given × Value)) → IfThere RunShown run → GoodIf program (runs program (world_of machine) c run)
    runs_good None h = past_good (world_of machine) words [] tt
    runs_good (Some run) h = method_good run.0 (Some run.1) [] (is_there RunShown (Some run) run h refl, tt) tt

    runs_target_good : (on : Value) → GoodIf program (runs_target program (world_of machine) c on)
    runs_target_good on =
        let target = target_of machine.heap on in
        if_either (Good program) (option_map_or (is_thread program) (class_of_value machine.heap on) false) _ _
        (runs_good (run_of program machine.heap target) (run_shown machine.heap target (target_word machine.heap on words.heap)))
        (past_good (world_of machine) words [] tt)

    own_run_good : (on : Value) → IsShown program on
        → GoodIf program
        (option_map_or (λ run. runs program (world_of machine) c (Some run)) (run_of program machine.heap on)
        (runs_target program (world_of machine) c on))
    own_run_good on word =
        there_or (GoodIf program) _ (run_of program machine.heap on) _ (runs_target_good on)
        (λ run e. runs_good (Some run) (if_some RunShown run (is_there RunShown _ run (run_shown machine.heap on word) e)))

    runs_object_good : (how : How) (on : Value) → IsShown program on → GoodIf program (runs_object program (world_of machine) c how on)
    runs_object_good hows.Special on word = runs_target_good on
    runs_object_good hows.Virtual on word = own_run_good on word
    runs_object_good hows.Interface on word = own_run_good on word
    runs_object_good hows.Static on word = if_none (Good program)

    -- ---- built-in methods

    stopped_good : (m : ℤ) → GoodIf program (stopped_by (world_of machine) c m)
    stopped_good m =
        if_made (Good program) (Good program) _ _
        (λ change good. record { world = good.world; thread = good.thread; begins = tt; seen = tt })
        (past_good (world_of machine) words [] tt)

    exits_good : GoodIf program (exits (world_of machine) c)
    exits_good = if_then (Good program) _ _ (λ m e. stopped_good m)

    aims_good : (on : Value) → GoodIf program (aims (world_of machine) c on)
    aims_good on =
        if_then (Good program) _ (slice_get c.passed.arguments 0)
        (λ to e. let word = all_get (IsShown program) c.passed.arguments 0 to passed.arguments e in
        past_good (with_heap (world_of machine) (with_changed machine.heap on (aimed_at to)))
        (heap_shown program (world_of machine) (with_changed machine.heap on (aimed_at to))
        (changed_all (ObjectShown program) machine.heap on (aimed_at to) (aimed_shown to word) words.heap)
        (changed_all ObjectNamed machine.heap on (aimed_at to) (aimed_named to) words.named) words) [] tt)

    length_good : (on : Value)
        → GoodIf program (goes_past (world_of machine) c (values.Int (pos (characters (string_of program machine.heap on))) ∷ []))
    length_good on =
        past_good (world_of machine) words (values.Int (pos (characters (string_of program machine.heap on))) ∷ []) (tt, tt)

    built_in_good : (how : How) (builtin : Builtin) → GoodIf program (built_in program machine c how builtin)
    built_in_good how builtins.Make = past_good (world_of machine) words [] tt
    built_in_good how builtins.MakeOn = receiver_good _ (λ on word. aims_good on)
    built_in_good how builtins.Start = receiver_good _ starts_good
    built_in_good how builtins.Run = receiver_good _ (runs_object_good how)
    built_in_good how builtins.Join = receiver_good _ (λ on word. joins_good on)
    built_in_good how builtins.Exit = exits_good
    built_in_good how builtins.Length = receiver_good _ (λ on word. length_good on)

    -- ---- given methods

    lacking_good : (method : Method) (on : Value) → GoodIf program (lacking program (world_of machine) c method on)
    lacking_good method on =
        if_either (Good program) (is_run method) _ _ (runs_target_good on)
        (if_some (Good program) _ (ends_good program (world_of machine) c.number (c.frame ∷ c.below) words))

    lacked_good : (how : How) (method : Method) (on : Value) → GoodIf program (lacked program (world_of machine) c how method on)
    lacked_good hows.Virtual method on = lacking_good method on
    lacked_good hows.Interface method on = lacking_good method on
    lacked_good hows.Special method on =
        if_some (Good program) _ (ends_good program (world_of machine) c.number (c.frame ∷ c.below) words)
    lacked_good hows.Static method on = if_none (Good program)

    enters_on_good : (how : How) (to : Given) (method : Method) (on : Value)
        → GoodIf program (enters_on program (world_of machine) c how to method on)
    enters_on_good how to method on =
        if_then (Good program) _ (class_of_value machine.heap on)
        (λ class e. there_or (GoodIf program) _ (method_run program c.frame.class how to method class) _ (lacked_good how method on)
        (λ found f. method_good found c.passed.receiver c.passed.arguments passed.receiver passed.arguments))

    given_good : (how : How) (to : Given) (method : Method) → GoodIf program (calls_given program (world_of machine) c how to method)
    given_good hows.Static to method = method_good to None c.passed.arguments tt passed.arguments
    given_good hows.Special to method = receiver_good _ (λ on word. enters_on_good hows.Special to method on)
    given_good hows.Virtual to method = receiver_good _ (λ on word. enters_on_good hows.Virtual to method on)
    given_good hows.Interface to method = receiver_good _ (λ on word. enters_on_good hows.Interface to method on)

    -- ---- methods of the library

    library_good : (index : ℕ) (listed : ListedMethod) → slice_get program.listing.methods index ≡ Some listed → arity listed.id.desc ≡ n
        → Good program (calls_library program (world_of machine) c index)
    library_good index listed there takes =
        let less : arity listed.id.desc < 256 = few index listed there in
        let count = passed.count in record {
          world = words;
          thread = record { frames = waiting_shown; waits = (passed.receiver, passed.arguments, omega (arith, less, count, takes)) };
          begins = tt;
          seen = (
            all_mapped (IsShown program) ShowsWords (value_shown program machine.heap) c.passed.arguments
                (shown_is_written program literals machine.heap words.named) passed.arguments,
            tt,
          );
        }

  -- ---- calls by what they name

  module _ (literals : LiteralsAreBytes program) (few : FewArguments program) (machine : Machine) (words : WorldShown program (world_of machine)) where
    named_good : (c : Calling) (how : How) (ref : Target) (desc : Name) → desc_named program ref ≡ Some desc → FrameShown program c.frame
        → AllByRecursion (FrameShown program) c.below → TakesShown program (arity desc) c.passed → GoodIf program (calls_named program machine c how ref)
    named_good c how (target.ApiMethod index) desc e frame below passed =
        let l = map_of (λ (m : ListedMethod). m.id.desc) (slice_get program.listing.methods index) desc e in
        if_some (Good program) _
        (library_good literals few machine words c (arity desc) frame below passed index l.0 l.1 (ap arity l.2))
    named_good c how (target.Builtin index) desc e frame below passed =
        if_then (Good program) _ (builtin_at index)
        (λ builtin f. built_in_good literals few machine words c (arity desc) frame below passed how builtin)
    named_good c how (target.Method class method) desc e frame below passed =
        if_then (Good program) _ (method_at program class method)
        (λ m f. given_good literals few machine words c (arity desc) frame below passed how (class, method) m)
    named_good c how target.None desc e frame below passed = if_none (Good program)
    named_good c how (target.Field class field) desc e frame below passed = if_none (Good program)
    named_good c how (target.ApiField index) desc e frame below passed = if_none (Good program)
    named_good c how (target.ClassName name) desc e frame below passed = if_none (Good program)
    named_good c how (target.Number m) desc e frame below passed = if_none (Good program)
    named_good c how (target.Literal index) desc e frame below passed = if_none (Good program)

    pub calls_good : (number : ℕ) (thread : Thread) (frame : Frame) (below : List Frame) (how : How) (ref : Target) → FrameShown program frame
        → AllByRecursion (FrameShown program) below → GoodIf program (calls program machine number thread frame below how ref)
    calls_good number thread frame below how ref on all =
        if_then (Good program) _ (desc_named program ref)
        (λ desc e. if_then (Good program) _ (taken (is_static_call how) (arity desc) frame.stack.items)
        (λ passed f. named_good (record { number = number; thread = thread; frame = frame; below = below; passed = passed }) how ref desc e on all
        (is_there ((TakesShown program) (arity desc)) _ passed (taken_shown program (is_static_call how) (arity desc) frame.stack.items on.1) f)))
