-- Calls of a client pass no object of conspec/State, and leave none.
use Rattle.std.proofs.Common.{ℕ, ℤ, false, List, [], ◌∷◌, ◌++◌, length, Option, Some, None, refl}
use Rattle.std.specs.Prelude.{pos, slice_get, slice_set}
use Rattle.std.specs.List.{AllByRecursion}
use Rattle.std.specs.Option.{option_map_or, option_or, option_to_list}
use Rattle.insn_codec.specs.declared.shape.How.{How}
use Rattle.insn_codec.specs.declared.shape.How.TheVariants as hows
use Rattle.bytecode_model.specs.declared.program.Method.{Method}
use Rattle.bytecode_model.specs.declared.program.Program.{Program}
use Rattle.bytecode_model.specs.declared.program.Target.{Target}
use Rattle.bytecode_model.specs.declared.program.Target.TheVariants as target
use Rattle.bytecode_model.specs.SearchOrder.{Name}
use Rattle.guest_heap.specs.declared.frame.Frame.{Frame}
use Rattle.guest_heap.specs.declared.object.Object.{Object}
use Rattle.guest_heap.specs.declared.object.Object.TheVariants as objects
use Rattle.guest_heap.specs.declared.thread.Thread.{Thread}
use Rattle.guest_heap.specs.declared.value.Value.{Value}
use Rattle.guest_heap.specs.declared.value.Value.TheVariants as values
use Rattle.guest_frames.specs.Values.{is_null}
use Rattle.guest_model.specs.declared.builtin.Builtin.{Builtin}
use Rattle.guest_model.specs.declared.builtin.Builtin.TheVariants as builtins
use Rattle.guest_model.specs.declared.machine.Machine.{Machine}
use Rattle.guest_model.specs.Builtins.{builtin_at, characters}
use Rattle.guest_model.specs.Calling.{
  Calling,
  aimed_at,
  aims,
  begun_thread,
  built_in,
  call_throws,
  calls,
  calls_given,
  calls_library,
  calls_named,
  desc_named,
  enters_on,
  exits,
  goes_past,
  has_ended,
  is_static_call,
  joined,
  joins,
  lacked,
  lacking,
  on_receiver,
  run_of,
  runs,
  runs_object,
  runs_target,
  second_start,
  started,
  started_as,
  starts,
  stopped_by,
  target_in,
  target_of,
  thread_of_value,
  waiting,
  with_changed,
}
use Rattle.guest_model.specs.Calls.{arity, taken}
use Rattle.guest_model.specs.Changes.{Change, World, ended_thread, enters_method, frame_of, with_heap, world_of}
use Rattle.guest_model.specs.Finding.{Given, client_run, is_run, method_run}
use Rattle.guest_model.specs.Kinds.{class_of_value, is_thread}
use Rattle.guest_model.specs.Parts.{null_pointer, running}
use Rattle.guest_model.specs.Places.{method_at}
use Rattle.guest_model.specs.Seen.{string_of}
use Rattle.guest_model.proofs.Options.{
  IfThere,
  all_append,
  all_get,
  all_set,
  if_either,
  if_made,
  if_none,
  if_some,
  if_then,
  is_there,
  the_one,
  there_or,
}
use Rattle.guest_erasing.specs.Laid.{IsClientName}
use Rattle.block_runs.proofs.Clients.Values.{
  AreValues,
  FrameValues,
  Good,
  GoodIf,
  IsNamed,
  IsValue,
  ObjectValues,
  TakesValues,
  ThreadValues,
  WorldHolds,
  after_values,
  ended_values,
  ends_good,
  enters_good,
  frame_values,
  heap_holds,
  taken_values,
  throws_new_good,
  went_on,
}

if_or : {A : Type 0} (P : A → Type 0) (o q : Option A) → IfThere P o → IfThere P q → IfThere P (option_or o q)
if_or P None q h k = k
if_or P (Some x) q h k = h

module _ (client : Program) where
  -- ---- objects that are changed

  changed_all : (P : Object → Type 0) (heap : List Object) (on : Value) (f : Object → Object) → ((o : Object) → P o → P (f o))
      → AllByRecursion P heap
      → AllByRecursion P (with_changed heap on f)
  changed_all P heap (values.Int n) f keeps all = all
  changed_all P heap values.Null f keeps all = all
  changed_all P heap (values.Ref at) f keeps all =
      there_or (AllByRecursion P) (λ (object : Object). slice_set heap at (f object)) (slice_get heap at) heap all
      (λ object e. all_set P heap at (f object) all (keeps object (all_get P heap at object all e)))
  changed_all P heap (values.Class index) f keeps all = all
  changed_all P heap (values.Lit index) f keeps all = all

  changed_holds : (world : World) (on : Value) (f : Object → Object) → ((o : Object) → ObjectValues client o → ObjectValues client (f o))
      → ((o : Object) → IsNamed client o → IsNamed client (f o)) → WorldHolds client world
      → WorldHolds client (with_heap world (with_changed world.heap on f))
  changed_holds world on f keeps names h =
      heap_holds client world (with_changed world.heap on f) (changed_all (ObjectValues client) world.heap on f keeps h.holds.heap)
      (changed_all (IsNamed client) world.heap on f names h.names) h

  started_values : (number : ℕ) (o : Object) → ObjectValues client o → ObjectValues client (started_as number o)
  started_values number (objects.Plain class fields target thread) h = h
  started_values number (objects.Array desc items) h = h
  started_values number (objects.Text text) h = h

  started_named : (number : ℕ) (o : Object) → IsNamed client o → IsNamed client (started_as number o)
  started_named number (objects.Plain class fields target thread) h = h
  started_named number (objects.Array desc items) h = h
  started_named number (objects.Text text) h = h

  aimed_values : (to : Value) → IsValue client to → (o : Object) → ObjectValues client o → ObjectValues client (aimed_at to o)
  aimed_values to is (objects.Plain class fields target thread) h = (h.0, is)
  aimed_values to is (objects.Array desc items) h = h
  aimed_values to is (objects.Text text) h = h

  aimed_named : (to : Value) (o : Object) → IsNamed client o → IsNamed client (aimed_at to o)
  aimed_named to (objects.Plain class fields target thread) h = h
  aimed_named to (objects.Array desc items) h = h
  aimed_named to (objects.Text text) h = h

  pub target_is : (o : Object) → ObjectValues client o → IsValue client (target_in o)
  target_is (objects.Plain class fields target thread) h = h.1
  target_is (objects.Array desc items) h = tt
  target_is (objects.Text text) h = tt

  target_value : (heap : List Object) (on : Value) → AllByRecursion (ObjectValues client) heap → IsValue client (target_of heap on)
  target_value heap (values.Int n) all = tt
  target_value heap values.Null all = tt
  target_value heap (values.Ref at) all =
      there_or (IsValue client) target_in (slice_get heap at) values.Null tt
      (λ o e. target_is o (all_get (ObjectValues client) heap at o all e))
  target_value heap (values.Class index) all = tt
  target_value heap (values.Lit index) all = tt

  -- what is to be run, and what it is run on
  abbrev RunValues : Given × Value → Type 0
  RunValues run = IsValue client run.1

  run_values : (heap : List Object) (on : Value) → IsValue client on → IfThere RunValues (run_of client heap on)
  run_values heap on is =
      if_then RunValues _ (class_of_value heap on)
      (λ class e. if_then RunValues _ (client_run client class) (λ to f. if_some RunValues (to, on) is))

  abbrev GoodSo : Option Change → Type 0
  GoodSo change = GoodIf client change

  abbrev IsGood : Change → Type 0
  IsGood change = Good client change

  begun_values : (run : Option (Given × Value)) → IfThere RunValues run → ThreadValues client (begun_thread client run)
  begun_values None h = ended_values client
  begun_values (Some run) h =
      let begins : Method → Thread = λ method. running (frame_of client run.0 method (Some run.1) [] ∷ []) [] in
      there_or (ThreadValues client) begins (method_at client run.0.0 run.0.1) ended_thread (ended_values client)
      (λ method e. record {
        frames = (frame_values client run.0 method e (Some run.1) [] (is_there RunValues (Some run) run h refl, tt) tt, tt);
        waits = tt;
      })

  module _ (machine : Machine) (h : WorldHolds client (world_of machine)) (c : Calling)
      (frame : FrameValues client c.frame) (below : AllByRecursion (FrameValues client) c.below)
      (passed : TakesValues client c.passed) where
    throws_there : (class : Name) → IsClientName class → IsGood (call_throws client (world_of machine) c class)
    throws_there class name =
        throws_new_good client (world_of machine) c.number c.thread (c.frame ∷ c.below) class None name h (frame, below)

    past_good : (world : World) → WorldHolds client world → (results : List Value) → AreValues client results
        → GoodSo (goes_past world c results)
    past_good world shared results all =
        went_on client world c.thread _ c.below shared
        (after_values client c.frame (results ++ c.passed.beneath) frame
        (all_append (IsValue client) results c.passed.beneath all passed.beneath)) below

    receiver_good : (f : Value → Option Change) → ((v : Value) → IsValue client v → GoodSo (f v))
        → GoodSo (on_receiver client (world_of machine) c f)
    receiver_good f each =
        if_then IsGood _ c.passed.receiver
        (λ v e. if_either IsGood (is_null v) _ _ (if_some IsGood _ (throws_there null_pointer refl))
        (each v (the_one (IsValue client) c.passed.receiver v passed.receiver e)))

    waiting_values : AllByRecursion (FrameValues client) (waiting c)
    waiting_values = (record { locals = frame.locals; items = passed.beneath; lock = frame.lock }, below)

    method_good : (to : Given) (receiver : Option Value) (arguments : List Value) → AreValues client (option_to_list receiver)
        → AreValues client arguments
        → GoodSo (enters_method client (world_of machine) c.number c.thread (waiting c) to receiver arguments)
    method_good to receiver arguments p q =
        enters_good client (world_of machine) c.number c.thread (waiting c) to receiver arguments h waiting_values p q

    -- ---- threads

    started_good : (on : Value) → IsValue client on → (number : Option ℕ) → GoodSo (started client machine c on number)
    started_good on is (Some number) = if_some IsGood _ (throws_there second_start refl)
    started_good on is None =
        let target = target_of machine.heap on in
        let run = option_or (run_of client machine.heap on) (run_of client machine.heap target) in
        let is_run = if_or RunValues (run_of client machine.heap on) (run_of client machine.heap target) (run_values machine.heap on is)
        (run_values machine.heap target (target_value machine.heap on h.holds.heap)) in
        let started = started_as (length machine.threads) in
        if_made IsGood IsGood _ _
        (λ change good. record { world = good.world; thread = good.thread; begins = (begun_values run is_run, tt) })
        (past_good (with_heap (world_of machine) (with_changed machine.heap on started))
        (changed_holds (world_of machine) on started (started_values (length machine.threads))
        (started_named (length machine.threads)) h) [] tt)

    starts_good : (on : Value) → IsValue client on → GoodSo (starts client machine c on)
    starts_good on is = if_then IsGood _ (thread_of_value machine.heap on) (λ number e. started_good on is number)

    joined_good : (number : Option ℕ) → GoodSo (joined machine c number)
    joined_good None = past_good (world_of machine) h [] tt
    joined_good (Some number) = if_either IsGood (has_ended machine number) _ _ (past_good (world_of machine) h [] tt) (if_none IsGood)

    joins_good : (on : Value) → GoodSo (joins machine c on)
    joins_good on = if_then IsGood _ (thread_of_value machine.heap on) (λ number e. joined_good number)

    runs_good : (run : Option (Given × Value)) → IfThere RunValues run → GoodSo (runs client (world_of machine) c run)
    runs_good None r = past_good (world_of machine) h [] tt
    runs_good (Some run) r = method_good run.0 (Some run.1) [] (is_there RunValues (Some run) run r refl, tt) tt

    runs_target_good : (on : Value) → GoodSo (runs_target client (world_of machine) c on)
    runs_target_good on =
        let target = target_of machine.heap on in
        if_either IsGood (option_map_or (is_thread client) (class_of_value machine.heap on) false) _ _
        (runs_good (run_of client machine.heap target) (run_values machine.heap target (target_value machine.heap on h.holds.heap)))
        (past_good (world_of machine) h [] tt)

    own_run_good : (on : Value) → IsValue client on
        → GoodSo (option_map_or (λ run. runs client (world_of machine) c (Some run)) (run_of client machine.heap on)
        (runs_target client (world_of machine) c on))
    own_run_good on is =
        there_or GoodSo _ (run_of client machine.heap on) _ (runs_target_good on)
        (λ run e. runs_good (Some run) (if_some RunValues run (is_there RunValues _ run (run_values machine.heap on is) e)))

    runs_object_good : (how : How) (on : Value) → IsValue client on → GoodSo (runs_object client (world_of machine) c how on)
    runs_object_good hows.Special on is = runs_target_good on
    runs_object_good hows.Virtual on is = own_run_good on is
    runs_object_good hows.Interface on is = own_run_good on is
    runs_object_good hows.Static on is = if_none IsGood

    -- ---- built-in methods

    stopped_good : (m : ℤ) → GoodSo (stopped_by (world_of machine) c m)
    stopped_good m =
        if_made IsGood IsGood _ _ (λ change good. record { world = good.world; thread = good.thread; begins = tt })
        (past_good (world_of machine) h [] tt)

    exits_good : GoodSo (exits (world_of machine) c)
    exits_good = if_then IsGood _ _ (λ m e. stopped_good m)

    aims_good : (on : Value) → GoodSo (aims (world_of machine) c on)
    aims_good on =
        if_then IsGood _ (slice_get c.passed.arguments 0)
        (λ to e. past_good (with_heap (world_of machine) (with_changed machine.heap on (aimed_at to)))
        (changed_holds (world_of machine) on (aimed_at to)
        (aimed_values to (all_get (IsValue client) c.passed.arguments 0 to passed.arguments e)) (aimed_named to) h)
        [] tt)

    built_in_good : (how : How) (builtin : Builtin) → GoodSo (built_in client machine c how builtin)
    built_in_good how builtins.Make = past_good (world_of machine) h [] tt
    built_in_good how builtins.MakeOn = receiver_good _ (λ on is. aims_good on)
    built_in_good how builtins.Start = receiver_good _ starts_good
    built_in_good how builtins.Run = receiver_good _ (runs_object_good how)
    built_in_good how builtins.Join = receiver_good _ (λ on is. joins_good on)
    built_in_good how builtins.Exit = exits_good
    built_in_good how builtins.Length =
        receiver_good _ (λ on is. past_good (world_of machine) h (values.Int (pos (characters (string_of client machine.heap on))) ∷ [])
        (tt, tt))

    -- ---- given methods

    lacking_good : (method : Method) (on : Value) → GoodSo (lacking client (world_of machine) c method on)
    lacking_good method on =
        if_either IsGood (is_run method) _ _ (runs_target_good on)
        (if_some IsGood _ (ends_good client (world_of machine) c.number (c.frame ∷ c.below) h))

    lacked_good : (how : How) (method : Method) (on : Value) → GoodSo (lacked client (world_of machine) c how method on)
    lacked_good hows.Virtual method on = lacking_good method on
    lacked_good hows.Interface method on = lacking_good method on
    lacked_good hows.Special method on = if_some IsGood _ (ends_good client (world_of machine) c.number (c.frame ∷ c.below) h)
    lacked_good hows.Static method on = if_none IsGood

    enters_on_good : (how : How) (to : Given) (method : Method) (on : Value)
        → GoodSo (enters_on client (world_of machine) c how to method on)
    enters_on_good how to method on =
        if_then IsGood _ (class_of_value machine.heap on)
        (λ class e. there_or GoodSo _ (method_run client c.frame.class how to method class) _ (lacked_good how method on)
        (λ found f. method_good found c.passed.receiver c.passed.arguments passed.receiver passed.arguments))

    given_good : (how : How) (to : Given) (method : Method) → GoodSo (calls_given client (world_of machine) c how to method)
    given_good hows.Static to method = method_good to None c.passed.arguments tt passed.arguments
    given_good hows.Special to method = receiver_good _ (λ on is. enters_on_good hows.Special to method on)
    given_good hows.Virtual to method = receiver_good _ (λ on is. enters_on_good hows.Virtual to method on)
    given_good hows.Interface to method = receiver_good _ (λ on is. enters_on_good hows.Interface to method on)

    library_good : (index : ℕ) → IsGood (calls_library client (world_of machine) c index)
    library_good index = record {
      world = h;
      thread = record { frames = waiting_values; waits = (passed.receiver, passed.arguments) };
      begins = tt;
    }

    -- ---- calls by what they name

    named_good : (how : How) (ref : Target) → GoodSo (calls_named client machine c how ref)
    named_good how (target.ApiMethod index) = if_some IsGood _ (library_good index)
    named_good how (target.Builtin index) = if_then IsGood _ (builtin_at index) (λ builtin f. built_in_good how builtin)
    named_good how (target.Method class method) = if_then IsGood _ (method_at client class method) (λ m f. given_good how (class, method) m)
    named_good how target.None = if_none IsGood
    named_good how (target.Field class field) = if_none IsGood
    named_good how (target.ApiField index) = if_none IsGood
    named_good how (target.ClassName name) = if_none IsGood
    named_good how (target.Number m) = if_none IsGood
    named_good how (target.Literal index) = if_none IsGood

  pub calls_good : (machine : Machine) → WorldHolds client (world_of machine) → (number : ℕ) (thread : Thread)
      → (frame : Frame) (below : List Frame) (how : How) (ref : Target) → FrameValues client frame
      → AllByRecursion (FrameValues client) below
      → GoodSo (calls client machine number thread frame below how ref)
  calls_good machine h number thread frame below how ref on all =
      if_then IsGood _ (desc_named client ref)
      (λ desc e. if_then IsGood _ (taken (is_static_call how) (arity desc) frame.stack.items)
      (λ passed f. named_good machine h (record { number = number; thread = thread; frame = frame; below = below; passed = passed }) on all
      (is_there (TakesValues client) _ passed
      (taken_values client (is_static_call how) (arity desc) frame.stack.items on.items) f) how ref))
