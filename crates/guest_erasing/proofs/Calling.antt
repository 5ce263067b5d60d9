-- Calls do the same in both programs.
use Rattle.std.proofs.Common.{◌≡◌, ℕ, ℤ, zero, suc, ◌+◌, ◌≤◌, Bool, true, false, cond, List, [], ◌∷◌, ◌++◌, length, Option, Some, None, refl, sym, ap, ◌∙◌, subst, arith}
use Rattle.std.specs.Prelude.{pos, ◌&&◌, bytes_eq, codes, IfSome, slice_get, option_map, option_and_then}
use Rattle.std.specs.List.{AllByRecursion}
use Rattle.std.specs.Option.{option_map_or, option_or, option_to_list}
use Rattle.api_listing.specs.declared.events.Event.TheVariants as events
use Rattle.api_listing.specs.declared.types.Listing.{Listing}
use Rattle.api_listing.specs.declared.types.ListedMethod.{ListedMethod}
use Rattle.insn_codec.specs.declared.shape.How.{How}
use Rattle.insn_codec.specs.declared.shape.How.TheVariants as hows
use Rattle.bytecode_model.specs.declared.program.Method.{Method}
use Rattle.bytecode_model.specs.declared.program.Program.{Program}
use Rattle.bytecode_model.specs.declared.program.Target.{Target}
use Rattle.bytecode_model.specs.declared.program.Target.TheVariants as target
use Rattle.bytecode_model.specs.Heads.{is_static, run_name, takes_nothing}
use Rattle.bytecode_model.specs.InsnPlace.{has_receiver}
use Rattle.bytecode_model.specs.SearchOrder.{Name}
use Rattle.api_listing.specs.Descriptor.{after_first, arguments_at, method_type, result_of}
use Rattle.guest_heap.specs.declared.frame.Frame.{Frame}
use Rattle.guest_heap.specs.declared.object.Object.{Object}
use Rattle.guest_heap.specs.declared.thread.Thread.{Thread}
use Rattle.guest_heap.specs.declared.value.Value.{Value}
use Rattle.guest_heap.specs.declared.value.Value.TheVariants as values
use Rattle.guest_frames.specs.Values.{is_null}
use Rattle.guest_model.specs.declared.builtin.Builtin.{Builtin}
use Rattle.guest_model.specs.declared.builtin.Builtin.TheVariants as builtins
use Rattle.guest_model.specs.declared.machine.Machine.{Machine}
use Rattle.guest_model.specs.Builtins.{builtin_at, characters}
use Rattle.guest_model.specs.Calling.{Calling, aimed_at, aims, begun_thread, built_in, call_throws, calls, calls_given, calls_library, calls_named, desc_named, enters_of, enters_on, exits, goes_past, has_ended, is_ended, is_static_call, joined, joins, lacked, lacking, on_receiver, run_of, runs, runs_object, runs_target, second_start, started, started_as, starts, stopped_by, target_in, target_of, thread_of_value, waiting, with_begun, with_changed}
use Rattle.guest_model.specs.Calls.{Taken, arity, taken}
use Rattle.guest_model.specs.Changes.{Change, World, ends_thread, enters_method, frame_of, world_of}
use Rattle.guest_model.specs.Finding.{Given, client_run, is_run, method_run}
use Rattle.guest_model.specs.Kinds.{class_of_value, is_thread}
use Rattle.guest_model.specs.Parts.{null_pointer, number_in}
use Rattle.guest_model.specs.Places.{method_at}
use Rattle.guest_model.specs.Seen.{string_of, values_shown}
use Rattle.guest_model.proofs.Options.{all_get, and_then_of, some_is}
use Rattle.guest_erasing.specs.Laid.{HasCounterpart, IsClientName, TellAlike}
use Rattle.guest_erasing.specs.Mirrors.{AreAlike, AreBelow, HoldsClientValues, IsBelow, IsClientObject, IsClientValue, Mirrors, TakesCalls, ThreadMirrors}
use Rattle.guest_erasing.specs.Places.{Sites}
use Rattle.guest_erasing.specs.Steps.{AreRoomy}
use Rattle.guest_erasing.proofs.Alike.{Alike, alike_map, alike_none, alike_some, alike_then, alike_told, like_if, like_or, like_then, same_if, same_then}
use Rattle.guest_erasing.proofs.Beginning.{begun_front, enters_alike}
use Rattle.guest_erasing.proofs.Changing.{Changed, Made, ended_mirrors, ends_mirror, running_mirrors, throws_new_mirrors, went_on}
use Rattle.guest_erasing.proofs.Finding.{Runs, class_method_alike, class_method_runs, run_alike, run_runs}
use Rattle.guest_erasing.proofs.Framing.{after_alike, moved_mirrors}
use Rattle.guest_erasing.proofs.Operating.{AreClients, class_is_client}
use Rattle.guest_erasing.proofs.Passing.{Passes, all_shown_alike, string_alike, taken_passes, there_is}
use Rattle.guest_erasing.proofs.Worlds.{Goes, with_heap_goes}

-- ---- objects of the client

pub are_clients : (client : Program) (heap : List Object) → AllByRecursion (IsClientObject client) heap → AreClients heap
are_clients client [] all = tt
are_clients client (object ∷ heap) all = (all.0.class, are_clients client heap all.1)

target_own : (client : Program) (heap : List Object) → AllByRecursion (IsClientObject client) heap → (v : Value)
    → IsClientValue client (target_of heap v)
target_own client heap all (values.Int n) = tt
target_own client heap all values.Null = tt
target_own client heap all (values.Ref at) = by (slice_get heap at) (λ object e. all_get (IsClientObject client) heap at object all e) where
  by : (o : Option Object) → ((object : Object) → o ≡ Some object → IsClientObject client object)
      → IsClientValue client (option_map_or target_in o values.Null)
  by None own = tt
  by (Some object) own = (own object refl).target
target_own client heap all (values.Class index) = tt
target_own client heap all (values.Lit index) = tt

-- ---- threads

module _ (sites_of : Method → Sites) (client woven : Program) where
  abbrev Threads : List Thread → List Thread → Type 0
  Threads = AreAlike (ThreadMirrors sites_of client woven)

  pub as_many : (threads others : List Thread) → Threads threads others → length others ≡ length threads
  as_many [] [] t = refl
  as_many [] (other ∷ others) t = absurd t
  as_many (thread ∷ threads) [] t = absurd t
  as_many (thread ∷ threads) (other ∷ others) t = ap (λ (n : ℕ). suc n) (as_many threads others t.1)

  pub ended_alike : (threads others : List Thread) (n : ℕ) → Threads threads others
      → option_map_or (λ (t : Thread). is_ended t.doing) (slice_get others n) false ≡ option_map_or (λ (t : Thread). is_ended t.doing)
      (slice_get threads n) false
  ended_alike [] [] n t = refl
  ended_alike [] (other ∷ others) n t = absurd t
  ended_alike (thread ∷ threads) [] n t = absurd t
  ended_alike (thread ∷ threads) (other ∷ others) zero t = ap is_ended t.0.doing
  ended_alike (thread ∷ threads) (other ∷ others) (suc n) t = ended_alike threads others n t.1

module _ (sites_of : Method → Sites) (client woven : Program) (machine other : Machine)
    (m : Mirrors sites_of client woven machine other) where
  pub world_goes : Goes client (world_of other) (world_of machine) (world_of other)
  world_goes = record {
    mirrors = record { heap = m.heap; statics = m.statics; classes = m.classes; monitors = m.monitors };
    keeps = record { fields = refl; monitor = refl };
  }

module _ (sites_of : Method → Sites) (client woven : Program) (tell : TellAlike sites_of client woven) (roomy : AreRoomy client)
    (machine other : Machine) (m : Mirrors sites_of client woven machine other)
    (all : AllByRecursion (IsClientObject client) machine.heap) where
  abbrev goes_here : Goes client (world_of other) (world_of machine) (world_of other)
  goes_here = world_goes sites_of client woven machine other m

  abbrev clients : AreClients machine.heap
  clients = are_clients client machine.heap all

  abbrev Does : Option Change → Option Change → Type 0
  Does = Made sites_of client woven (world_of other)

  abbrev Doing : Change → Change → Type 0
  Doing = Changed sites_of client woven (world_of other)

  -- ---- what objects run

  client_run_alike : (class : Name) → IsClientName class → client_run woven class ≡ client_run client class
  client_run_alike class own = class_method_alike sites_of client woven tell roomy run_name takes_nothing class own

  abbrev run_on : Value → Given → Option (Given × Value)
  run_on on to = Some (to, on)

  run_by : (o : Option Name) (on : Value) → ((class : Name) → o ≡ Some class → IsClientName class)
      → option_and_then (λ (class : Name). option_and_then (run_on on) (client_run woven class)) o
      ≡ option_and_then (λ (class : Name). option_and_then (run_on on) (client_run client class)) o
  run_by None on own = refl
  run_by (Some class) on own = ap (option_and_then (run_on on)) (client_run_alike class (own class refl))

  run_of_alike : (on : Value) → run_of woven other.heap on ≡ run_of client machine.heap on
  run_of_alike on = ap (λ (h : List Object). run_of woven h on) m.heap
      ∙ run_by (class_of_value machine.heap on) on (class_is_client machine.heap clients on)

  -- A thing that is run is the value itself, which is of the client, and its method takes it.
  record RunsWell (run : Given × Value) : Type 0 where
    own : IsClientValue client run.1
    fits : Runs sites_of client woven tell roomy takes_nothing run.0

  runs_well : (on : Value) → IsClientValue client on → (run : Given × Value) → run_of client machine.heap on ≡ Some run → RunsWell run
  runs_well on own run e =
      let a = and_then_of (λ (class : Name). option_and_then (run_on on) (client_run client class))
      (class_of_value machine.heap on) run e in
      let b = and_then_of (run_on on) (client_run client a.0) run a.2 in
      let same : (b.0, on) ≡ run = some_is (b.0, on) run b.2 in
      subst RunsWell same
      (record { own = own; fits = class_method_runs sites_of client woven tell roomy run_name takes_nothing a.0 b.0 b.1 })

  either_well : (o q : Option (Given × Value)) → ((run : Given × Value) → o ≡ Some run → RunsWell run)
      → ((run : Given × Value) → q ≡ Some run → RunsWell run)
      → (run : Given × Value) → option_or o q ≡ Some run → RunsWell run
  either_well None q f g run e = g run e
  either_well (Some x) q f g run e = f run e

  nothing_taken : arity takes_nothing ≡ 0
  unfolding method_type after_first arguments_at result_of
  nothing_taken = refl

  -- so the receiver fits the locals
  takes_one : (run : Given × Value) → RunsWell run → (method : Method) → method_at client run.0.0 run.0.1 ≡ Some method
      → 1 ≤ method.max_locals
  takes_one run well method there =
      let same : well.fits.method ≡ method = some_is well.fits.method method (sym well.fits.there ∙ there) in
      let none : arity takes_nothing ≡ 0 = nothing_taken in
      let room : arity takes_nothing + 1 ≤ method.max_locals =
      subst (λ (x : Method). arity takes_nothing + 1 ≤ x.max_locals) same well.fits.room in
      omega arith

  begun_alike : (o p : Option (Given × Value)) → p ≡ o → ((run : Given × Value) → o ≡ Some run → RunsWell run)
      → ThreadMirrors sites_of client woven (begun_thread client o) (begun_thread woven p)
  begun_alike None p e well = rw e (ended_mirrors sites_of client woven)
  begun_alike (Some run) p e well =
      let w = well run refl in
      let new = tell.methods run.0.0 run.0.1 w.fits.method w.fits.there in
      rw (e, w.fits.there, new.there)
      (running_mirrors sites_of client woven (frame_of client run.0 w.fits.method (Some run.1) [] ∷ [])
      (frame_of woven run.0 new.new (Some run.1) [] ∷ []) [] [] refl (
        begun_front sites_of client woven tell run.0 w.fits.method w.fits.there new (Some run.1) []
            (takes_one run w w.fits.method w.fits.there),
        tt,
      ))

  -- ---- a call

  module _ (number : ℕ) (thread more : Thread) (same : more.to_begin ≡ thread.to_begin) (frame next : Frame)
      (b : IsBelow sites_of client woven frame next)
      (below others : List Frame) (bs : AreBelow sites_of client woven below others) (holds : HoldsClientValues client frame)
      (holding : AllByRecursion (HoldsClientValues client) below) (passed : Taken) (count : ℕ) (passes : Passes client count passed) where
    abbrev c : Calling
    c = record { number = number; thread = thread; frame = frame; below = below; passed = passed }

    abbrev d : Calling
    d = record { number = number; thread = more; frame = next; below = others; passed = passed }

    waiting_alike : AreBelow sites_of client woven (waiting c) (waiting d)
    waiting_alike = (
      record {
        mirrors = moved_mirrors sites_of client woven frame next b.mirrors frame.at next.at frame.locals next.locals passed.beneath
            b.mirrors.locals b.mirrors.many b.mirrors.wide;
        at = b.at;
        alone = b.alone;
      },
      bs,
    )

    past_alike : (world new : World) → Goes client (world_of other) world new → (results : List Value)
        → Does (goes_past world c results) (goes_past new d results)
    past_alike world new g results =
        went_on sites_of client woven (world_of other) world new g thread more same below others bs _ _
        (after_alike sites_of client woven frame next b (results ++ passed.beneath) (results ++ passed.beneath) refl)

    past_here : (results : List Value) → Does (goes_past (world_of machine) c results) (goes_past (world_of other) d results)
    past_here results = past_alike (world_of machine) (world_of other) goes_here results

    throws_alike : (class : Name) → IsClientName class
        → Doing (call_throws client (world_of machine) c class) (call_throws woven (world_of other) d class)
    throws_alike class own =
        throws_new_mirrors sites_of client woven tell (world_of other) (world_of machine) (world_of other) goes_here thread more same number
        (frame ∷ below) (next ∷ others) (b, bs) (holds, holding) class None own

    receiver_alike : (f h : Value → Option Change) → ((v : Value) → passed.receiver ≡ Some v → Does (f v) (h v))
        → Does (on_receiver client (world_of machine) c f) (on_receiver woven (world_of other) d h)
    receiver_alike f h each =
        same_then Doing _ _ passed.receiver
        (λ v e. same_if Doing (is_null v) _ _ _ _ (λ k. alike_some Doing _ _ (throws_alike null_pointer refl)) (λ k. each v e))

    receiver_own : (v : Value) → passed.receiver ≡ Some v → IsClientValue client v
    receiver_own v e = there_is (IsClientValue client) passed.receiver v passes.receiver e

    enters_here : (to : Given) (receiver : Option Value) (arguments : List Value) → IfSome receiver (IsClientValue client)
        → ((method : Method) → method_at client to.0 to.1 ≡ Some method → length (option_to_list receiver ++ arguments) ≤ method.max_locals)
        → Does (enters_method client (world_of machine) number thread (waiting c) to receiver arguments)
        (enters_method woven (world_of other) number more (waiting d) to receiver arguments)
    enters_here to receiver arguments own few =
        enters_alike sites_of client woven tell (world_of other) (world_of machine) (world_of other) goes_here thread more same number
        (waiting c) (waiting d) waiting_alike to receiver arguments own few

    -- ---- threads

    begun_mirrors : (change new : Change) (run begun : Thread) → Doing change new → ThreadMirrors sites_of client woven run begun
        → Doing (with_begun change run) (with_begun new begun)
    begun_mirrors change new run begun made t = record {
      world = made.world;
      keeps = made.keeps;
      thread = made.thread;
      begins = t;
      stops = made.stops;
      event = made.event;
    }

    started_alike : (on : Value) → IsClientValue client on → (o : Option ℕ)
        → Does (started client machine c on o) (started woven other d on o)
    started_alike on own (Some n) = alike_some Doing _ _ (throws_alike second_start refl)
    started_alike on own None =
        alike_map Doing Doing _ _ _ _
        (past_alike _ _ (with_heap_goes client (world_of other) (world_of machine) (world_of other) goes_here
        (with_changed machine.heap on (started_as (length machine.threads)))
        (with_changed other.heap on (started_as (length other.threads)))
        (ap (λ (h : List Object). with_changed h on (started_as (length other.threads))) m.heap
        ∙ ap (λ (n : ℕ). with_changed machine.heap on (started_as n))
        (as_many sites_of client woven machine.threads other.threads m.threads))) [])
        (λ change new e f made. begun_mirrors change new _ _ made
        (begun_alike (option_or (run_of client machine.heap on) (run_of client machine.heap (target_of machine.heap on)))
        (option_or (run_of woven other.heap on) (run_of woven other.heap (target_of other.heap on)))
        (ap (λ (r : Option (Given × Value)). option_or r (run_of woven other.heap (target_of other.heap on))) (run_of_alike on)
        ∙ ap (λ (r : Option (Given × Value)). option_or (run_of client machine.heap on) r)
        (ap (λ (h : List Object). run_of woven other.heap (target_of h on)) m.heap ∙ run_of_alike (target_of machine.heap on)))
        (either_well (run_of client machine.heap on) (run_of client machine.heap (target_of machine.heap on)) (runs_well on own)
        (runs_well (target_of machine.heap on) (target_own client machine.heap all on)))))

    starts_alike : (on : Value) → IsClientValue client on → Does (starts client machine c on) (starts woven other d on)
    starts_alike on own =
        like_then Doing _ _ (thread_of_value machine.heap on) (thread_of_value other.heap on)
        (ap (λ (h : List Object). thread_of_value h on) m.heap)
        (λ o e. started_alike on own o)

    joined_alike : (o : Option ℕ) → Does (joined machine c o) (joined other d o)
    joined_alike None = past_here []
    joined_alike (Some n) =
        like_if Doing (has_ended machine n) (has_ended other n) _ _ _ _
        (ended_alike sites_of client woven machine.threads other.threads n m.threads)
        (λ e. past_here []) (λ e. alike_none Doing None)

    joins_alike : (on : Value) → Does (joins machine c on) (joins other d on)
    joins_alike on =
        like_then Doing _ _ (thread_of_value machine.heap on) (thread_of_value other.heap on)
        (ap (λ (h : List Object). thread_of_value h on) m.heap)
        (λ o e. joined_alike o)

    runs_alike : (run : Option (Given × Value)) → ((r : Given × Value) → run ≡ Some r → RunsWell r)
        → Does (runs client (world_of machine) c run) (runs woven (world_of other) d run)
    runs_alike None well = past_here []
    runs_alike (Some run) well = enters_here run.0 (Some run.1) [] (well run refl).own (takes_one run (well run refl))

    thread_by : (o : Option Name) → ((class : Name) → o ≡ Some class → IsClientName class)
        → option_map_or (is_thread woven) o false ≡ option_map_or (is_thread client) o false
    thread_by None own = refl
    thread_by (Some class) own = tell.below class (codes "java/lang/Thread") (own class refl)

    target_alike : (on : Value) → Does (runs_target client (world_of machine) c on) (runs_target woven (world_of other) d on)
    target_alike on =
        like_if Doing (option_map_or (is_thread client) (class_of_value machine.heap on) false)
        (option_map_or (is_thread woven) (class_of_value other.heap on) false) _ _ _ _
        (ap (λ (h : List Object). option_map_or (is_thread woven) (class_of_value h on) false) m.heap
        ∙ thread_by (class_of_value machine.heap on) (class_is_client machine.heap clients on))
        (λ e. subst (λ (r : Option (Given × Value)). Does
        (runs client (world_of machine) c (run_of client machine.heap (target_of machine.heap on))) (runs woven (world_of other) d r))
        (sym (ap (λ (h : List Object). run_of woven other.heap (target_of h on)) m.heap ∙ run_of_alike (target_of machine.heap on)))
        (runs_alike (run_of client machine.heap (target_of machine.heap on))
        (runs_well (target_of machine.heap on) (target_own client machine.heap all on))))
        (λ e. past_here [])

    own_run_alike : (on : Value) → IsClientValue client on
        → Does (option_map_or (λ run. runs client (world_of machine) c (Some run)) (run_of client machine.heap on)
        (runs_target client (world_of machine) c on))
        (option_map_or (λ run. runs woven (world_of other) d (Some run)) (run_of woven other.heap on)
        (runs_target woven (world_of other) d on))
    own_run_alike on own =
        like_or Doing _ _ (run_of client machine.heap on) (run_of woven other.heap on) _ _ (run_of_alike on) (λ e. target_alike on)
        (λ run e. runs_alike (Some run) (λ r h. subst RunsWell (some_is run r h) (runs_well on own run e)))

    object_alike : (how : How) (on : Value) → IsClientValue client on
        → Does (runs_object client (world_of machine) c how on) (runs_object woven (world_of other) d how on)
    object_alike hows.Special on own = target_alike on
    object_alike hows.Virtual on own = own_run_alike on own
    object_alike hows.Interface on own = own_run_alike on own
    object_alike hows.Static on own = alike_none Doing None

    -- ---- built-in methods

    stopped_alike : (n : ℤ) → Does (stopped_by (world_of machine) c n) (stopped_by (world_of other) d n)
    stopped_alike n =
        alike_map Doing Doing _ _ _ _ (past_here [])
        (λ change new e f made.
        record { world = made.world; keeps = made.keeps; thread = made.thread; begins = tt; stops = refl; event = refl })

    exits_alike : Does (exits (world_of machine) c) (exits (world_of other) d)
    exits_alike = same_then Doing _ _ (option_and_then number_in (slice_get passed.arguments 0)) (λ n e. stopped_alike n)

    aims_alike : (on : Value) → Does (aims (world_of machine) c on) (aims (world_of other) d on)
    aims_alike on =
        same_then Doing _ _ (slice_get passed.arguments 0)
        (λ to e. past_alike _ _ (with_heap_goes client (world_of other) (world_of machine) (world_of other) goes_here
        (with_changed machine.heap on (aimed_at to)) (with_changed other.heap on (aimed_at to))
        (ap (λ (h : List Object). with_changed h on (aimed_at to)) m.heap)) [])

    length_alike : (on : Value)
        → Does (goes_past (world_of machine) c (values.Int (pos (characters (string_of client machine.heap on))) ∷ []))
        (goes_past (world_of other) d (values.Int (pos (characters (string_of woven other.heap on))) ∷ []))
    length_alike on =
        subst (λ (text : List ℕ). Does
        (goes_past (world_of machine) c (values.Int (pos (characters (string_of client machine.heap on))) ∷ []))
        (goes_past (world_of other) d (values.Int (pos (characters text)) ∷ [])))
        (sym (ap (λ (h : List Object). string_of woven h on) m.heap ∙ string_alike sites_of client woven tell machine.heap on))
        (past_here (values.Int (pos (characters (string_of client machine.heap on))) ∷ []))

    built_alike : (how : How) (builtin : Builtin) → Does (built_in client machine c how builtin) (built_in woven other d how builtin)
    built_alike how builtins.Make = past_here []
    built_alike how builtins.MakeOn = receiver_alike _ _ (λ v e. aims_alike v)
    built_alike how builtins.Start = receiver_alike _ _ (λ v e. starts_alike v (receiver_own v e))
    built_alike how builtins.Run = receiver_alike _ _ (λ v e. object_alike how v (receiver_own v e))
    built_alike how builtins.Join = receiver_alike _ _ (λ v e. joins_alike v)
    built_alike how builtins.Exit = exits_alike
    built_alike how builtins.Length = receiver_alike _ _ (λ v e. length_alike v)

    -- ---- given methods

    ends_here : Doing (ends_thread (world_of machine) number (frame ∷ below)) (ends_thread (world_of other) number (next ∷ others))
    ends_here =
        ends_mirror sites_of client woven (world_of other) (world_of machine) (world_of other) goes_here thread more same number
        (frame ∷ below) (next ∷ others) (b, bs) (holds, holding)

    module _ (to : Given) (method : Method) (there : method_at client to.0 to.1 ≡ Some method)
        (new : HasCounterpart sites_of woven to.0 to.1 method)
        (many : count ≡ arity method.desc) where
      lacking_alike : (on : Value) → Does (lacking client (world_of machine) c method on) (lacking woven (world_of other) d new.new on)
      lacking_alike on =
          like_if Doing (is_run method) (is_run new.new) _ _ _ _
          (ap (λ (n : Name). bytes_eq n run_name && bytes_eq new.new.desc takes_nothing) new.laid.name
          ∙ ap (λ (n : Name). bytes_eq method.name run_name && bytes_eq n takes_nothing) new.laid.desc)
          (λ e. target_alike on) (λ e. alike_some Doing _ _ ends_here)

      lacked_alike : (how : How) (on : Value)
          → Does (lacked client (world_of machine) c how method on) (lacked woven (world_of other) d how new.new on)
      lacked_alike hows.Virtual on = lacking_alike on
      lacked_alike hows.Interface on = lacking_alike on
      lacked_alike hows.Special on = alike_some Doing _ _ ends_here
      lacked_alike hows.Static on = alike_none Doing None

      -- a receiver and the arguments fit the locals of what an object runs
      fits_found : (v : Value) → passed.receiver ≡ Some v → (found : Given) → Runs sites_of client woven tell roomy method.desc found
          → (of : Method) → method_at client found.0 found.1 ≡ Some of
          → length (option_to_list passed.receiver ++ passed.arguments) ≤ of.max_locals
      fits_found v is found runs of here =
          let same_method : runs.method ≡ of = some_is runs.method of (sym runs.there ∙ here) in
          let room : arity method.desc + 1 ≤ of.max_locals =
          subst (λ (x : Method). arity method.desc + 1 ≤ x.max_locals) same_method runs.room in
          let long : length passed.arguments ≡ count = passes.many in
          rw is (omega arith)

      enters_on_alike : (how : How) → has_receiver how ≡ true → (v : Value) → passed.receiver ≡ Some v
          → Does (enters_on client (world_of machine) c how to method v) (enters_on woven (world_of other) d how to new.new v)
      enters_on_alike how instance v is =
          like_then Doing _ _ (class_of_value machine.heap v) (class_of_value other.heap v)
          (ap (λ (h : List Object). class_of_value h v) m.heap)
          (λ class e. by class (class_is_client machine.heap clients v class e)) where
            by : (class : Name) → IsClientName class
                → Does (enters_of client (world_of machine) c how to method v class)
                (enters_of woven (world_of other) d how to new.new v class)
            by class own =
                like_or Doing _ _ (method_run client frame.class how to method class) (method_run woven next.class how to new.new class) _ _
                (ap (λ (n : ℕ). method_run woven n how to new.new class) b.mirrors.class
                ∙ run_alike sites_of client woven tell roomy frame.class frame.method b.mirrors.old b.mirrors.there to method there new how
                class own)
                (λ e. lacked_alike how v)
                (λ found e. enters_here found passed.receiver passed.arguments passes.receiver
                (fits_found v is found (run_runs sites_of client woven tell roomy frame.class frame.method b.mirrors.old b.mirrors.there to
                method there new how class found instance e)))

      -- what a static call passes fits its method's locals
      fits_static : TakesCalls client to → (of : Method) → method_at client to.0 to.1 ≡ Some of → length passed.arguments ≤ of.max_locals
      fits_static takes of here =
          let same_method : method ≡ of = some_is method of (sym there ∙ here) in
          let long : length passed.arguments ≡ arity of.desc = passes.many ∙ many ∙ ap (λ (x : Method). arity x.desc) same_method in
          by (is_static of.flags) (takes of here) long where
            by : (s : Bool) → cond s (arity of.desc) (arity of.desc + 1) ≤ of.max_locals → length passed.arguments ≡ arity of.desc
                → length passed.arguments ≤ of.max_locals
            by true h l = omega arith
            by false h l = omega arith

      given_alike : (how : How) → (how ≡ hows.Static → TakesCalls client to)
          → Does (calls_given client (world_of machine) c how to method) (calls_given woven (world_of other) d how to new.new)
      given_alike hows.Static takes = enters_here to None passed.arguments tt (fits_static (takes refl))
      given_alike hows.Special takes = receiver_alike _ _ (λ v e. enters_on_alike hows.Special refl v e)
      given_alike hows.Virtual takes = receiver_alike _ _ (λ v e. enters_on_alike hows.Virtual refl v e)
      given_alike hows.Interface takes = receiver_alike _ _ (λ v e. enters_on_alike hows.Interface refl v e)

    -- ---- methods of the library

    library_mirrors : (method : ℕ)
        → Doing (calls_library client (world_of machine) c method) (calls_library woven (world_of other) d method)
    library_mirrors method = record {
      world = goes_here.mirrors;
      keeps = goes_here.keeps;
      thread = record {
        doing = refl;
        to_begin = same;
        frames = (
          record {
            mirrors = moved_mirrors sites_of client woven frame next b.mirrors frame.at next.at frame.locals next.locals passed.beneath
                b.mirrors.locals b.mirrors.many b.mirrors.wide;
            at = b.at;
          },
          bs,
        );
      };
      begins = tt;
      stops = refl;
      event = ap (λ vs. Some (events.Call number method vs))
          (ap (λ (h : List Object). values_shown woven h passed.arguments) m.heap
          ∙ all_shown_alike sites_of client woven tell machine.heap clients passed.arguments passes.arguments);
    }

    -- ---- calls by what they name

    pub named_alike : (how : How) (ref : Target) (desc : Name) → desc_named client ref ≡ Some desc → count ≡ arity desc
        → ((to : Given) → ref ≡ target.Method to.0 to.1 → how ≡ hows.Static → TakesCalls client to)
        → Does (calls_named client machine c how ref) (calls_named woven other d how ref)
    named_alike how (target.ApiMethod index) desc e many takes = alike_some Doing _ _ (library_mirrors index)
    named_alike how (target.Builtin index) desc e many takes = same_then Doing _ _ (builtin_at index) (λ builtin f. built_alike how builtin)
    named_alike how (target.Method class method) desc e many takes =
        alike_then (λ (x y : Method). (h : HasCounterpart sites_of woven class method x) × (h.new ≡ y)) Doing _ _
        (method_at client class method) (method_at woven class method)
        (alike_told _ _ _ (λ x f. let h = tell.methods class method x f in (h.new, h.there, (h, refl))))
        (λ x y f g h.
        let described : x.desc ≡ desc = some_is x.desc desc (rw f at e) in
        subst (λ (z : Method). Does (calls_given client (world_of machine) c how (class, method) x)
        (calls_given woven (world_of other) d how (class, method) z)) h.1
        (given_alike (class, method) x f h.0 (many ∙ ap arity (sym described)) how (takes (class, method) refl)))
    named_alike how target.None desc e many takes = alike_none Doing None
    named_alike how (target.Field class field) desc e many takes = alike_none Doing None
    named_alike how (target.ApiField index) desc e many takes = alike_none Doing None
    named_alike how (target.ClassName name) desc e many takes = alike_none Doing None
    named_alike how (target.Number n) desc e many takes = alike_none Doing None
    named_alike how (target.Literal index) desc e many takes = alike_none Doing None

  -- ---- the call

  abbrev SameName : Name → Name → Type 0
  SameName x y = x ≡ y

  desc_alike : (ref : Target) → Alike SameName (desc_named client ref) (desc_named woven ref)
  desc_alike (target.ApiMethod index) =
      subst (λ (l : Listing). Alike SameName (desc_named client (target.ApiMethod index))
      (option_map (λ (x : ListedMethod). x.id.desc) (slice_get l.methods index))) (sym tell.listing)
      (alike_told SameName _ _ (λ x e. (x, e, refl)))
  desc_alike (target.Builtin index) = alike_told SameName _ _ (λ x e. (x, e, refl))
  desc_alike (target.Method class method) =
      alike_map (λ (x y : Method). y.desc ≡ x.desc) SameName _ _ (method_at client class method) (method_at woven class method)
      (alike_told _ _ _ (λ x f. let h = tell.methods class method x f in (h.new, h.there, h.laid.desc)))
      (λ x y e f same. sym same)
  desc_alike target.None = alike_none SameName None
  desc_alike (target.Field class field) = alike_none SameName None
  desc_alike (target.ApiField index) = alike_none SameName None
  desc_alike (target.ClassName name) = alike_none SameName None
  desc_alike (target.Number n) = alike_none SameName None
  desc_alike (target.Literal index) = alike_none SameName None

  pub calls_alike : (number : ℕ) (thread more : Thread) → more.to_begin ≡ thread.to_begin → (frame next : Frame)
      → IsBelow sites_of client woven frame next
      → (below others : List Frame) → AreBelow sites_of client woven below others → HoldsClientValues client frame
      → AllByRecursion (HoldsClientValues client) below → (how : How) (ref : Target)
      → ((to : Given) → ref ≡ target.Method to.0 to.1 → how ≡ hows.Static → TakesCalls client to)
      → Does (calls client machine number thread frame below how ref) (calls woven other number more next others how ref)
  calls_alike number thread more same frame next b below others bs holds holding how ref takes =
      alike_then SameName Doing _ _ _ _ (desc_alike ref)
      (λ desc named e f alike.
      like_then Doing _ _ (taken (is_static_call how) (arity desc) frame.stack.items)
      (taken (is_static_call how) (arity named) next.stack.items)
      (ap (λ (n : Name). taken (is_static_call how) (arity n) next.stack.items) (sym alike)
      ∙ ap (taken (is_static_call how) (arity desc)) b.mirrors.items)
      (λ passed g.
      named_alike number thread more same frame next b below others bs holds holding passed (arity desc)
      (taken_passes client (is_static_call how) (arity desc) frame.stack.items holds.items passed g) how ref desc e refl takes))
