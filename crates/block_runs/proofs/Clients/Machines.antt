-- After every list of steps the machine of a typed client is a client's.
use Rattle.std.proofs.Common.{List, [], ◌∷◌, Option, Some, None, sym, subst}
use Rattle.std.specs.Prelude.{IfSome, IsSomeAnd, slice_get}
use Rattle.std.specs.List.{AllByRecursion}
use Rattle.std.specs.Option.{option_to_list}
use Rattle.api_listing.specs.declared.types.ListedMethod.{ListedMethod}
use Rattle.cert_format.specs.declared.typing.Typing.{Typing}
use Rattle.cert_format.specs.declared.typing.VType.{VType}
use Rattle.bytecode_model.specs.declared.program.Program.{Program}
use Rattle.bytecode_model.specs.Described.{result_type}
use Rattle.guest_heap.specs.declared.frame.Frame.{Frame}
use Rattle.guest_heap.specs.declared.object.Object.{Object}
use Rattle.guest_heap.specs.declared.thread.Doing.{Doing}
use Rattle.guest_heap.specs.declared.thread.Doing.TheVariants as doings
use Rattle.guest_heap.specs.declared.thread.Thread.{Thread}
use Rattle.guest_model.specs.declared.machine.Machine.{Machine}
use Rattle.guest_model.specs.Finding.{Given}
use Rattle.guest_model.specs.Runs.{exec, trace}
use Rattle.guest_model.proofs.Options.{all_get}
use Rattle.guest_erasing.specs.Mirrors.{CanBegin, HoldsClientValues, IsClientMachine, IsClientObject, IsClientThread, PassesClientValues}
use Rattle.guest_erasing.proofs.Clients.{all_by_place}
use Rattle.typed_runs.specs.Frames.{AreRunning, AreWaiting, Stands}
use Rattle.typed_runs.specs.Machines.{CanBegin as CanBeginTyped, FramesFit, MachineFits, ThreadFits}
use Rattle.typed_runs.specs.Runs.{RunsFit}
use Rattle.block_runs.specs.Clients.{ClientsKeepTheirMachine, IsTypedClient}
use Rattle.block_runs.proofs.Clients.Keeping.{Holds, always}
use Rattle.block_runs.proofs.Clients.Linked.{lists_clients, names_free, starts_so}
use Rattle.block_runs.proofs.Clients.Passing.{target_is}
use Rattle.block_runs.proofs.Clients.Roomy.{has_room, takes_calls}
use Rattle.block_runs.proofs.Clients.Values.{FrameValues, IsNamed, IsValue, ObjectValues, ThreadValues, WaitsValues}

some_of : {A : Type 0} (P : A → Type 0) (o : Option A) → AllByRecursion P (option_to_list o) → IfSome o P
some_of P None all = tt
some_of P (Some x) all = all.0

pub all_so : {A : Type 0} (P Q : A → Type 0) (xs : List A) → ((x : A) → P x → Q x) → AllByRecursion P xs → AllByRecursion Q xs
all_so P Q [] each all = tt
all_so P Q (x ∷ xs) each all = (each x all.0, all_so P Q xs each all.1)

pub begins_so : (client : Program) (typing : Typing) → IsTypedClient client typing → (to : Given) → CanBeginTyped client to
    → CanBegin client to
begins_so client typing is to can =
    record { method = can.method; there = can.there; takes = takes_calls client typing is to.0 to.1 can.method can.there can.code }

module _ (client : Program) (typing : Typing) (is : IsTypedClient client typing) (heap : List Object) where
  -- ---- frames stand somewhere

  abbrev StandsThere : Frame → Type 0
  StandsThere frame = Stands client typing frame

  waiting_stand : (result : Option VType) (frames : List Frame) → AreWaiting client typing heap result frames
      → AllByRecursion StandsThere frames
  waiting_stand result [] w = tt
  waiting_stand result (frame ∷ below) w = (w.0.stands, waiting_stand (result_type w.0.stands.method.desc) below w.1)

  running_stand : (frames : List Frame) → AreRunning client typing heap frames → AllByRecursion StandsThere frames
  running_stand [] r = tt
  running_stand (frame ∷ below) r = (r.0.stands, waiting_stand (result_type r.0.stands.method.desc) below r.1)

  listed_stand : (o : Option ListedMethod) (frames : List Frame)
      → IsSomeAnd o (λ (listed : ListedMethod). AreWaiting client typing heap (result_type listed.id.desc) frames)
      → AllByRecursion StandsThere frames
  listed_stand None frames w = absurd w
  listed_stand (Some listed) frames w = waiting_stand (result_type listed.id.desc) frames w

  frames_stand : (doing : Doing) (frames : List Frame) → FramesFit client typing heap frames doing → AllByRecursion StandsThere frames
  frames_stand doings.Running frames f = running_stand frames f
  frames_stand (doings.InCall method receiver arguments) frames f = listed_stand (slice_get client.listing.methods method) frames f.1
  frames_stand doings.Ended frames f = subst (AllByRecursion StandsThere) (sym f) tt

  -- ---- threads

  frame_so : (frame : Frame) → FrameValues client frame → Stands client typing frame → HoldsClientValues client frame
  frame_so frame f s =
      record { items = f.items; lock = some_of (IsValue client) frame.lock f.lock; room = has_room client typing is frame s }

  passes_so : (doing : Doing) → WaitsValues client doing → PassesClientValues client doing
  passes_so doings.Running w = tt
  passes_so (doings.InCall method receiver arguments) w = (some_of (IsValue client) receiver w.0, w.1)
  passes_so doings.Ended w = tt

  thread_so : (thread : Thread) → ThreadValues client thread → ThreadFits client typing heap thread → IsClientThread client thread
  thread_so thread t fits =
      let stand = frames_stand thread.doing thread.frames fits.frames in
      record {
        frames = all_by_place (HoldsClientValues client) thread.frames
            (λ i frame e. frame_so frame (all_get (FrameValues client) thread.frames i frame t.frames e)
            (all_get StandsThere thread.frames i frame stand e));
        passes = passes_so thread.doing t.waits;
        begins = all_so (CanBeginTyped client) (CanBegin client) thread.to_begin (begins_so client typing is) fits.to_begin;
      }

module _ (client : Program) (typing : Typing) (is : IsTypedClient client typing) where
  machine_so : (machine : Machine) → AllByRecursion (ObjectValues client) machine.heap → AllByRecursion (IsNamed client) machine.heap
      → AllByRecursion (ThreadValues client) machine.threads → MachineFits client typing machine → IsClientMachine client machine
  machine_so machine values names threads fits = record {
    objects = all_by_place (IsClientObject client) machine.heap
        (λ i o e. record {
          class = all_get (IsNamed client) machine.heap i o names e;
          target = target_is client o
              (all_get (ObjectValues client) machine.heap i o values e);
        });
    threads = all_by_place (IsClientThread client) machine.threads
        (λ i thread e. thread_so client typing is machine.heap thread (all_get (ThreadValues client) machine.threads i thread threads e)
        (all_get (ThreadFits client typing machine.heap) machine.threads i thread fits.threads e));
  }

pub machines_are_clients : RunsFit → ClientsKeepTheirMachine
machines_are_clients fit client typing is steps =
    let links = is.program.links in
    let free = names_free client links is.original in
    let lists = lists_clients client links is.original in
    let h : Holds client free lists (exec client steps) (trace client steps) = always client free lists
    (starts_so client links is.original) steps in
    machine_so client typing is (exec client steps) h.world.holds.heap h.world.names h.threads (fit client typing is.program steps)
