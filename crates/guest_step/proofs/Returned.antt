-- A thread that returns to its caller, or rests where it has none.
use Rattle.std.proofs.Common.{◌≡◌, ◌<◌, ◌++◌, Bool, true, false, List, [], ◌∷◌, length, Option, Some, None, refl, sym, ap, arith}
use Rattle.std.specs.Prelude.{IsSomeAnd, option_map}
use Rattle.std.specs.Option.{option_to_list}
use Rattle.api_listing.specs.declared.events.Event.{Event}
use Rattle.bytecode_model.specs.declared.program.Program.{Program}
use Rattle.guest_frames.specs.Became.{Became}
use Rattle.guest_frames.specs.Stepping.{after}
use Rattle.guest_heap.specs.declared.frame.Frame.{Frame}
use Rattle.guest_heap.specs.declared.thread.Thread.{Thread}
use Rattle.guest_heap.specs.declared.value.Value.{Value}
use Rattle.guest_model.specs.declared.machine.Machine.{Machine}
use Rattle.guest_model.specs.Changes.{Change, World, goes, rests, returned, with_event, world_of}
use Rattle.guest_model.specs.Parts.{running}
use Rattle.guest_threads.specs.Acts.{IsDone, thread_returned}

pub comes_back : (program : Program) (thread new : Thread) (frames : List Frame) (value : Option Value) (result : Bool) (rested : Option Thread)
    → (0 < length frames → (p : Program) → Became result thread new (thread_returned p thread frames value))
    → ((next : Thread) → frames ≡ [] → rested ≡ Some next → (result ≡ true) × (new ≡ next))
    → (frames ≡ [] → rested ≡ Some (rests program thread.to_begin)) → Became result thread new (thread_returned program thread frames value)
comes_back program thread new (frame ∷ frames) value result rested framed empty ready = framed (omega arith) program
comes_back program thread new [] value true rested framed empty ready =
    let done = empty (rests program thread.to_begin) refl (ready refl) in ap Some (sym done.1)
comes_back program thread new [] value false rested framed empty ready =
    let done = empty (rests program thread.to_begin) refl (ready refl) in absurd cc

module _ (program : Program) (world : World) (thread new : Thread) (value : Option Value) (event : Option Event) where
  -- what the step changes where the thread is this one then
  abbrev changes : Change
  changes = record { world = world; thread = new; begins = None; stops = None; event = event }

  from_frame : (o : Option Frame) (below : List Frame) → option_map (λ (f : Frame). running (f ∷ below) thread.to_begin) o ≡ Some new
      → option_map (λ (f : Frame). with_event (goes world thread (f ∷ below)) event) o ≡ Some changes
  from_frame None below is = absurd cc
  from_frame (Some f) below is =
      let same : running (f ∷ below) thread.to_begin ≡ new = cc in
      ap (λ (t : Thread). Some (record { world = world; thread = t; begins = None; stops = None; event = event })) same

  pub returned_some : (frames : List Frame) → thread_returned program thread frames value ≡ Some new → returned program world thread frames value event ≡ Some changes
  returned_some [] is =
      let same : rests program thread.to_begin ≡ new = cc in
      ap (λ (t : Thread). Some (record { world = world; thread = t; begins = None; stops = None; event = event })) same
  returned_some (caller ∷ below) is = from_frame (after caller (option_to_list value ++ caller.stack.items)) below is

  no_frame : (o : Option Frame) (below : List Frame) → option_map (λ (f : Frame). running (f ∷ below) thread.to_begin) o ≡ None
      → option_map (λ (f : Frame). with_event (goes world thread (f ∷ below)) event) o ≡ None
  no_frame None below is = refl
  no_frame (Some f) below is = absurd cc

  pub returned_none : (frames : List Frame) → thread_returned program thread frames value ≡ None → returned program world thread frames value event ≡ None
  returned_none [] is = absurd cc
  returned_none (caller ∷ below) is = no_frame (after caller (option_to_list value ++ caller.stack.items)) below is

pub returned_done : (program : Program) (machine : Machine) (thread new : Thread) (value : Option Value) (event : Option Event) (frames : List Frame)
    → thread_returned program thread frames value ≡ Some new
    → IsSomeAnd (returned program (world_of machine) thread frames value event) (λ (change : Change). IsDone change machine machine new event)
returned_done program machine thread new value event frames is =
    rw (returned_some program (world_of machine) thread new value event frames is) (record { world = refl; thread = refl; begins = refl; stops = refl; event_is = refl })
