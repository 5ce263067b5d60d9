-- Where throwing leads, frames stay in the set.
use Rattle.std.proofs.Common.{◌≡◌, ℕ, cond, List, [], ◌∷◌, length, drop, Option, Some, None, refl, sym, subst, ◌∙◌}
use Rattle.std.specs.Prelude.{◌<◌, find, nat_lt}
use Rattle.std.specs.List.{AllByRecursion}
use Rattle.std.specs.Option.{option_map_or}
use Rattle.std.proofs.lemmas.Option.{cond_some}
use Rattle.api_listing.specs.declared.events.Event.{Event}
use Rattle.bytecode_model.specs.declared.program.Handler.{Handler}
use Rattle.bytecode_model.specs.declared.program.Method.{Method}
use Rattle.bytecode_model.specs.declared.program.Program.{Program}
use Rattle.bytecode_model.specs.SearchOrder.{Name}
use Rattle.guest_heap.specs.declared.frame.Frame.{Frame}
use Rattle.guest_heap.specs.declared.thread.Thread.{Thread}
use Rattle.guest_heap.specs.declared.value.Value.{Value}
use Rattle.guest_model.specs.Places.{method_at}
use Rattle.guest_frames.specs.Stepping.{moved_to}
use Rattle.guest_model.specs.ClosedPlaces.{Places, IsClosed}
use Rattle.guest_model.specs.Parts.{thrown_thread}
use Rattle.guest_model.specs.Throwing.{catches, handler_of, caught_in, unwound}
use Rattle.guest_model.specs.Changes.{World, throws, throws_new}
use Rattle.guest_model.specs.Finding.{Given}
use Rattle.guest_model.proofs.Going.{Stands, Waits, Standing, Well, SeenWell, Good, ended_well}
use Rattle.guest_model.proofs.Catching.{caught_at}
use Rattle.guest_model.proofs.Options.{and_then_of, some_is}

module _ (program : Program) (reached : Places) (closed : IsClosed program reached) where
  abbrev Inside : Frame → Type 0
  Inside frame = Stands program reached frame

  abbrev Frames : List Frame → Type 0
  Frames frames = Standing program reached frames

  caught_stands : (thrown : Value) (class : Name) (frame f : Frame) → Inside frame → caught_in program thrown class frame ≡ Some f
      → Inside f
  caught_stands thrown class frame f stands e =
      let to : Handler → Frame = λ handler. moved_to frame handler.at frame.locals (thrown ∷ []) in
      let h = and_then_of (λ (handler : Handler). cond (nat_lt 0 frame.stack.size) (Some (to handler)) None)
      (handler_of program frame class) f e in
      let c = cond_some (nat_lt 0 frame.stack.size) (to h.0) f h.2 in
      let m = and_then_of (λ (method : Method). find (catches program frame.at class) method.handlers)
      (method_at program frame.class frame.method) h.0 h.1 in
      let l = caught_at program frame.at class m.0.handlers h.0 m.2 in
      subst Inside c.1
      (λ of there code. let same : of ≡ m.0 = some_is of m.0 (sym there ∙ m.1) in
      let has : 0 < length m.0.insns = subst (λ (x : Method). 0 < length x.insns) same code in
      closed.caught frame.class frame.method frame.at m.0 h.0 (stands m.0 m.1 has) m.1 l.0 l.1 l.2)

  dropped : (frames : List Frame) → AllByRecursion (Waits program reached) frames → AllByRecursion (Waits program reached) (drop 1 frames)
  dropped [] all = tt
  dropped (frame ∷ below) all = all.1

  caught_or : (o : Option Frame) (below others : List Frame) → ((f : Frame) → o ≡ Some f → Inside f) → AllByRecursion Inside below
      → AllByRecursion (Waits program reached) below → Frames others → Frames (option_map_or (λ (f : Frame). f ∷ below) o others)
  caught_or None below others stands stand wait later = later
  caught_or (Some f) below others stands stand wait later = record { stand = (stands f refl, stand); wait = wait }

  unwound_stand : (thrown : Value) (class : Name) (frames : List Frame) → Frames frames → Frames (unwound program thrown class frames)
  unwound_stand thrown class [] s = s
  unwound_stand thrown class (frame ∷ below) s =
      caught_or (caught_in program thrown class frame) below (unwound program thrown class below)
      (λ f e. caught_stands thrown class frame f s.stand.0 e) s.stand.1 s.wait
      (unwound_stand thrown class below (record { stand = s.stand.1; wait = dropped below s.wait }))

  thrown_well : (frames : List Frame) (to_begin : List Given) → Frames frames → Well program reached (thrown_thread frames to_begin)
  thrown_well [] to_begin s = ended_well program reached
  thrown_well (frame ∷ below) to_begin s = record { frames = s; does = tt }

  pub throws_good : (world : World) (number : ℕ) (thread : Thread) (frames : List Frame) (thrown : Value) (class : Name)
      (event : Option Event) → Frames frames → SeenWell program reached event
      → Good program reached (throws program world number thread frames thrown class event)
  throws_good world number thread frames thrown class event s seen =
      let well = thrown_well (unwound program thrown class frames) thread.to_begin (unwound_stand thrown class frames s) in
      record { well = well; begins = tt; seen = seen }

  pub throws_new_good : (world : World) (number : ℕ) (thread : Thread) (frames : List Frame) (class : Name) (event : Option Event)
      → Frames frames → SeenWell program reached event → Good program reached (throws_new program world number thread frames class event)
  throws_new_good world number thread frames class event s seen = throws_good _ number thread frames _ class event s seen
