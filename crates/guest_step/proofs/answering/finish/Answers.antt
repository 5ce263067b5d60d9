use Rattle.std.proofs.Common.{◌≡◌, Some, true, false, refl, rules}
use Rattle.std.specs.Prelude.{option_map}
use Rattle.api_listing.specs.declared.events.Event.TheVariants as events
use Rattle.guest_model.specs.Changes.{with_heap, world_of}
use Rattle.guest_model.specs.Seen.{value_shown}
use Rattle.guest_step.specs.Rooms.{with_objects}
use Rattle.guest_step.proofs.Returned.{comes_back, returned_done, returned_none}
use Rattle.guest_step.proofs.answering.finish.Goals as goal

pub returns-then-not-return_to : goal.returns-then-not-return_to
returns-then-not-return_to c =
    let thread = c.args.thread.now in
    let came = comes_back c.args.guest.now thread c.return_to.new.thread thread.frames c.args.value c.return_to.result c.args.rooms.now.rested c.return_to.ensures.framed c.return_to.ensures.rests c.requires.returns.rested in
    let not : c.return_to.result ≡ false = grind rules in
    let none = rw not at came in (
      returned_none c.args.guest.now (with_heap (world_of c.args.machine.now) c.args.heap.now) thread c.return_to.new.thread c.args.value _ thread.frames none.0,
      refl,
      none.1,
    )

pub returns : goal.returns
returns c =
    let thread = c.args.thread.now in
    let came = comes_back c.args.guest.now thread c.return_to.new.thread thread.frames c.args.value c.return_to.result c.args.rooms.now.rested c.return_to.ensures.framed c.return_to.ensures.rests c.requires.returns.rested in
    let does : c.return_to.result ≡ true = grind rules in
    let some = rw does at came in
    rw c.shown_if_any-shown.ensures
    (returned_done c.args.guest.now (with_objects c.args.machine.now c.args.heap.now) thread c.return_to.new.thread c.args.value
    (Some (events.Return c.args.call.now.number c.args.call.now.method (option_map (value_shown c.args.guest.now c.args.heap.now) c.args.value))) thread.frames some)
