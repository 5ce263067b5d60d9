use Rattle.std.proofs.Common.{◌≡◌, List, subst, arith, ◌∙◌}
use Rattle.std.proofs.lemmas.Option.{get_or_from_slice_get}
use Rattle.guest_heap.specs.declared.object.Object.{Object}
use Rattle.guest_heap.specs.declared.thread.Thread.{Thread}
use Rattle.guest_model.specs.Changes.{world_of}
use Rattle.guest_step.specs.Rooms.{IsReadyFor, ShowsAtMost}
use Rattle.guest_step.specs.declared.rooms.Rooms.{Rooms}
use Rattle.guest_step.proofs.Sufficing.{suffices}
use Rattle.guest_step.proofs.making_room.make_rooms.Goals as goal

pub returns : goal.returns
returns c thread there =
    let rooms : Rooms = record { object = c.reserve.new.self; event = c.reserve-2.new.self; rested = c.in_ok-rooms.field-0 } in
    let here = c.in-Some.thread.now in
    let threads = rw c.threads.ensures at c.in-Some.ensures.lookup in
    let same : here ≡ thread = (threads.3.1 thread) ∙ get_or_from_slice_get c.args.machine.now.threads c.args.number thread thread there in
    let shows = subst (λ (heap : List Object). ShowsAtMost c.args.guest.now heap here.doing c.most_shown.result) (c.as_slice.ensures ∙ c.heap.ensures) c.most_shown.ensures.most in
    let enough = c.in_ok-reserve.ensures.ok in
    let enough_shown = c.in_ok-reserve-2.ensures.ok in
    subst (λ (t : Thread). IsReadyFor c.args.guest.now (world_of c.args.machine.now) t t.doing rooms) same
    (record {
      returns = record { stands = c.in_ok-rooms.ensures.0; rested = c.in_ok-rooms.ensures.1 };
      suffice =
          suffices c.answers_are_permitted.ensures.rows c.args.guest.now (world_of c.args.machine.now) here.doing rooms (omega arith) (omega arith)
          c.most_shown.result (omega arith) (omega arith) shows (omega arith);
    })
