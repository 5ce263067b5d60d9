use Rattle.std.proofs.Common.{refl}
use Rattle.guest_model.specs.Changes.{with_heap, world_of}
use Rattle.guest_step.proofs.answering.take_apart.Goals as goal

pub take-requires-clause-room : goal.take-requires-clause-room
take-requires-clause-room c =
    rw c.in_ok-make_room.ensures.heap (c.in_ok-make_room.ensures.room (with_heap (world_of c.args.machine.now) c.args.heap.now.items) refl)
