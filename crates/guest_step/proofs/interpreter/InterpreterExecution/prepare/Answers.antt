use Rattle.std.proofs.Common.{List, refl, sym, subst, ◌∙◌}
use Rattle.guest_heap.specs.declared.object.Object.{Object}
use Rattle.guest_model.specs.declared.machine.Machine.{Machine}
use Rattle.guest_step.specs.Rooms.{IsPrepared, with_objects}
use Rattle.guest_step.proofs.interpreter.InterpreterExecution.prepare.Goals as goal

pub returns-in-Ok-clause-prepared : goal.returns-in-Ok-clause-prepared
returns-in-Ok-clause-prepared c =
    let old = c.self.inside.machine in
    let guest = c.self.inside.guest in
    let rooms = c.make_rooms.new.rooms in
    let same = c.in-Ok.ensures.heap ∙ c.take_objects-heap.ensures.heap in
    record {
      heap = c.make_place.new.heap;
      apart = refl;
      place = c.in-Ok.ensures.one;
      prepared =
          subst (λ (m : Machine). IsPrepared guest (with_objects m c.make_place.new.heap.items) c.args.thread rooms) (sym c.take_objects-heap.ensures.left)
          (subst (λ (heap : List Object). IsPrepared guest (with_objects old heap) c.args.thread rooms) (sym same)
          (subst (λ (m : Machine). IsPrepared guest m c.args.thread rooms) c.view-2.ensures c.in_ok-make_rooms.ensures));
    }
