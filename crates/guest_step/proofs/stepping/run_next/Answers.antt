use Rattle.std.proofs.Common.{◌≡◌, Option, Some, None, Result, subst, sym, rules}
use Rattle.std.specs.Prelude.{slice_get}
use Rattle.api_listing.specs.declared.events.Event.{Event}
use Rattle.insn_codec.specs.Shapes.{shape_of}
use Rattle.guest_model.specs.Places.{insn_at}
use Rattle.guest_model.specs.Changes.{Change}
use Rattle.guest_model.specs.Stepping.{frames_stepped, heap_in}
use Rattle.guest_model.specs.declared.fault.StepFault.{StepFault}
use Rattle.guest_threads.specs.Acts.{ActsIn}
use Rattle.guest_step.specs.Turns.{thread_stepped}
use Rattle.guest_step.proofs.Going.{alone_acts, goes_alone, goes_heap}
use Rattle.guest_step.proofs.stepping.run_next.Goals as goal

pub returns-in-Some-heap_in : goal.returns-in-Some-heap_in
returns-in-Some-heap_in c =
    let there : slice_get c.args.thread.now.frames 0 ≡ Some c.in-Some.frame.now = grind rules in
    let next : insn_at c.args.guest.now c.in-Some.frame.now ≡ Some (c.in-Some-insn_at.insn.now, c.in-Some-insn_at.target.now) = grind rules in
    let is : heap_in (shape_of c.in-Some-insn_at.insn.now) ≡ Some c.in-Some-heap_in.what = grind rules in
    subst (λ (o : Option Change). ActsIn c.run_heap.result c.args.machine.now c.run_heap.new.machine c.args.thread.now c.run_heap.new.thread o)
    (goes_heap c.args.guest.now c.args.machine.now c.args.number c.args.thread.now c.in-Some-insn_at.insn.now c.in-Some-insn_at.target.now c.args.thread.now.frames
    c.in-Some.frame.now c.in-Some-heap_in.what there next is)
    c.run_heap.ensures

pub returns-in-None : goal.returns-in-None
returns-in-None c =
    let there : slice_get c.args.thread.now.frames 0 ≡ Some c.in-Some.frame.now = grind rules in
    let next : insn_at c.args.guest.now c.in-Some.frame.now ≡ Some (c.in-Some-insn_at.insn.now, c.in-Some-insn_at.target.now) = grind rules in
    let is : heap_in (shape_of c.in-Some-insn_at.insn.now) ≡ None = grind rules in
    let all = frames_stepped c.args.guest.now c.args.machine.now c.args.number c.args.thread.now c.args.thread.now.frames in
    subst (λ (r : Result (Option Event) StepFault). ActsIn r c.args.machine.now c.args.machine.now c.args.thread.now c.run_alone.new.thread all) (sym c.unseen.ensures)
    (alone_acts c.run_alone.result c.args.machine.now c.args.thread.now c.run_alone.new.thread (thread_stepped c.args.thread.now c.args.thread.now.frames c.in-Some-insn_at.insn.now) all
    c.run_alone.ensures
    (goes_alone c.args.guest.now c.args.machine.now c.args.number c.args.thread.now c.in-Some-insn_at.insn.now c.in-Some-insn_at.target.now c.args.thread.now.frames
    c.in-Some.frame.now there next is))
