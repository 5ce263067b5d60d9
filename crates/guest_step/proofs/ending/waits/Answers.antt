use Rattle.std.proofs.Common.{◌≡◌, Some, None, sym, rules, ◌∙◌}
use Rattle.std.specs.Prelude.{slice_get}
use Rattle.insn_codec.specs.Shapes.{shape_of}
use Rattle.guest_model.specs.Places.{insn_at}
use Rattle.guest_model.specs.Stepping.{heap_in}
use Rattle.guest_step.proofs.NextWaits.{next_waits}
use Rattle.guest_step.proofs.ending.waits.Goals as goal

pub returns-in-Some-heap_in : goal.returns-in-Some-heap_in
returns-in-Some-heap_in c =
    let there : slice_get c.args.frames.now 0 ≡ Some c.in-Some.frame.now = grind rules in
    let next : insn_at c.args.guest.now c.in-Some.frame.now ≡ Some (c.in-Some-insn_at.insn.now, c.in-Some-insn_at.target.now) = grind rules in
    let is : heap_in (shape_of c.in-Some-insn_at.insn.now) ≡ Some c.in-Some-heap_in.what = grind rules in
    c.heap_waits.ensures
    ∙ sym (next_waits c.args.guest.now c.args.machine.now c.args.number c.args.frames.now c.in-Some.frame.now c.in-Some-insn_at.insn.now
    c.in-Some-insn_at.target.now (Some c.in-Some-heap_in.what) there next is)

pub returns-in-None : goal.returns-in-None
returns-in-None c =
    let there : slice_get c.args.frames.now 0 ≡ Some c.in-Some.frame.now = grind rules in
    let next : insn_at c.args.guest.now c.in-Some.frame.now ≡ Some (c.in-Some-insn_at.insn.now, c.in-Some-insn_at.target.now) = grind rules in
    let is : heap_in (shape_of c.in-Some-insn_at.insn.now) ≡ None = grind rules in
    sym (next_waits c.args.guest.now c.args.machine.now c.args.number c.args.frames.now c.in-Some.frame.now c.in-Some-insn_at.insn.now
    c.in-Some-insn_at.target.now None there next is)
