use Rattle.guest_frames.proofs.Frames.{goes, stays}
use Rattle.guest_frames.proofs.step.local_step.Goals as goal

-- src/step.rt:15:1
pub returns-then-is_made : goal.returns-then-is_made
returns-then-is_made c =
    goes c.args.frame.now c.args.insn.now c.shape_of.result c.next_of-next.result c.effect-is_made.new.locals c.effect-is_made.new.stack
    c.shape_of.ensures c.next_of-next.ensures.next c.effect-is_made.result c.if-is_made.true c.effect-is_made.ensures

-- src/step.rt:15:1
pub returns-else-is_made : goal.returns-else-is_made
returns-else-is_made c =
    stays c.args.frame.now c.args.insn.now c.shape_of.result c.next_of-next.result c.effect-is_made.new.locals c.effect-is_made.new.stack
    c.shape_of.ensures c.next_of-next.ensures.next c.effect-is_made.result c.if-is_made.false c.effect-is_made.ensures
