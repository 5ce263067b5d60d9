use Rattle.bytecode_model.proofs.Lists.{none_left}
use Rattle.class_text.proofs.Insns.{lines_done}
use Rattle.class_text.proofs.printing.push_insns_at.Goals as goal

pub returns : goal.returns
returns c =
    lines_done c.args.library.now c.args.pool.now c.loop-left.index c.loop-left.places.now c.loop-left.left.now _ _
    (none_left c.loop-left.left.now c.in_default.len_below) c.loop-left.invariant.so_far
