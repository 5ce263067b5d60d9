use Rattle.std.proofs.Common.{◌+◌, ◌≤◌, length, ap, arith}
use Rattle.insn_codec.specs.Forms.{depth_of, order_of}
use Rattle.guest_frames.proofs.Forms.{AreTop, formed}
use Rattle.guest_frames.proofs.operands.moved.Goals as goal

pub returns : goal.returns
returns c =
    let stack = c.args.stack.now in
    let form = c.args.form in
    let top : AreTop stack.items c.at_depth.result c.at_depth-2.result c.at_depth-3.result c.at_depth-4.result = record {
      first = c.at_depth.ensures;
      second = c.at_depth-2.ensures;
      third = c.at_depth-3.ensures;
      fourth = c.at_depth-4.ensures;
    } in
    let enough : depth_of form ≤ length stack.items = omega (arith, c.if-count-depth.false, c.depth_of-depth.ensures, c.len-count.ensures.count) in
    let room : length stack.items + length (order_of form) ≤ stack.size + depth_of form =
    omega (arith, c.if-size-depth.false, c.size.ensures, c.len-count.ensures.count, c.depth_of-depth.ensures, ap length c.order_of-order.ensures.order) in
    rw c.put_back.ensures (rw c.order_of-order.ensures.order (rw c.drop_top.ensures.left (rw c.depth_of-depth.ensures (
    formed form stack c.at_depth.result c.at_depth-2.result c.at_depth-3.result c.at_depth-4.result top enough room))))
