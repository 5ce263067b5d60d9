use Rattle.std.proofs.Common.{arith}
use Rattle.bundle_gen.proofs.Growing.{class_more, class_none}
use Rattle.bundle_gen.proofs.bundle.put_classes.Goals as goal

pub loop-left-preserved : goal.loop-left-preserved
loop-left-preserved c = record {
  so_far = class_more c.loop-left.index c.loop-left.state _ c.args.sites c.loop-left.left c.loop-left.files c.put_class.new.files _ (omega (arith, c.loop-left-test.true)) c.in_ok-state.ensures.after c.in_ok-state.ensures.is
      c.loop-left.invariant.so_far;
  count = omega (arith, c.loop-left.invariant.count, c.loop-left-test.true);
}

pub returns : goal.returns
returns c = class_none c.loop-left.index c.loop-left.state c.args.sites c.loop-left.left c.loop-left.files _ (omega (arith, c.loop-left-test.false)) c.loop-left.invariant.so_far
