use Rattle.std.proofs.Common.{arith}
use Rattle.bundle_gen.proofs.Growing.{begun_more, begun_none}
use Rattle.bundle_gen.proofs.main_class.put_all_begun.Goals as goal

pub loop-left-preserved : goal.loop-left-preserved
loop-left-preserved c = record {
  so_far = begun_more c.loop-left.index c.loop-left.left c.loop-left.code c.put_begun.new.code _ (omega (arith, c.loop-left-test.true)) c.in_ok-put_begun.ensures c.loop-left.invariant.so_far;
  count = omega (arith, c.loop-left.invariant.count, c.loop-left-test.true);
}

pub returns : goal.returns
returns c = begun_none c.loop-left.index c.loop-left.left c.loop-left.code _ (omega (arith, c.loop-left-test.false)) c.loop-left.invariant.so_far
