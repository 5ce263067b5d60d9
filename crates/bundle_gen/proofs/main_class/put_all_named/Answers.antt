use Rattle.std.proofs.Common.{arith}
use Rattle.bundle_gen.proofs.Growing.{named_more, named_none}
use Rattle.bundle_gen.proofs.main_class.put_all_named.Goals as goal

pub loop-left-preserved : goal.loop-left-preserved
loop-left-preserved c = record {
  so_far = named_more c.loop-left.index c.loop-left.left c.loop-left.pool c.put_named.new.pool _ (omega (arith, c.loop-left-test.true)) c.in_ok-put_named.ensures c.loop-left.invariant.so_far;
  count = omega (arith, c.loop-left.invariant.count, c.loop-left-test.true);
}

pub returns : goal.returns
returns c = named_none c.loop-left.index c.loop-left.left c.loop-left.pool _ (omega (arith, c.loop-left-test.false)) c.loop-left.invariant.so_far
