use Rattle.std.proofs.Common.{◌-◌, length, sym, ap, arith}
use Rattle.frame_types.proofs.Describing.{types_some, types_end, types_over}
use Rattle.frame_types.proofs.described.arity.Goals as goal

pub loop-preserved : goal.loop-preserved
loop-preserved c =
    let step = types_some 255 c.loop.counter c.loop.left.now _ c.loop-test.true (sym c.in-Some.ensures) in
    (omega (arith, ap length step, c.loop.invariant.0), omega (arith, c.loop.invariant.1))

pub returns-in_default-clause-value : goal.returns-in_default-clause-value
returns-in_default-clause-value c = omega (arith, ap length (types_end (255 - c.loop.counter) c.loop.left.now (sym c.in_default.ensures)), c.loop.invariant.0)

pub returns-clause-value : goal.returns-clause-value
returns-clause-value c = omega (arith, ap length (types_over 255 c.loop.counter c.loop.left.now c.loop-test.false), c.loop.invariant.0)
