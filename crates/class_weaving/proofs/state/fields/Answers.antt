use Rattle.std.proofs.Common.{ap, length, arith}
use Rattle.offset_patch.proofs.Lists.{front_is}
use Rattle.class_weaving.proofs.Variables.{field_more}
use Rattle.class_weaving.proofs.state.fields.Goals as goal

pub loop-left-preserved : goal.loop-left-preserved
loop-left-preserved c =
    let split = front_is c.loop-left.left.now c.var-item.result c.in-len1-up.len_at_least c.var-item.is in
    let fewer = ap (λ vars. length vars) split in
    record {
      so_far = field_more c.loop-left.index c.var-item.result c.loop-left.left.now _ c.in_ok-one.one c.loop-left.fields c.push.new.self _ split c.in_ok-one.ensures c.in_ok-push.ensures.ok c.loop-left.invariant.so_far;
      count = omega (arith, c.loop-left.invariant.count, fewer);
    }
