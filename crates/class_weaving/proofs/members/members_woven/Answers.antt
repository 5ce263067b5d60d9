use Rattle.std.proofs.Common.{ap, length, arith}
use Rattle.offset_patch.proofs.Lists.{front_is}
use Rattle.class_weaving.specs.Woven.{member_woven}
use Rattle.class_weaving.proofs.Folding.{folded_on}
use Rattle.class_weaving.proofs.members.members_woven.Goals as goal

pub loop-left-preserved : goal.loop-left-preserved
loop-left-preserved g c =
    let split = front_is c.loop-left.left.now c.member-item.result c.in-len1-up.len_at_least c.member-item.is in
    let fewer = ap (λ members. length members) split in
    record {
      so_far = folded_on (member_woven (g.P.Planner.plan c.args.planner.now) c.args.state c.args.class.now) c.loop-left.made c.member_woven.new.made c.loop-left.left.now _ c.member-item.result _ split c.in_ok-member_woven.ensures.is c.loop-left.invariant.so_far;
      count = omega (arith, c.loop-left.invariant.count, c.in_ok-member_woven.ensures.count, fewer);
      pool = c.in_ok-member_woven.ensures.pool;
    }
