use Rattle.bytecode_model.specs.Sound.{IsSoundClass}
use Rattle.offset_patch.proofs.Lists.{each_fits, front_is}
use Rattle.class_weaving.specs.Woven.{class_woven}
use Rattle.class_weaving.proofs.Folding.{folded_on}
use Rattle.class_weaving.proofs.weaving.classes_woven.Goals as goal

pub loop-left-preserved : goal.loop-left-preserved
loop-left-preserved g c =
    let split = front_is c.loop-left.left.now c.class-item.result c.in-len1-up.len_at_least c.class-item.is in
    record {
      so_far = folded_on (class_woven (g.P.Planner.plan c.args.planner.now) c.args.state) c.loop-left.woven c.class_woven.new.woven c.loop-left.left.now _ c.class-item.result _ split c.in_ok-class_woven.ensures c.loop-left.invariant.so_far;
      sound = (each_fits IsSoundClass c.loop-left.left.now c.class-item.result _ split c.loop-left.invariant.sound).1;
    }
