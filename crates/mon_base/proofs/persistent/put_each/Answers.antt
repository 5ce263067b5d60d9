use Rattle.std.proofs.Common.{subst, sym}
use Rattle.mon_base.specs.Persistent.{PutsEach}
use Rattle.mon_base.proofs.Lists.{front_at}
use Rattle.mon_base.proofs.Putting.{puts_more}
use Rattle.mon_base.proofs.persistent.put_each.Goals as goal

pub loop-left-preserved : goal.loop-left-preserved
loop-left-preserved c =
    let now = c.loop-left.nodes in
    let root = c.loop-left.root in
    let split = front_at c.loop-left.left.now 0 c.in-len1-up.len_at_least in
    record {
      keeps = λ place halves there. c.in_ok-root.ensures.keeps place halves (c.loop-left.invariant.keeps place halves there);
      puts = λ new result others.
          c.loop-left.invariant.puts new result
          (subst (λ ls. PutsEach now new c.args.depth root ls c.args.item result) (sym split)
          (puts_more now c.put.new.nodes new c.args.depth root c.in_ok-root.root result _ c.args.item _ c.in_ok-root.ensures.puts others));
    }
