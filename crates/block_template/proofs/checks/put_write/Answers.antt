use Rattle.std.proofs.Common.{arith, ap, length, subst}
use Rattle.std.specs.List.{AllByRecursion}
use Rattle.mon_base.proofs.Lists.{front_is}
use Rattle.block_template.specs.declared.item.Role.TheVariants as roles
use Rattle.block_template.specs.declared.steps.Step.{Step}
use Rattle.block_template.specs.Pushing.{bools_in}
use Rattle.block_template.specs.Room.{ActHasLocal}
use Rattle.block_template.proofs.StepsLaid.{laid_more}
use Rattle.block_template.proofs.checks.put_write.Goals as goal

pub loop-left-preserved : goal.loop-left-preserved
loop-left-preserved c =
    let split = front_is c.loop-left.left.now c.step-item.result c.in-len1-up.len_at_least c.step-item.is in
    record {
      so_far =
          laid_more (bools_in c.args.vars.now) 0 0 (roles.Update c.args.phase c.args.branch c.args.update) c.loop-left.done
          c.step-item.result c.loop-left.left.now _ c.act_insn.result c.loop-left.items c.put.new.items _ split c.act_insn.ensures
          c.in_ok-put.ensures c.loop-left.invariant.so_far;
      count = omega (arith, c.loop-left.invariant.count, ap length split);
      locals = (subst (λ xs. AllByRecursion (λ (s : Step). ActHasLocal 0 s.act) xs) split c.loop-left.invariant.locals).1;
    }
