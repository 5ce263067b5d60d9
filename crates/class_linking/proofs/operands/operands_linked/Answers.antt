use Rattle.std.proofs.Common.{arith}
use Rattle.std.proofs.lemmas.Result.{err_from_is_err_and}
use Rattle.class_linking.specs.Operands.{operand_at}
use Rattle.mon_base.proofs.Lists.{front_is}
use Rattle.bytecode_model.proofs.Lists.{rest_length, none_left}
use Rattle.class_linking.proofs.Loop.{goes_on, ends, is_done}
use Rattle.class_linking.proofs.operands.operands_linked.Goals as goal

pub loop-left-preserved : goal.loop-left-preserved
loop-left-preserved c =
    let split = front_is c.loop-left.left.now c.insn-item.result c.in-len1-up.len_at_least c.insn-item.is in
    let one = operand_at c.args.index.now.files c.args.index.now.listing c.args.class.now c.args.pool.now c.args.method in
    record {
      so_far = rw c.in_ok-push.ensures.items (goes_on one c.loop-left.targets.items _ _ _ c.in_ok-target.target c.loop-left.at _ split c.in_ok-target.ensures.answers c.loop-left.invariant.so_far);
      count = omega (arith, rest_length c.loop-left.left.now _ _ split);
      known = c.in_ok-target.ensures.known;
    }

pub returns-in_err-target-clause-answers : goal.returns-in_err-target-clause-answers
returns-in_err-target-clause-answers c =
    let split = front_is c.loop-left.left.now c.insn-item.result c.in-len1-up.len_at_least c.insn-item.is in
    let one = operand_at c.args.index.now.files c.args.index.now.listing c.args.class.now c.args.pool.now c.args.method in
    let p = err_from_is_err_and c.from_residual-in_err-target.result c.from_residual-in_err-target.ensures.1 in
    rw (p.1, p.2) (ends one c.in_err-target.field-0.0 c.loop-left.targets.items _ _ _ c.loop-left.at _ split c.in_err-target.ensures.answers c.loop-left.invariant.so_far)

pub returns-clause-answers : goal.returns-clause-answers
returns-clause-answers c =
    let one = operand_at c.args.index.now.files c.args.index.now.listing c.args.class.now c.args.pool.now c.args.method in
    rw c.from_vec.ensures (is_done one c.loop-left.targets.items c.loop-left.left.now c.loop-left.at _ (none_left c.loop-left.left.now c.in_default.len_below) c.loop-left.invariant.so_far)
