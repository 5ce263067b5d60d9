use Rattle.std.proofs.Common.{◌∙◌}
use Rattle.bytecode_model.proofs.CopiedItems.{one_more_copied}
use Rattle.bytecode_model.proofs.copying.copy_insns.Goals as goal

pub loop-insn-preserved : goal.loop-insn-preserved
loop-insn-preserved c =
    one_more_copied c.args.insns.now c.loop-insn.copy c.push.new.self c.loop-insn.insn-index c.insn-item.result c.in_ok-one.one
    c.loop-insn-test.true c.loop-insn.invariant (c.in_ok-one.ensures ∙ c.insn-item.is) c.in_ok-push.ensures.ok
