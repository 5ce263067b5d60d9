use Rattle.std.proofs.Common.{◌<◌, length, sym, ◌∙◌, arith}
use Rattle.bytecode_model.specs.Typed.{row_in}
use Rattle.code_typing.proofs.Faults.{row_more, row_found}
use Rattle.code_typing.proofs.typing.method_fault.Goals as goal

pub returns-in-Some : goal.returns-in-Some
returns-in-Some c =
    let row = row_in c.args.program.now c.args.own c.args.class.now c.args.method.now c.args.frames.now in
    let less : c.loop-at.at < length c.args.method.now.insns = omega (arith, c.loop-at-test.true, c.len-at-end.ensures) in
    sym (row_found row c.args.own c.args.index (length c.args.method.now.insns) c.loop-at.at c.in-Some.rule less (sym c.in-Some.ensures)) ∙ c.loop-at.invariant

pub loop-at-preserved : goal.loop-at-preserved
loop-at-preserved c =
    let row = row_in c.args.program.now c.args.own c.args.class.now c.args.method.now c.args.frames.now in
    let less : c.loop-at.at < length c.args.method.now.insns = omega (arith, c.loop-at-test.true, c.len-at-end.ensures) in
    sym (row_more row c.args.own c.args.index (length c.args.method.now.insns) c.loop-at.at less (sym c.in_default.ensures)) ∙ c.loop-at.invariant
