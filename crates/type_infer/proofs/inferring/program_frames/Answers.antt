use Rattle.std.proofs.Common.{[], subst, append-nil, arith}
use Rattle.type_infer.specs.Solving.{ClassesAreSolved}
use Rattle.type_infer.proofs.Firsts.{no_classes}
use Rattle.type_infer.proofs.inferring.program_frames.Goals as goal

pub returns-clause-solved : goal.returns-clause-solved
returns-clause-solved c =
    let program = c.args.program.now in
    let all = c.loop-left.invariant.solved [] (no_classes program c.loop-left.own c.loop-left.left.now [] (omega arith)) in
    subst (ClassesAreSolved program 0 program.classes) (append-nil c.loop-left.frames) all
