use Rattle.std.proofs.Common.{◌≡◌, length}
use Rattle.bytecode_model.specs.Rules.{Frames}
use Rattle.type_infer.specs.Solving.{Holds, IsMetBy}
use Rattle.type_infer.proofs.solving.solve.Given as goal

abbrev pub invariant-loop : goal.invariant-loop
invariant-loop l = record {
  frames : length l.worklist.frames ≡ length l.body.method.insns;
  marks : length l.worklist.marks ≡ length l.body.method.insns;
  holds : (above : Frames) → IsMetBy l.body l.limit above → Holds l.body l.limit above l.worklist;
}
