use Rattle.std.proofs.Common.{take}
use Rattle.type_infer.specs.Sending.{HasEach, SendsTo}
use Rattle.type_infer.specs.Solving.{IsReady}
use Rattle.type_infer.proofs.sending.send_all.Given as goal

abbrev pub invariant-loop-to : goal.invariant-loop-to
invariant-loop-to l = record {
  each : HasEach l.body l.worklist;
  sends : IsReady l.body → SendsTo l.body l.place (take l.to-index l.targets) l.fn.worklist l.worklist;
}
