use Rattle.std.proofs.Common.{◌⊎◌, length}
use Rattle.std.specs.Prelude.{Contains, IsTrue}
use Rattle.bytecode_model.specs.declared.program.Handler.{Handler}
use Rattle.bytecode_model.specs.Rules.{covers}
use Rattle.type_infer.specs.Sending.{HasEach}
use Rattle.type_infer.specs.Solving.{IsReady, Grows, IsSent, StaysFound, thrown_to}
use Rattle.type_infer.proofs.sending.throw_to_handlers.Given as goal

abbrev pub invariant-loop-handler : goal.invariant-loop-handler
invariant-loop-handler l = record {
  each : HasEach l.body l.worklist;
  among : (handler : Handler) → Contains l.near handler → Contains l.body.method.handlers handler;
  grows : IsReady l.body → Grows l.body.program l.fn.worklist l.worklist;
  found : IsReady l.body → StaysFound l.body l.place.at l.fn.worklist l.worklist;
  sent : IsReady l.body → (handler : Handler) → Contains l.body.method.handlers handler → IsTrue (covers l.place.at handler)
      → Contains l.near handler ⊎ IsSent l.body l.place.at handler.at (thrown_to handler) l.fn.worklist l.worklist;
}

abbrev pub decreases-loop-handler : goal.decreases-loop-handler
decreases-loop-handler l = length l.near
