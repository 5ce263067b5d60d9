use Rattle.type_infer.specs.Untyped.{AreMet}
use Rattle.type_infer.proofs.failing.rows_met.Given as goal

abbrev pub invariant-loop-at : goal.invariant-loop-at
invariant-loop-at l = AreMet l.body.program l.body.own l.body.class l.body.method l.at l.frames
