use Rattle.std.proofs.Common.{◌≡◌, ◌∷◌, ◌-◌, List, length, take, drop, arith}
use Rattle.std.proofs.lemmas.Result.{err_from_is_err_and}
use Rattle.mon_base.proofs.Lists.{front_is}
use Rattle.mon_store.specs.declared.outputs.Output.{Output}
use Rattle.mon_store.proofs.Writing.{one_stops, one_written}
use Rattle.mon_store.proofs.outputs.write_all.Goals as goal

pub returns-in_err-write_one-clause-stands : goal.returns-in_err-write_one-clause-stands
returns-in_err-write_one-clause-stands g c =
    let p = err_from_is_err_and c.from_residual.result c.from_residual.ensures.1 in
    let left : List Output = c.loop-left.left.now in
    let output : Output = c.output-item.result in
    let later : List Output = take (length left - 1) (drop 1 left) in
    let apart : left ≡ output ∷ later = front_is left output (omega arith) c.output-item.is in
    rw (p.1, p.2) (one_stops (g.S.Store.files c.args.store.now) c.args.outputs.now left output later apart
    (g.S.Store.files c.loop-left.store) (g.S.Store.files c.write_one.new.store) c.loop-left.invariant.stands c.in_err-write_one.field-0.0 c.in_err-write_one.ensures.stands)

pub loop-left-preserved : goal.loop-left-preserved
loop-left-preserved g c =
    let left : List Output = c.loop-left.left.now in
    let output : Output = c.output-item.result in
    let later : List Output = take (length left - 1) (drop 1 left) in
    let apart : left ≡ output ∷ later = front_is left output (omega arith) c.output-item.is in
    record {
      stands = one_written (g.S.Store.files c.args.store.now) c.args.outputs.now left output later apart
          (g.S.Store.files c.loop-left.store) (g.S.Store.files c.write_one.new.store) c.loop-left.invariant.stands c.in_ok-write_one.ensures.stands;
      faults = omega (arith, c.write_one.ensures.faults, c.loop-left.invariant.faults);
    }
