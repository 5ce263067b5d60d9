use Rattle.std.proofs.Common.{List, ℕ, Err, subst}
use Rattle.std.proofs.lemmas.Result.{err_from_is_err_and}
use Rattle.mon_store.specs.Store.{Files}
use Rattle.command_inputs.specs.LiftWords.{NamedLift, lift_named}
use Rattle.command_inputs.specs.Named.{ReadsBefore}
use Rattle.command_inputs.specs.Kinds.{record_form}
use Rattle.command_inputs.proofs.ReadFiles.{counted}
use Rattle.command_inputs.proofs.Reading.{lift_stops}
use Rattle.command_inputs.proofs.lift_inputs.read_lift.Goals as goal

pub returns-in_err-recorded-clause-read : goal.returns-in_err-recorded-clause-read
returns-in_err-recorded-clause-read g c =
    let p = err_from_is_err_and c.from_residual-in_err-recorded.result c.from_residual-in_err-recorded.ensures.1 in
    let files : Files = g.S.Store.files c.args.store.now in
    let named : NamedLift = lift_named c.args.words.now in
    let first : ℕ = g.S.Store.faults c.args.store.now in
    let begun : ℕ = g.S.Store.faults c.listed_policy.new.store in
    let now : ℕ = g.S.Store.faults c.recorded_classes.new.store in
    let last : List ℕ = g.S.Store.last c.recorded_classes.new.store in
    let stop = c.in_err-recorded.field-0.0 in
    let inputs = c.in_ok-inputs.inputs in
    let over = subst (λ (fs : Files). ReadsBefore fs (counted begun now last) named.recorded (record_form inputs.listing) named.classes (Err stop)) c.in_ok-inputs.ensures.files c.in_err-recorded.ensures.read in
    rw (p.1, p.2) (lift_stops files named (counted first begun (g.S.Store.last c.listed_policy.new.store)) inputs c.in_ok-inputs.ensures.read first begun now last stop c.in_ok-inputs.ensures.faults over)
