use Rattle.std.proofs.Common.{List, ℕ, Err, subst}
use Rattle.std.proofs.lemmas.Result.{err_from_is_err_and}
use Rattle.mon_store.specs.Store.{Files}
use Rattle.command_inputs.specs.Named.{ReadsClasses}
use Rattle.command_inputs.specs.Kinds.{record_form}
use Rattle.command_inputs.proofs.ReadFiles.{counted}
use Rattle.command_inputs.proofs.Reading.{after_stops}
use Rattle.command_inputs.proofs.replay_inputs.recorded_classes.Goals as goal

pub returns-in_err-classes-clause-read : goal.returns-in_err-classes-clause-read
returns-in_err-classes-clause-read g c =
    let p = err_from_is_err_and c.from_residual-in_err-classes.result c.from_residual-in_err-classes.ensures.1 in
    let files : Files = g.S.Store.files c.args.store.now in
    let begun : ℕ = g.S.Store.faults c.record_of.new.store in
    let now : ℕ = g.S.Store.faults c.classes_of.new.store in
    let last : List ℕ = g.S.Store.last c.classes_of.new.store in
    let stop = c.in_err-classes.field-0.0 in
    let reads = subst (λ (fs : Files). ReadsClasses fs (counted begun now last) c.args.classes.now (Err stop)) c.in_ok-recorded.ensures.files c.in_err-classes.ensures.read in
    rw (p.1, p.2) (after_stops files (record_form c.args.listing.now) c.args.recorded.now c.args.classes.now (g.S.Store.faults c.args.store.now) begun now last stop c.in_ok-recorded.ensures.faults c.in_ok-recorded.recorded c.in_ok-recorded.ensures.form reads)
