use Rattle.std.proofs.Common.{List, ℕ, Err, subst}
use Rattle.std.proofs.lemmas.Result.{err_from_is_err_and}
use Rattle.mon_store.specs.Store.{Files}
use Rattle.command_inputs.specs.Forms.{ReadsForm}
use Rattle.command_inputs.specs.Kinds.{record_form}
use Rattle.command_inputs.specs.Words.{NamedPolicy, policy_named}
use Rattle.command_inputs.proofs.ReadFiles.{counted}
use Rattle.command_inputs.proofs.Reading.{recorded_stops}
use Rattle.command_inputs.proofs.policy_inputs.read_over.Goals as goal

pub returns-in_err-recorded-clause-read : goal.returns-in_err-recorded-clause-read
returns-in_err-recorded-clause-read g c =
    let p = err_from_is_err_and c.from_residual-in_err-recorded.result c.from_residual-in_err-recorded.ensures.1 in
    let files : Files = g.S.Store.files c.args.store.now in
    let named : NamedPolicy = policy_named c.args.words.now in
    let begun : ℕ = g.S.Store.faults c.policy_of.new.store in
    let now : ℕ = g.S.Store.faults c.record_of.new.store in
    let last : List ℕ = g.S.Store.last c.record_of.new.store in
    let listing = c.args.listing.now in
    let stop = c.in_err-recorded.field-0.0 in
    let form = subst (λ (fs : Files). ReadsForm fs (counted begun now last) named.recorded (record_form listing) (Err stop)) c.in_ok-policy.ensures.files c.in_err-recorded.ensures.form in
    rw (p.1, p.2) (recorded_stops files named (g.S.Store.faults c.args.store.now) begun now last c.in_ok-policy.ensures.faults listing c.in_ok-policy.policy c.in_ok-policy.ensures.form stop form)
