use Rattle.std.proofs.Common.{List, ℕ, Err, subst}
use Rattle.std.proofs.lemmas.Result.{err_from_is_err_and}
use Rattle.mon_store.specs.Store.{Files}
use Rattle.command_inputs.specs.Forms.{ReadsForm}
use Rattle.command_inputs.specs.Kinds.{policy_form}
use Rattle.command_inputs.specs.Words.{NamedRace}
use Rattle.command_inputs.proofs.ReadFiles.{counted}
use Rattle.command_inputs.proofs.Reading.{race_policy_stops}
use Rattle.command_inputs.proofs.race_inputs.listed_policy.Goals as goal

pub returns-in_err-policy-clause-read : goal.returns-in_err-policy-clause-read
returns-in_err-policy-clause-read g c =
    let p = err_from_is_err_and c.from_residual-in_err-policy.result c.from_residual-in_err-policy.ensures.1 in
    let files : Files = g.S.Store.files c.args.store.now in
    let named : NamedRace = record { policy = c.args.policy.now; listing = c.args.listing.now } in
    let begun : ℕ = g.S.Store.faults c.listing_of.new.store in
    let now : ℕ = g.S.Store.faults c.policy_of.new.store in
    let last : List ℕ = g.S.Store.last c.policy_of.new.store in
    let stop = c.in_err-policy.field-0.0 in
    let form = subst (λ (fs : Files). ReadsForm fs (counted begun now last) named.policy (policy_form c.in_ok-listing.listing) (Err stop)) c.in_ok-listing.ensures.files c.in_err-policy.ensures.form in
    rw (p.1, p.2) (race_policy_stops files named (g.S.Store.faults c.args.store.now) begun now last c.in_ok-listing.ensures.faults c.in_ok-listing.listing c.in_ok-listing.ensures.form stop form)
