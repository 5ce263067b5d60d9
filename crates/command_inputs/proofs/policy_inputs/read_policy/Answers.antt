use Rattle.std.proofs.Common.{List, ℕ, Result, subst}
use Rattle.mon_store.specs.Store.{Files}
use Rattle.command_inputs.specs.declared.files.Stop.{Stop}
use Rattle.command_inputs.specs.declared.policy_inputs.PolicyInputs.{PolicyInputs}
use Rattle.command_inputs.specs.Forms.{Yields, ReadsForm, Then}
use Rattle.command_inputs.specs.Kinds.{policy_form, record_form}
use Rattle.command_inputs.specs.Words.{NamedPolicy, policy_named}
use Rattle.command_inputs.proofs.ReadFiles.{counted}
use Rattle.command_inputs.proofs.Reading.{run_read_over}
use Rattle.command_inputs.proofs.policy_inputs.read_policy.Goals as goal

pub returns-clause-read : goal.returns-clause-read
returns-clause-read g c =
    let files : Files = g.S.Store.files c.args.store.now in
    let named : NamedPolicy = policy_named c.args.words.now in
    let begun : ℕ = g.S.Store.faults c.listing_of.new.store in
    let now : ℕ = g.S.Store.faults c.read_over.new.store in
    let last : List ℕ = g.S.Store.last c.read_over.new.store in
    let listing = c.in_ok-listing.listing in
    let result : Result PolicyInputs Stop = c.read_over.result in
    let read = subst (λ (fs : Files). Then {B = PolicyInputs} (ReadsForm fs (counted begun now last) named.policy (policy_form listing)) (λ policy. Then (ReadsForm fs (counted begun now last) named.recorded (record_form listing)) (λ recorded. Yields (record { policy = policy; recorded = recorded }))) result) c.in_ok-listing.ensures.files c.read_over.ensures.read in
    run_read_over files named (g.S.Store.faults c.args.store.now) begun now last c.in_ok-listing.ensures.faults listing c.in_ok-listing.ensures.form result read
