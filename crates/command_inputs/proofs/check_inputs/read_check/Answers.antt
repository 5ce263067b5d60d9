use Rattle.std.proofs.Common.{List, ℕ, length, Err, subst}
use Rattle.std.proofs.lemmas.Result.{err_from_is_err_and}
use Rattle.mon_store.specs.Store.{Files}
use Rattle.command_inputs.specs.Words.{NamedCheck, check_named}
use Rattle.command_inputs.specs.Named.{ReadsBefore}
use Rattle.command_inputs.specs.Kinds.{certificate_form}
use Rattle.command_inputs.proofs.ReadFiles.{counted}
use Rattle.command_inputs.proofs.Reading.{check_stops}
use Rattle.command_inputs.proofs.check_inputs.read_check.Goals as goal

pub returns-in_err-certificate-clause-read : goal.returns-in_err-certificate-clause-read
returns-in_err-certificate-clause-read g c =
    let p = err_from_is_err_and c.from_residual-in_err-certificate.result c.from_residual-in_err-certificate.ensures.1 in
    let files : Files = g.S.Store.files c.args.store.now in
    let named : NamedCheck = check_named c.args.words.now in
    let first : ℕ = g.S.Store.faults c.args.store.now in
    let begun : ℕ = g.S.Store.faults c.listed_policy.new.store in
    let now : ℕ = g.S.Store.faults c.certified.new.store in
    let last : List ℕ = g.S.Store.last c.certified.new.store in
    let stop = c.in_err-certificate.field-0.0 in
    let inputs = c.in_ok-inputs.inputs in
    let over = subst (λ (fs : Files). ReadsBefore fs (counted begun now last) named.certificate (certificate_form (length inputs.policy.vars)) named.classes (Err stop)) c.in_ok-inputs.ensures.files
    (subst (λ (vars : ℕ). ReadsBefore (g.S.Store.files c.listed_policy.new.store) (counted begun now last) named.certificate (certificate_form vars) named.classes (Err stop)) c.len-vars.ensures c.in_err-certificate.ensures.read) in
    rw (p.1, p.2) (check_stops files named (counted first begun (g.S.Store.last c.listed_policy.new.store)) inputs c.in_ok-inputs.ensures.read first begun now last stop c.in_ok-inputs.ensures.faults over)
