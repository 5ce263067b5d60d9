use Rattle.std.proofs.Common.{List, ℕ, subst}
use Rattle.std.specs.Prelude.{IfOk}
use Rattle.cert_format.specs.declared.certificate.Certificate.{Certificate}
use Rattle.cert_format.specs.Fits.{EncodesCertificate}
use Rattle.command_inputs.proofs.ToldTexts.{named_so}
use Rattle.command_inputs.proofs.named.certificate_of.Goals as goal

pub returns-clause-encodes : goal.returns-clause-encodes
returns-clause-encodes g c =
    named_so (λ (bytes : List ℕ) (certificate : Certificate). EncodesCertificate bytes c.args.vars certificate) (g.S.Store.files c.args.store.now) c.args.name.now c.in_ok-text.text c.certificate_read.result c.of_name.result c.in_ok-text.ensures.text.0 c.of_name.ensures
    (subst (λ (text : List ℕ). IfOk c.certificate_read.result ((λ (bytes : List ℕ) (certificate : Certificate). EncodesCertificate bytes c.args.vars certificate) text)) c.as_slice.ensures c.certificate_read.ensures.encodes)
