use Rattle.std.proofs.Common.{List, ℕ, subst}
use Rattle.std.specs.Prelude.{IfOk}
use Rattle.command_inputs.specs.declared.forms.ReadClass.{ReadClass}
use Rattle.class_codec.specs.Fits.{EncodesClass}
use Rattle.command_inputs.proofs.ToldTexts.{named_so}
use Rattle.command_inputs.proofs.named.class_of.Goals as goal

pub returns-clause-encodes : goal.returns-clause-encodes
returns-clause-encodes g c =
    named_so (λ (bytes : List ℕ) (class : ReadClass). EncodesClass bytes class.file) (g.S.Store.files c.args.store.now) c.args.name.now c.in_ok-text.text c.class_read.result c.of_name.result c.in_ok-text.ensures.text.0 c.of_name.ensures
    (subst (λ (text : List ℕ). IfOk c.class_read.result ((λ (bytes : List ℕ) (class : ReadClass). EncodesClass bytes class.file) text)) c.as_slice.ensures c.class_read.ensures.encodes)
