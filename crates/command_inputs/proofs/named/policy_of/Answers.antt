use Rattle.std.proofs.Common.{List, ℕ, subst}
use Rattle.std.specs.Prelude.{IfOk}
use Rattle.conspec_tree.specs.declared.types.PolicyTree.{PolicyTree}
use Rattle.conspec_parse.specs.Meaning.{EncodesPolicy}
use Rattle.command_inputs.proofs.ToldTexts.{named_so}
use Rattle.command_inputs.proofs.named.policy_of.Goals as goal

pub returns-clause-encodes : goal.returns-clause-encodes
returns-clause-encodes g c =
    named_so (λ (text : List ℕ) (tree : PolicyTree). EncodesPolicy text c.args.listing.now tree) (g.S.Store.files c.args.store.now) c.args.name.now c.in_ok-text.text c.policy_read.result c.of_name.result c.in_ok-text.ensures.text.0 c.of_name.ensures
    (subst (λ (text : List ℕ). IfOk c.policy_read.result ((λ (text : List ℕ) (tree : PolicyTree). EncodesPolicy text c.args.listing.now tree) text)) c.as_slice.ensures c.policy_read.ensures.encodes)
