use Rattle.std.proofs.Common.{length, sym, subst}
use Rattle.conspec_automaton.specs.declared.policy.Policy.{Policy}
use Rattle.conspec_automaton.specs.Sound.{IsPolicy, NamesMethods}
use Rattle.conspec_automaton.proofs.Built.{built_is, built_names}
use Rattle.conspec_automaton.proofs.building.build.Goals as goal

pub returns-clause-sound : goal.returns-clause-sound
returns-clause-sound c = λ listing is.
    let tree = c.args.tree.now in
    subst (λ (p : Policy). IsPolicy p × NamesMethods (length listing.methods) p) (sym c.in_ok-policy.ensures) (built_is listing tree is, built_names listing tree is)
