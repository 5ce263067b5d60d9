use Rattle.std.proofs.Common.{◌≡◌, List, map, take, true, sym, ap, subst, ◌∙◌, arith}
use Rattle.std.proofs.lemmas.List.{take_all}
use Rattle.conspec_tree.specs.declared.types.Var.{Var}
use Rattle.conspec_automaton.specs.Next.{Values}
use Rattle.conspec_automaton.specs.Range.{in_range}
use Rattle.conspec_automaton.proofs.Ranges.{firsts_in_range}
use Rattle.conspec_automaton.proofs.running.initial.Goals as goal

pub returns-clause-ranged : goal.returns-clause-ranged
returns-clause-ranged c =
    let policy = c.args.policy.now in
    let vars = c.as_slice-var-items.ensures in
    let all : take c.loop-var.var-index policy.vars ≡ policy.vars = take_all c.loop-var.var-index policy.vars (omega (arith, ap Rattle.std.proofs.Common.length vars)) in
    subst (λ (s : Values). in_range policy s ≡ true) (sym (c.loop-var.invariant.values ∙ ap (λ (vs : List Var). map (λ (v : Var). v.first) vs) all)) (firsts_in_range policy.maxint policy.vars c.requires.vars)
