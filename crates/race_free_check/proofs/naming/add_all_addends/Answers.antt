use Rattle.std.proofs.Common.{◌≡◌, ◌∷◌, [], List}
use Rattle.std.specs.List.{filter_map}
use Rattle.std.proofs.lemmas.Result.{on_ok_weaker}
use Rattle.conspec_automaton.specs.declared.policy.Clause.{Clause}
use Rattle.conspec_automaton.specs.Points.{added_to, updates_in}
use Rattle.race_free_check.proofs.Named.{all_added, kept_both}
use Rattle.race_free_check.proofs.naming.add_all_addends.Goals as goal

pub returns-in-Some-clause-adds : goal.returns-in-Some-clause-adds
returns-in-Some-clause-adds c =
    let first = c.clauses.inside.first.now in
    let second = c.in-Some.second.now in
    let two : first ∷ second ∷ [] ≡ c.args.clauses.now = rw c.in-Some.is at c.clauses.view_is in
    on_ok_weaker c.add_addends-in-Some.result
    (λ e. all_added (λ (cs : List Clause). filter_map (added_to c.args.var) (updates_in cs)) (kept_both (added_to c.args.var)) first second c.args.clauses.now c.args.numbers.now.items c.add_addends.new.numbers.items c.add_addends-in-Some.new.numbers.items two c.in_ok-add_addends.ensures.adds e)
    c.add_addends-in-Some.ensures.adds
