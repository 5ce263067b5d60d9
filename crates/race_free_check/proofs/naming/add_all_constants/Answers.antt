use Rattle.std.proofs.Common.{◌≡◌, ◌∷◌, []}
use Rattle.std.proofs.lemmas.Result.{on_ok_weaker}
use Rattle.conspec_automaton.specs.Points.{constants_of}
use Rattle.race_free_check.proofs.Named.{all_added, constants_both}
use Rattle.race_free_check.proofs.naming.add_all_constants.Goals as goal

pub returns-in-Some-clause-adds : goal.returns-in-Some-clause-adds
returns-in-Some-clause-adds c =
    let first = c.clauses.inside.first.now in
    let second = c.in-Some.second.now in
    let two : first ∷ second ∷ [] ≡ c.args.clauses.now = rw c.in-Some.is at c.clauses.view_is in
    on_ok_weaker c.add_constants-in-Some.result
    (λ e. all_added (constants_of c.args.base) (constants_both c.args.base) first second c.args.clauses.now c.args.numbers.now.items c.add_constants.new.numbers.items c.add_constants-in-Some.new.numbers.items two c.in_ok-add_constants.ensures.adds e)
    c.add_constants-in-Some.ensures.adds
