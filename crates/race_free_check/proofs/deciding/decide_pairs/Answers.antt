use Rattle.std.specs.Prelude.{◌≡◌, ◌≢◌}
use Rattle.conspec_automaton.specs.Racing.{IsRaceFreeFor}
use Rattle.race_free_check.specs.declared.verdict.RaceVerdict.TheVariants.{Free}
use Rattle.race_free_check.specs.Shown.{ShowsRace}
use Rattle.race_free_check.proofs.Broken.{shown_races}
use Rattle.race_free_check.proofs.Judging.{free_is, of_decided, shows}
use Rattle.race_free_check.proofs.Limiting.{limit_is, small_is}
use Rattle.race_free_check.proofs.deciding.decide_pairs.Goals as goal

pub returns-clause-free : goal.returns-clause-free
returns-clause-free g c =
    let tested = g.P.PairTest.pairs c.args.test.now in
    let policy = c.args.policy.now in
    of_decided tested policy (λ verdict. verdict ≡ Free → IsRaceFreeFor tested policy) c.decided.result c.decided.ensures (free_is tested policy c.points_are_enough.ensures c.requires)

pub returns-clause-racy : goal.returns-clause-racy
returns-clause-racy g c =
    let tested = g.P.PairTest.pairs c.args.test.now in
    let policy = c.args.policy.now in
    of_decided tested policy (λ verdict. verdict ≢ Free → IsRaceFreeFor tested policy → ⊥) c.decided.result c.decided.ensures
    (λ verdict is. shown_races tested policy verdict (shows tested policy c.broken_points_show.ensures c.requires verdict is))

pub returns-clause-shown : goal.returns-clause-shown
returns-clause-shown g c =
    let tested = g.P.PairTest.pairs c.args.test.now in
    let policy = c.args.policy.now in
    of_decided tested policy (ShowsRace tested policy) c.decided.result c.decided.ensures (shows tested policy c.broken_points_show.ensures c.requires)

pub returns-clause-small : goal.returns-clause-small
returns-clause-small g c = small_is (g.P.PairTest.pairs c.args.test.now) c.args.policy.now c.decided.result c.decided.ensures

pub returns-clause-limit : goal.returns-clause-limit
returns-clause-limit g c = limit_is (g.P.PairTest.pairs c.args.test.now) c.args.policy.now c.decided.result c.decided.ensures
