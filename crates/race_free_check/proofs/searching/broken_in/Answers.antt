use Rattle.std.proofs.Common.{◌≡◌, sym}
use Rattle.std.proofs.lemmas.Result.{IfOk-weaker}
use Rattle.conspec_automaton.specs.Points.{states_of}
use Rattle.conspec_automaton.specs.Trying.{clauses_of}
use Rattle.race_free_check.specs.Deciding.{broken_in}
use Rattle.race_free_check.specs.Distinct.{distinct_events, distinct_seconds}
use Rattle.race_free_check.specs.Searching.{broken_among}
use Rattle.race_free_check.proofs.Skipping.{searched_is}
use Rattle.race_free_check.proofs.searching.broken_in.Goals as goal

pub returns : goal.returns
returns c =
    let s = c.in_ok-search.search in
    IfOk-weaker c.found_by.result
    (λ found. found ≡ broken_among s.policy (states_of s.policy (clauses_of s.trial)) (distinct_events s.trial.first.1) (distinct_seconds s.trial.second))
    (λ found. found ≡ broken_in c.args.policy.now c.args.trial.now)
    (λ found is. searched_is s c.args.policy.now c.args.trial.now found c.requires.policy c.requires.clauses c.in_ok-search.ensures (sym is)) c.found_by.ensures
