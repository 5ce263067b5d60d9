use Rattle.conspec_automaton.specs.Points.{states_of}
use Rattle.conspec_automaton.specs.Trying.{clauses_of}
use Rattle.race_free_check.specs.Distinct.{distinct_events, distinct_seconds}
use Rattle.race_free_check.specs.Searching.{broken_in_state}
use Rattle.race_free_check.proofs.Found.{found_here, not_here, nowhere}
use Rattle.race_free_check.proofs.Reaching.{few_lists, state_reached, states_done}
use Rattle.race_free_check.proofs.searching.breaks_somewhere.Goals as goal

pub state_at-point-inside-requires-clause-few : goal.state_at-point-inside-requires-clause-few
state_at-point-inside-requires-clause-few c = few_lists _ c.args.search.now c.search.view_is c.search.inside.states c.search.invariant.0 c.as_slice.result.now c.as_slice.ensures c.requires.policy

pub breaks_in_state-requires-clause-ranged : goal.breaks_in_state-requires-clause-ranged
breaks_in_state-requires-clause-ranged c =
    let reached =
    state_reached _ c.args.search.now c.search.view_is c.search.inside.states c.search.invariant.0 c.as_slice.result.now c.search.inside.count c.loop-number.number c.state_at-point-inside.result c.as_slice.ensures c.search.invariant.1 c.loop-number-test.true c.state_at-point-inside.ensures in
    reached.ranged c.requires.policy

pub returns-then-branch : goal.returns-then-branch
returns-then-branch c =
    let s = c.args.search.now in
    let reached =
    state_reached _ c.args.search.now c.search.view_is c.search.inside.states c.search.invariant.0 c.as_slice.result.now c.search.inside.count c.loop-number.number c.state_at-point-inside.result c.as_slice.ensures c.search.invariant.1 c.loop-number-test.true c.state_at-point-inside.ensures in
    found_here (λ state. broken_in_state s.policy state (distinct_events s.trial.first.1) (distinct_seconds s.trial.second)) (states_of s.policy (clauses_of s.trial)) c.loop-number.number c.state_at-point-inside.result c.breaks_in_state.new.point reached.there (rw c.if-branch.true at c.in_ok-breaks_in_state.ensures.broken)
    c.loop-number.invariant.same

pub loop-number-preserved : goal.loop-number-preserved
loop-number-preserved c =
    let s = c.args.search.now in
    let reached =
    state_reached _ c.args.search.now c.search.view_is c.search.inside.states c.search.invariant.0 c.as_slice.result.now c.search.inside.count c.loop-number.number c.state_at-point-inside.result c.as_slice.ensures c.search.invariant.1 c.loop-number-test.true c.state_at-point-inside.ensures in
    record {
      same = not_here (λ state. broken_in_state s.policy state (distinct_events s.trial.first.1) (distinct_seconds s.trial.second)) (states_of s.policy (clauses_of s.trial)) c.loop-number.number c.state_at-point-inside.result reached.there (rw c.if-branch.false at c.in_ok-breaks_in_state.ensures.broken) c.loop-number.invariant.same;
      first = c.in_ok-breaks_in_state.ensures.first;
      second = c.in_ok-breaks_in_state.ensures.second;
    }

pub returns : goal.returns
returns c =
    let s = c.args.search.now in
    nowhere (λ state. broken_in_state s.policy state (distinct_events s.trial.first.1) (distinct_seconds s.trial.second)) (states_of s.policy (clauses_of s.trial)) c.loop-number.number
    (states_done _ s c.search.view_is c.search.inside.states c.search.invariant.0 c.search.inside.count c.loop-number.number c.search.invariant.1 c.loop-number-test.false) c.loop-number.invariant.same
