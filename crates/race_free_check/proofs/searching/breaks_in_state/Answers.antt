use Rattle.std.proofs.Common.{sym, ap, ◌∙◌}
use Rattle.conspec_automaton.specs.Next.{Values}
use Rattle.conspec_automaton.specs.Trying.{Point}
use Rattle.race_free_check.specs.Distinct.{distinct_events, distinct_seconds}
use Rattle.race_free_check.specs.Searching.{broken_with}
use Rattle.race_free_check.proofs.Found.{found_here, not_here, nowhere}
use Rattle.race_free_check.proofs.Reaching.{first_reached, firsts_done}
use Rattle.race_free_check.proofs.searching.breaks_in_state.Goals as goal

pub returns-then-branch-clause-broken : goal.returns-then-branch-clause-broken
returns-then-branch-clause-broken c =
    let s = c.args.search.now in
    let state = ap (λ (p : Point). p.state) c.point.view_is ∙ c.loop-number.invariant.state in
    let reached = first_reached _ s c.search.view_is c.search.inside.firsts c.search.invariant.2 c.count-number-end.result c.loop-number.number c.set_event.new.event c.count-number-end.ensures c.loop-number-test.true c.in_ok-set_event.ensures in
    let found = ap (λ (values : Values). broken_with s.policy values c.set_event.new.event (distinct_seconds s.trial.second)) (sym state) ∙ (rw c.if-branch.true at c.in_ok-breaks_with_first.ensures.broken) in
    found_here (λ first. broken_with s.policy c.args.point.now.state first (distinct_seconds s.trial.second)) (distinct_events s.trial.first.1) c.loop-number.number c.set_event.new.event c.breaks_with_first.new.point reached.there found c.loop-number.invariant.same

pub loop-number-preserved : goal.loop-number-preserved
loop-number-preserved c =
    let s = c.args.search.now in
    let state = ap (λ (p : Point). p.state) c.point.view_is ∙ c.loop-number.invariant.state in
    let reached = first_reached _ s c.search.view_is c.search.inside.firsts c.search.invariant.2 c.count-number-end.result c.loop-number.number c.set_event.new.event c.count-number-end.ensures c.loop-number-test.true c.in_ok-set_event.ensures in
    let none = ap (λ (values : Values). broken_with s.policy values c.set_event.new.event (distinct_seconds s.trial.second)) (sym state) ∙ (rw c.if-branch.false at c.in_ok-breaks_with_first.ensures.broken) in
    record {
      same = not_here (λ first. broken_with s.policy c.args.point.now.state first (distinct_seconds s.trial.second)) (distinct_events s.trial.first.1) c.loop-number.number c.set_event.new.event reached.there none c.loop-number.invariant.same;
      state = c.in_ok-breaks_with_first.ensures.state ∙ state;
      first = (reached.made.0, c.in_ok-breaks_with_first.ensures.first ∙ reached.made.1);
      second = c.in_ok-breaks_with_first.ensures.second;
    }

pub returns-clause-broken : goal.returns-clause-broken
returns-clause-broken c =
    let s = c.args.search.now in
    nowhere (λ first. broken_with s.policy c.args.point.now.state first (distinct_seconds s.trial.second)) (distinct_events s.trial.first.1) c.loop-number.number
    (firsts_done _ s c.search.view_is c.search.inside.firsts c.search.invariant.2 c.count-number-end.result c.loop-number.number c.count-number-end.ensures c.loop-number-test.false) c.loop-number.invariant.same
