use Rattle.std.proofs.Common.{Some, sym, ap, ◌∙◌}
use Rattle.api_listing.specs.declared.events.Event.{Event}
use Rattle.conspec_automaton.specs.Next.{Values}
use Rattle.conspec_automaton.specs.Trying.{Point}
use Rattle.race_free_check.specs.Distinct.{distinct_seconds}
use Rattle.race_free_check.proofs.Found.{no_second_found, point_of, second_found, second_not_found}
use Rattle.race_free_check.proofs.Reaching.{breaks_same, second_reached, seconds_done}
use Rattle.race_free_check.proofs.searching.breaks_with_first.Goals as goal

pub returns-then-breaks-clause-broken : goal.returns-then-breaks-clause-broken
returns-then-breaks-clause-broken c =
    let s = c.args.search.now in
    let state = ap (λ (p : Point). p.state) c.point.view_is ∙ c.loop-number.invariant.state in
    let first = ap (λ (p : Point). p.first) c.point.view_is ∙ c.loop-number.invariant.first in
    let reached = second_reached _ s c.search.view_is c.search.inside.seconds c.in-Some.seconds c.search.invariant.3 c.in-Some.is c.count-number-end.result c.loop-number.number c.set_second.new.second c.count-number-end.ensures c.loop-number-test.true c.in_ok-set_second.ensures in
    let broken = breaks_same _ s c.search.view_is c.point.inside.state c.args.point.now.state c.point.inside.first c.args.point.now.first c.set_second.new.second _ state first c.if-breaks.ensures in
    second_found s.policy c.args.point.now.state c.args.point.now.first (distinct_seconds s.trial.second) c.loop-number.number c.set_second.new.second reached.there broken c.loop-number.invariant.same
    ∙ ap (λ (values : Values). Some (point_of values c.args.point.now.first c.set_second.new.second)) (sym state)
    ∙ ap (λ (event : Event). Some (point_of c.point.inside.state event c.set_second.new.second)) (sym first)

pub loop-number-preserved : goal.loop-number-preserved
loop-number-preserved c =
    let s = c.args.search.now in
    let state = ap (λ (p : Point). p.state) c.point.view_is ∙ c.loop-number.invariant.state in
    let first = ap (λ (p : Point). p.first) c.point.view_is ∙ c.loop-number.invariant.first in
    let reached = second_reached _ s c.search.view_is c.search.inside.seconds c.in-Some.seconds c.search.invariant.3 c.in-Some.is c.count-number-end.result c.loop-number.number c.set_second.new.second c.count-number-end.ensures c.loop-number-test.true c.in_ok-set_second.ensures in
    let broken = breaks_same _ s c.search.view_is c.point.inside.state c.args.point.now.state c.point.inside.first c.args.point.now.first c.set_second.new.second _ state first c.if-breaks.ensures in
    record {
      same = second_not_found s.policy c.args.point.now.state c.args.point.now.first (distinct_seconds s.trial.second) c.loop-number.number c.set_second.new.second reached.there broken c.loop-number.invariant.same;
      state = state;
      first = first;
      second = reached.made;
    }

pub returns-clause-broken : goal.returns-clause-broken
returns-clause-broken c =
    let s = c.args.search.now in
    no_second_found s.policy c.args.point.now.state c.args.point.now.first (distinct_seconds s.trial.second) c.loop-number.number
    (seconds_done _ s c.search.view_is c.search.inside.seconds c.in-Some.seconds c.search.invariant.3 c.in-Some.is c.count-number-end.result c.loop-number.number c.count-number-end.ensures c.loop-number-test.false) c.loop-number.invariant.same
