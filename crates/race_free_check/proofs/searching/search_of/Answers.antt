use Rattle.std.proofs.Common.{◌≡◌, ◌≤◌, List, Some, sym, ap, subst, ◌∙◌, arith}
use Rattle.std.specs.Prelude.{option_map}
use Rattle.api_listing.specs.declared.events.ApiValue.{ApiValue}
use Rattle.conspec_automaton.specs.declared.policy.Clause.{Clause}
use Rattle.conspec_automaton.specs.Points.{choices_of, size_of}
use Rattle.conspec_automaton.specs.Trying.{Placed, Trial, capped, clauses_of}
use Rattle.race_free_check.specs.Distinct.{distinct_choices}
use Rattle.race_free_check.specs.declared.trial.TrialRef.TheInside.{Inside}
use Rattle.race_free_check.proofs.Ranges.{are_few}
use Rattle.race_free_check.proofs.Sizes.{capped_few}
use Rattle.race_free_check.proofs.Skipping.{few_distinct}
use Rattle.race_free_check.proofs.searching.search_of.Goals.{in-Some+in_ok-events_of-in-Some, in-None}
use Rattle.race_free_check.proofs.searching.search_of.Goals as goal

pub events_of-requires-clause-few : goal.events_of-requires-clause-few
events_of-requires-clause-few c =
    let first = ap (λ (t : Inside). t.first.1) c.trial-inside.view_is ∙ ap (λ (t : Trial). t.first.1) c.trial.view_is in
    subst (λ (d : Clause). size_of (distinct_choices d) ≤ 1000000) (sym first) (few_distinct c.args.trial.now.first.1 1000000 (are_few c.args.policy.now c.args.trial.now c.requires.policy c.requires.small).firsts)

pub events_of-requires-in-Some-clause-few : goal.events_of-requires-in-Some-clause-few
events_of-requires-in-Some-clause-few c =
    let there : c.args.trial.now.second ≡ Some c.in-Some.second = cc in
    subst (λ (d : Clause). size_of (distinct_choices d) ≤ 1000000) (sym (ap (λ (p : Placed). p.1) c.second.view_is)) (few_distinct c.in-Some.second.1 1000000 ((are_few c.args.policy.now c.args.trial.now c.requires.policy c.requires.small).seconds c.in-Some.second there))

pub invariant_of-result : goal.invariant_of-result
invariant_of-result c =
    let again = sym c.again.ensures in
    let second = sym (ap (λ (t : Inside). t.second) c.trial-inside.view_is ∙ ap (λ (t : Trial). t.second) c.trial.view_is) in
    let first = ap (λ (t : Inside). t.first.1) c.trial-inside.view_is ∙ ap (λ (t : Trial). t.first.1) c.trial.view_is in
    let states = c.in_ok-states.ensures ∙ ap (choices_of c.args.policy.now) c.clauses.ensures in
    let few = (are_few c.args.policy.now c.args.trial.now c.requires.policy c.requires.small).states in
    let size = c.count_of-count.ensures ∙ ap (λ (lists : List (List ApiValue)). capped (size_of lists)) (c.as_slice.ensures ∙ states) ∙ capped_few (size_of (choices_of c.args.policy.now (clauses_of c.args.trial.now))) (omega arith) ∙ ap size_of (sym states) in (
      states ∙ ap (λ (t : Trial). choices_of c.args.policy.now (clauses_of t)) again,
      size,
      c.in_ok-firsts.ensures ∙ first ∙ ap (λ (t : Trial). t.first.1) again,
      elim c.match-trial.branch [
        | in-Some+in_ok-events_of-in-Some w ↦ w.seconds-is ∙ ap (λ (d : Clause). Some d) (w.in_ok-events_of-in-Some.ensures ∙ ap (λ (p : Placed). p.1) w.second.view_is) ∙ sym (ap (option_map (λ (p : Placed). p.1)) (sym (ap (λ (t : Trial). t.second) again) ∙ second ∙ w.in-Some.is))
        | in-None w ↦ w.seconds-is ∙ sym (ap (option_map (λ (p : Placed). p.1)) (sym (ap (λ (t : Trial). t.second) again) ∙ second ∙ w.in-None.is))
      ],
    )
