use Rattle.std.proofs.Common.{◌≡◌, ℕ, List, Option, sym, ap, ◌∙◌}
use Rattle.std.specs.Option.{option_map_or}
use Rattle.conspec_automaton.specs.declared.policy.Clause.{Clause}
use Rattle.conspec_automaton.specs.Points.{events_count, states_count}
use Rattle.conspec_automaton.specs.Trying.{Placed, Trial, capped, clauses_of}
use Rattle.race_free_check.specs.declared.trial.TrialRef.TheInside.{Inside}
use Rattle.race_free_check.proofs.Sizes.{three_counted}
use Rattle.race_free_check.proofs.deciding.point_count.Goals.{in-Some+in_ok-seconds-in-Some, in-None}
use Rattle.race_free_check.proofs.deciding.point_count.Goals as goal

pub returns : goal.returns
returns c =
    let trial = c.args.trial.now in
    let first = ap (λ (t : Inside). t.first.1) c.trial-inside.view_is ∙ ap (λ (t : Trial). t.first.1) c.trial.view_is in
    let second = sym (ap (λ (t : Inside). t.second) c.trial-inside.view_is ∙ ap (λ (t : Trial). t.second) c.trial.view_is) in
    let count : Option Placed → ℕ = λ o. option_map_or (λ (p : Placed). events_count p.1 p.1.phase) o 1 in
    let firsts = c.in_ok-firsts.ensures ∙ ap (λ (d : Clause). capped (events_count d d.phase)) first in
    let seconds : c.match-trial.seconds ≡ capped (count trial.second) = elim c.match-trial.branch [
      | in-Some+in_ok-seconds-in-Some w ↦ w.seconds-is ∙ w.in_ok-seconds-in-Some.ensures ∙ ap (λ (d : Clause). capped (events_count d d.phase)) (ap (λ (p : Placed). p.1) w.second.view_is) ∙ sym (ap (λ (o : Option Placed). capped (count o)) (second ∙ w.in-Some.is))
      | in-None w ↦ w.seconds-is ∙ sym (ap (λ (o : Option Placed). capped (count o)) (second ∙ w.in-None.is))
    ] in
    three_counted (states_count c.args.policy.now (clauses_of trial)) (events_count trial.first.1 trial.first.1.phase) (count trial.second) c.saturating_mul-2.result c.in_ok-states.states c.in_ok-firsts.firsts c.match-trial.seconds c.saturating_mul.result
    (c.in_ok-states.ensures ∙ ap (λ (cs : List Clause). capped (states_count c.args.policy.now cs)) c.clauses.ensures) firsts seconds c.saturating_mul.ensures c.saturating_mul-2.ensures
