use Rattle.std.proofs.Common.{◌≡◌, Ok, subst}
use Rattle.conspec_automaton.specs.declared.policy.Policy.{Policy}
use Rattle.inliner_tool.specs.Race.{race_step}
use Rattle.race_free_check.specs.Deciding.{decided}
use Rattle.inliner_tool.proofs.race.race_made.Goals as goal

pub race_step-requires : goal.race_step-requires
race_step-requires c = (c.in-Ok.ensures.sound c.args.inputs.now.listing c.requires).0

pub returns-in-Ok-race_step : goal.returns-in-Ok-race_step
returns-in-Ok-race_step c =
    (tt, subst (λ (p : Policy). Ok tt ≡ race_step c.args.inputs.now.policy c.args.inputs.now.listing (decided p)) c.in-Ok.ensures.is c.in-Ok-race_step.ensures.is, c.just.ensures)
