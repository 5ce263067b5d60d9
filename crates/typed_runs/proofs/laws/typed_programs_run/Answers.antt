use Rattle.typed_runs.proofs.Calling.CallsOperate.{calls_operate}
use Rattle.typed_runs.proofs.Runs.{never_stuck, runs_fit}
use Rattle.typed_runs.proofs.laws.typed_programs_run.Goals as goal

pub returns : goal.returns
returns c = record {
  fit = runs_fit c.uses_are_shaped.ensures.shaped (λ program typing ok. calls_operate program typing ok c.uses_are_shaped.ensures.shaped);
  moves =
      never_stuck c.uses_are_shaped.ensures.shaped (λ program typing ok. calls_operate program typing ok c.uses_are_shaped.ensures.shaped)
      c.enabled_steps_are_made.ensures.made;
}
