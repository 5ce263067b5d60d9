use Rattle.guest_runner.proofs.laws.runs_are_traces.Goals as goal
use Rattle.guest_runner.proofs.Traces.{traced}

pub returns : goal.returns
returns c = traced c.steps_are_enabled.ensures.enabled
