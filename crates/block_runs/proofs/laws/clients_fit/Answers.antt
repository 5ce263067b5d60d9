use Rattle.block_runs.proofs.Clients.StepsFit.{steps_fit}
use Rattle.block_runs.proofs.laws.clients_fit.Goals as goal

pub returns : goal.returns
returns c = steps_fit c.uses_are_shaped.ensures.shaped c.typed_programs_run.ensures.fit
