use Rattle.typed_runs.proofs.Waiting.{answers_fit_by_type}
use Rattle.typed_runs.proofs.laws.answers_fit_by_type.Goals as goal

pub returns : goal.returns
returns c = record { fit = answers_fit_by_type c.typed_programs_run.ensures.fit }
