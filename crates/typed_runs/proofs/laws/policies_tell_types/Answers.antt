use Rattle.typed_runs.proofs.Telling.{policies_tell_types}
use Rattle.typed_runs.proofs.laws.policies_tell_types.Goals as goal

pub returns : goal.returns
returns c = record { tell = policies_tell_types }
