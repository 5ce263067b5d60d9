use Rattle.typed_runs.proofs.IllFormed.{null_is_no_argument, null_is_no_result, wide_is_no_result}
use Rattle.typed_runs.proofs.laws.ill_formed_events.Goals as goal

pub returns : goal.returns
returns c = record { null = null_is_no_result; wide = wide_is_no_result; passed = null_is_no_argument }
