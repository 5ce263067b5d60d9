use Rattle.block_runs.proofs.Waiting.{starts_wait, waits_kept}
use Rattle.block_runs.proofs.laws.waiting_threads_stand_at_calls.Goals as goal

pub returns : goal.returns
returns c = record { kept = waits_kept; start = starts_wait }
