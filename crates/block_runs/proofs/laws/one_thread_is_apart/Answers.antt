use Rattle.block_runs.proofs.Clients.OneThread.{one_thread_apart}
use Rattle.block_runs.proofs.laws.one_thread_is_apart.Goals as goal

pub returns : goal.returns
returns c = one_thread_apart c.uses_are_shaped.ensures.shaped
