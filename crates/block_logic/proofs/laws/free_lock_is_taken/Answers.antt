use Rattle.block_logic.proofs.Locking.{free_lock_is_taken}
use Rattle.block_logic.proofs.laws.free_lock_is_taken.Goals as goal

pub returns : goal.returns
returns c = record { taken = free_lock_is_taken c.steps_are_enabled.ensures.enabled }
