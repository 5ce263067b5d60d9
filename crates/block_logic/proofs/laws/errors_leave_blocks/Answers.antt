use Rattle.block_logic.proofs.Leaving.{errors_leave_blocks}
use Rattle.block_logic.proofs.laws.errors_leave_blocks.Goals as goal

pub returns : goal.returns
returns c = record { leaves = errors_leave_blocks }
