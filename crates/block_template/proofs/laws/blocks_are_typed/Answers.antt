use Rattle.block_template.proofs.RolesTyped.{blocks_are_typed}
use Rattle.block_template.proofs.laws.blocks_are_typed.Goals as goal

pub returns : goal.returns
returns c = blocks_are_typed
