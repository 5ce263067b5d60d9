use Rattle.block_template.proofs.CatchesTyped.{catches_are_typed}
use Rattle.block_template.proofs.laws.catches_are_typed.Goals as goal

pub returns : goal.returns
returns c = catches_are_typed
