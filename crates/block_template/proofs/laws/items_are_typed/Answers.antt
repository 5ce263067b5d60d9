use Rattle.block_template.proofs.ItemsTyped.{items_are_typed}
use Rattle.block_template.proofs.laws.items_are_typed.Goals as goal

pub returns : goal.returns
returns c = items_are_typed
