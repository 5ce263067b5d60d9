use Rattle.block_template.proofs.CatchesTyped.{calls_are_typed}
use Rattle.block_template.proofs.laws.calls_are_typed.Goals as goal

pub returns : goal.returns
returns c = calls_are_typed
