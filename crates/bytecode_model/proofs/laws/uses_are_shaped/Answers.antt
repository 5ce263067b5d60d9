use Rattle.bytecode_model.proofs.ShapedUses.{all_shaped}
use Rattle.bytecode_model.proofs.laws.uses_are_shaped.Goals as goal

pub returns : goal.returns
returns c = record { shaped = all_shaped }
