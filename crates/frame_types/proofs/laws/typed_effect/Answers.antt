use Rattle.frame_types.proofs.Moving.{effect_typed}
use Rattle.frame_types.proofs.laws.typed_effect.Goals as goal

pub returns : goal.returns
returns c = record { effect = effect_typed }
