use Rattle.class_weaving.proofs.Sizing.{decide}
use Rattle.class_weaving.proofs.laws.sizes_decide.Goals as goal

pub returns : goal.returns
returns c = record { decide = decide }
