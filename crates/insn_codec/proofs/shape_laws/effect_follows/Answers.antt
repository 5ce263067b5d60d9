use Rattle.insn_codec.proofs.Following.{follows}
use Rattle.insn_codec.proofs.shape_laws.effect_follows.Goals as goal

pub returns : goal.returns
returns g c = record { follows = λ values types of respects. follows values types of respects }
