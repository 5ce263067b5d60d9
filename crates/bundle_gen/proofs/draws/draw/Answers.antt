use Rattle.std.proofs.Common.{refl}
use Rattle.bundle_gen.specs.Draws.{draw}
use Rattle.bundle_gen.proofs.draws.draw.Goals as goal

pub returns : goal.returns
unfolding draw
returns c = refl
