use Rattle.class_weaving.proofs.Covering.{cover_parts}
use Rattle.class_weaving.proofs.laws.handlers_cover_parts.Goals as goal

pub returns : goal.returns
returns c = record { cover = cover_parts }
