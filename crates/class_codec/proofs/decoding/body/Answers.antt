use Rattle.std.proofs.Common.{rules}
use Rattle.class_codec.specs.Reading.{body_at}
use Rattle.class_codec.proofs.decoding.body.Goals as goal

pub returns : goal.returns
unfolding body_at
returns c = search rules
