use Rattle.std.proofs.Common.{arith, rules}
use Rattle.class_codec.specs.Reading.{text_at}
use Rattle.class_codec.proofs.constants.text.Goals as goal

pub returns-clause-reads : goal.returns-clause-reads
unfolding text_at
returns-clause-reads c = search rules

pub returns-clause-moves : goal.returns-clause-moves
returns-clause-moves c = rw c.in_ok-text.ensures (omega (arith, c.in_ok-bytes.ensures.moves, c.in_ok-bytes.ensures.len, c.in_ok-len.ensures.moves))
