use Rattle.block_template.proofs.Denials.{denial_is}
use Rattle.block_template.proofs.laws.denial_is_block.Goals as goal

pub returns : goal.returns
returns c = denial_is
