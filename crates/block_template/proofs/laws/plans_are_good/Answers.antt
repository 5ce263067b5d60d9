use Rattle.block_template.proofs.Goods.{plans_good}
use Rattle.block_template.proofs.laws.plans_are_good.Goals as goal

pub returns : goal.returns
returns c = plans_good
