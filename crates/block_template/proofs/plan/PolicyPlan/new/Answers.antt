use Rattle.block_template.proofs.Goods.{plans_good}
use Rattle.block_template.proofs.plan.PolicyPlan.new.Goals as goal

pub returns-clause-good : goal.returns-clause-good
returns-clause-good c = plans_good c.args.policy.now c.args.mode c.requires c.numbers_fit.ensures
