use Rattle.block_template.proofs.Policies.{few_locals}
use Rattle.block_template.proofs.made.add_items.Goals as goal

pub items-requires-clause-room : goal.items-requires-clause-room
items-requires-clause-room c = few_locals c.args.policy.now c.args.method c.requires
