use Rattle.std.proofs.Common.{sym, subst}
use Rattle.block_template.specs.Room.{IsRoomy}
use Rattle.block_template.proofs.Policies.{policy_roomy}
use Rattle.block_template.proofs.blocks.items.Goals as goal

pub all-requires : goal.all-requires
all-requires c =
    let room = policy_roomy c.args.policy.now c.args.method c.args.base c.requires.policy c.requires.room in
    record { room = subst (IsRoomy c.args.base) (sym c.clauses_of.ensures) room }
