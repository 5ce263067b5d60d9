use Rattle.guest_tables.proofs.ObjectFields.{own_last}
use Rattle.guest_tables.proofs.layout.push_own.Goals as goal

pub loop-member-preserved : goal.loop-member-preserved
loop-member-preserved c =
    own_last c.args.file.now.pool c.loop-member.left.now c.in-Some.before.now c.in-Some.member.now c.loop-member.out.items _ _ c.in-Some.ensures.cases.0 c.in_ok-push_member.ensures c.loop-member.invariant
