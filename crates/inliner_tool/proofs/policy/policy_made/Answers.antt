use Rattle.inliner_tool.proofs.policy.policy_made.Goals as goal

pub accept-verdict-requires : goal.accept-verdict-requires
accept-verdict-requires c = (c.in-Ok.ensures.sound c.requires.listing c.requires.sound).0
