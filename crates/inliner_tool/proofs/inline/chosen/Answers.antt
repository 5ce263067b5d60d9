use Rattle.inliner_tool.proofs.inline.chosen.Goals as goal

pub mode_for-requires-clause-sound : goal.mode_for-requires-clause-sound
mode_for-requires-clause-sound c = (c.in_ok-policy.ensures.sound c.args.listing.now c.requires).0
