use Rattle.inliner_tool.proofs.lift.inlined_told.Goals as goal

pub returns : goal.returns
returns c = rw (← c.in_ok-client.ensures, ← c.in_ok-woven.ensures) c.lifted_told.ensures
