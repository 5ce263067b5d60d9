use Rattle.inliner_tool.proofs.replay.steps_told.Goals as goal

pub returns : goal.returns
returns c = rw (← c.in_ok-stepper.ensures) c.run_told-told.ensures
