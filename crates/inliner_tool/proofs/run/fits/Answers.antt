use Rattle.inliner_tool.proofs.run.fits.Goals as goal

pub returns : goal.returns
returns c = c.ranges.value
