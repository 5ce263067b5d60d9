use Rattle.std.proofs.Common.{ap}
use Rattle.inliner_tool.specs.Run.{interpreted, told_by}
use Rattle.inliner_tool.proofs.Runs.{tells}
use Rattle.inliner_tool.proofs.run.told.Goals as goal

pub returns-in-Ok : goal.returns-in-Ok
returns-in-Ok g c = tells _ _ (ap (told_by (interpreted g.D.ApiDevice.told g.D.ApiDevice.faults)) c.in-Ok.is) c.recorded.result c.recorded.ensures
