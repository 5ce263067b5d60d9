use Rattle.std.proofs.Common.{Err, ap}
use Rattle.inliner_tool.specs.Run.{interpreted, told_by}
use Rattle.inliner_tool.proofs.Runs.{tells}
use Rattle.inliner_tool.proofs.run.stop_told.Goals as goal

pub returns-in-Device : goal.returns-in-Device
returns-in-Device g c = tells _ _ (ap (λ stop. told_by (interpreted g.D.ApiDevice.told g.D.ApiDevice.faults) (Err stop)) c.in-Device.is) c.recorded.result c.recorded.ensures
