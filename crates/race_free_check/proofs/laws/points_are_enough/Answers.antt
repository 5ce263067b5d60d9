use Rattle.race_free_check.proofs.Enough.{points_are_enough}
use Rattle.race_free_check.proofs.laws.points_are_enough.Goals as goal

pub returns : goal.returns
returns c = points_are_enough
