use Rattle.race_free_check.proofs.Broken.{broken_points_show}
use Rattle.race_free_check.proofs.laws.broken_points_show.Goals as goal

pub returns : goal.returns
returns c = broken_points_show
