use Rattle.race_free_check.proofs.Broken.{broken_points_race}
use Rattle.race_free_check.proofs.laws.broken_points_race.Goals as goal

pub returns : goal.returns
returns c = broken_points_race
