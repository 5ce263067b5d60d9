use Rattle.class_weaving.proofs.Lined.{lines_stay}
use Rattle.class_weaving.proofs.laws.lines_stay.Goals as goal

pub returns : goal.returns
returns c = record { stay = lines_stay }
