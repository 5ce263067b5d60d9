use Rattle.conspec_parse.proofs.Decided.{beginnings_are_right}
use Rattle.conspec_parse.proofs.laws.beginnings_are_right.Goals as goal

pub returns : goal.returns
returns c = beginnings_are_right
