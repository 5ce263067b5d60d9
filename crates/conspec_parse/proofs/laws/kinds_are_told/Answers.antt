use Rattle.conspec_parse.proofs.Telling.{kinds_are_told, results_are_told}
use Rattle.conspec_parse.proofs.laws.kinds_are_told.Goals as goal

pub returns : goal.returns
returns c = record { arguments = kinds_are_told; results = results_are_told }
