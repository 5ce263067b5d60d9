use Rattle.conspec_parse.proofs.Decided.{faults_are_decided}
use Rattle.conspec_parse.proofs.laws.faults_are_decided.Goals as goal

pub returns : goal.returns
returns c = faults_are_decided
