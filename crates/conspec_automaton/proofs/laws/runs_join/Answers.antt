use Rattle.conspec_automaton.proofs.Turned.{runs_join}
use Rattle.conspec_automaton.proofs.laws.runs_join.Goals as goal

pub returns : goal.returns
returns g c = runs_join
