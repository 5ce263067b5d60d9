use Rattle.conspec_automaton.proofs.Turned.{run_keeps}
use Rattle.conspec_automaton.proofs.laws.ranges_are_kept.Goals as goal

pub returns : goal.returns
returns g c = run_keeps
