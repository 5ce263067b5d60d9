use Rattle.conspec_automaton.proofs.Ranges.{next_keeps}
use Rattle.conspec_automaton.proofs.running.stays_in_range.Goals as goal

pub returns : goal.returns
returns c = next_keeps
