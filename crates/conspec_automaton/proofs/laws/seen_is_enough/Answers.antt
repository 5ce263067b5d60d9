use Rattle.std.proofs.Common.{refl}
use Rattle.conspec_automaton.proofs.Seeing.{seen_is_enough}
use Rattle.conspec_automaton.proofs.laws.seen_is_enough.Goals as goal

pub returns-clause-seen : goal.returns-clause-seen
returns-clause-seen c = seen_is_enough

pub returns-clause-alike : goal.returns-clause-alike
returns-clause-alike c = λ method thread other object another class next. refl
