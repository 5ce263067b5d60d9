use Rattle.conspec_automaton.proofs.Refusing.{refused_calls_disobey, refused_returns_differ}
use Rattle.conspec_automaton.proofs.laws.modes_differ.Goals as goal

pub returns : goal.returns
returns c = record { returns = refused_returns_differ; calls = refused_calls_disobey }
