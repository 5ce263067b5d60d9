-- A program that obeys its policy, whatever the steps. (docs/PROMISES.md)
use Rattle.std.specs.Prelude.{List}
use Rattle.bytecode_model.specs.declared.program.Program.{Program}
use Rattle.cert_format.specs.declared.certificate.Mode.{Mode}
use Rattle.conspec_automaton.specs.declared.policy.Policy.{Policy}
use Rattle.conspec_automaton.specs.Obeys.{Obeys}
use Rattle.guest_model.specs.declared.machine.Step.{Step}
use Rattle.guest_model.specs.Runs.{trace}

-- For every list of guest steps the events obey, as the mode promises.
abbrev pub Secure : Mode → Program → Policy → Type 0
Secure mode program policy = (steps : List Step) → Obeys mode policy (trace program steps)
