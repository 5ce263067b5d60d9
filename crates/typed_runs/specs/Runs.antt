-- What holds of every run of a typed program. (docs/PROMISES.md)
use Rattle.std.specs.Prelude.{List, IsSome}
use Rattle.cert_format.specs.declared.typing.Typing.{Typing}
use Rattle.bytecode_model.specs.declared.program.Program.{Program}
use Rattle.guest_model.specs.declared.machine.Step.{Step}
use Rattle.guest_model.specs.Enabled.{IsEnabled}
use Rattle.guest_model.specs.Runs.{exec}
use Rattle.guest_model.specs.Stepping.{stepped}
use Rattle.typed_runs.specs.Machines.{MachineFits}
use Rattle.typed_runs.specs.Programs.{IsTypedProgram}

-- After every list of steps each value is of the type that is told of its place: no operand is missing, and none is of a
-- wrong kind.
abbrev pub RunsFit : Type 0
RunsFit = (program : Program) (typing : Typing) → IsTypedProgram program typing → (steps : List Step) → MachineFits program typing (exec program steps)

-- After every list of steps, a step that is enabled by the rules is made.
abbrev pub NeverStuck : Type 0
NeverStuck =
    (program : Program) (typing : Typing) → IsTypedProgram program typing → (steps : List Step) (step : Step)
    → IsEnabled program (exec program steps) step → IsSome (stepped program (exec program steps) step)
