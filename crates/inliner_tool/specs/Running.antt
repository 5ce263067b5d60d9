-- How a program runs that is accepted or replayed, whatever its steps are. (docs/PROMISES.md)
use Rattle.std.specs.Prelude.{◌↔◌, List, IsSome}
use Rattle.std.specs.List.{AllByRecursion}
use Rattle.bytecode_model.specs.declared.program.Program.{Program}
use Rattle.bytecode_model.specs.Typed.{IsTyped}
use Rattle.cert_format.specs.declared.typing.Typing.{Typing}
use Rattle.conspec_automaton.specs.Building.{built}
use Rattle.conspec_automaton.specs.Events.{IsWellFormed}
use Rattle.conspec_tree.specs.declared.types.PolicyTree.{PolicyTree}
use Rattle.guest_model.specs.declared.machine.Step.{Step}
use Rattle.guest_model.specs.Enabled.{IsEnabled}
use Rattle.guest_model.specs.Numbers.{KeepsWords}
use Rattle.guest_model.specs.Runs.{exec, trace}
use Rattle.guest_model.specs.Stepping.{stepped}
use Rattle.command_inputs.specs.Named.{IsPolicyOf}
use Rattle.typed_runs.specs.Machines.{MachineFits}
use Rattle.typed_runs.specs.Programs.{IsLinkedProgram}

-- After every list of steps the machine is as the types say, and a step is made exactly where the rules enable it; the events
-- are well formed for each policy that was read over the listing; and numbers in locals are of 32 bits.
pub record RunsTyped (program : Program) (typing : Typing) : Type 0 where
  pub typed : IsTyped program typing
  pub fits : (steps : List Step) → MachineFits program typing (exec program steps)
  pub moves : (steps : List Step) (step : Step) → IsEnabled program (exec program steps) step ↔ IsSome (stepped program (exec program steps) step)
  pub formed : (tree : PolicyTree) → IsPolicyOf program.listing tree → (steps : List Step) → AllByRecursion (IsWellFormed (built tree)) (trace program steps)
  pub words : KeepsWords program

-- Each linked program with types runs so.
abbrev pub LinkedRunTyped : Type 0
LinkedRunTyped = (program : Program) (typing : Typing) → IsLinkedProgram program → IsTyped program typing → RunsTyped program typing
