-- What holds of a client that a compiler's files link to, and that has types: of its methods, and of its machine in every run.
-- (docs/TRANSPARENCY.md)
use Rattle.std.specs.Prelude.{◌≡◌, List, Option, Some}
use Rattle.std.specs.List.{AllByRecursion}
use Rattle.api_listing.specs.declared.events.Event.{Event}
use Rattle.cert_format.specs.declared.typing.Typing.{Typing}
use Rattle.bytecode_model.specs.declared.program.Method.{Method}
use Rattle.bytecode_model.specs.declared.program.Program.{Program}
use Rattle.bytecode_model.specs.declared.program.Side.TheVariants as sides
use Rattle.conspec_automaton.specs.declared.policy.Policy.{Policy}
use Rattle.guest_model.specs.declared.machine.Machine.{Machine}
use Rattle.guest_model.specs.declared.machine.Step.{Step}
use Rattle.guest_model.specs.Runs.{exec, start_of}
use Rattle.guest_model.specs.Stepping.{stepped}
use Rattle.guest_erasing.specs.Adding.{AddsState}
use Rattle.guest_erasing.specs.Mirrors.{IsClientMachine, Mirrors}
use Rattle.guest_erasing.specs.Places.{Sites}
use Rattle.guest_erasing.specs.Starting.{StartsWith}
use Rattle.guest_erasing.specs.Steps.{AreRoomy}
use Rattle.typed_runs.specs.Formed.{TellsTypes}
use Rattle.typed_runs.specs.Programs.{IsTypedProgram}
use Rattle.block_runs.specs.Joining.{StepFits}

-- A compiler's files link to it, over a listing that was read, and the typing meets the rules.
pub record IsTypedClient (client : Program) (typing : Typing) : Type 0 where
  pub program : IsTypedProgram client typing
  pub original : program.links.side ≡ sides.Original

-- Arguments fit the locals of its methods, and nothing that they name is conspec/State.
abbrev pub ClientsAreRoomy : Type 0
ClientsAreRoomy = (client : Program) (typing : Typing) → IsTypedClient client typing → AreRoomy client

-- After every list of steps each object is of a class of the client; no operand, lock, argument or target is the object of
-- conspec/State; and a frame under a handler has room for what is caught.
abbrev pub ClientsKeepTheirMachine : Type 0
ClientsKeepTheirMachine =
    (client : Program) (typing : Typing) → IsTypedClient client typing → (steps : List Step) → IsClientMachine client (exec client steps)

-- At the start the machine of what is woven of it mirrors its own.
abbrev pub ClientsStartAlike : Type 0
ClientsStartAlike =
    (client : Program) (typing : Typing) → IsTypedClient client typing → (sites_of : Method → Sites) (woven : Program)
    → AddsState sites_of client woven → StartsWith client woven → Mirrors sites_of client woven (start_of client) (start_of woven)

-- Where each clause of a policy tells the types of its method, every step that the client makes after a list of steps is as lifting
-- asks for it: the operands are at most the stack's size, and what is passed and given is of the kinds of the clauses.
abbrev pub ClientsFit : Type 0
ClientsFit =
    (client : Program) (typing : Typing) → IsTypedClient client typing → (policy : Policy)
    → AllByRecursion (TellsTypes client.listing) policy.clauses
    → (steps : List Step) (step : Step) (made : Machine × Option Event) → stepped client (exec client steps) step ≡ Some made
    → StepFits policy client (exec client steps) step made
