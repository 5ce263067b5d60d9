-- A run of a typed client that the policy accepts, lifted, is a run of what is woven of it: the same events, and the client's machine
-- once what the monitor adds is erased. (docs/TRANSPARENCY.md)
use Rattle.std.specs.Prelude.{◌≡◌, ℕ, List}
use Rattle.std.specs.List.{AllByRecursion}
use Rattle.cert_format.specs.declared.certificate.Mode.{Mode}
use Rattle.cert_format.specs.declared.typing.Typing.{Typing}
use Rattle.bytecode_model.specs.declared.program.Program.{Program}
use Rattle.conspec_automaton.specs.declared.policy.Policy.{Policy}
use Rattle.conspec_automaton.specs.Next.{Values}
use Rattle.guest_model.specs.declared.machine.Step.{Step}
use Rattle.guest_model.specs.Runs.{exec, start_of, trace}
use Rattle.guest_erasing.specs.Accepted.{AreApart, IsAcceptedRun}
use Rattle.guest_erasing.specs.Erasing.{erased}
use Rattle.guest_erasing.specs.Lifting.{lifted}
use Rattle.guest_erasing.specs.Runs.{AreMadeFrom}
use Rattle.typed_runs.specs.Formed.{TellsTypes}
use Rattle.block_runs.specs.Clients.{IsTypedClient}
use Rattle.block_runs.specs.Joining.{MirrorsIn, sites}
use Rattle.block_runs.specs.WovenClients.{ConstantsAreThere, IsLinkedClient, IsWovenClient}

-- The woven program makes the lifted steps, the library sees what it saw of the client, and the machine to which they come is the
-- client's once what the monitor adds is erased; conspec/State holds the policy's state.
pub record IsRunOf (policy : Policy) (mode : Mode) (client woven : Program) (steps : List Step) (end : Values) : Type 0 where
  pub made : AreMadeFrom woven (start_of woven) (lifted (sites policy mode) client woven steps)
  pub seen : trace woven (lifted (sites policy mode) client woven steps) ≡ trace client steps
  pub same : erased (sites policy mode) client (λ v. v) (exec woven (lifted (sites policy mode) client woven steps)) ≡ exec client steps
  pub mirrors : MirrorsIn policy mode client woven end (exec client steps) (exec woven (lifted (sites policy mode) client woven steps))

-- So is every run of a typed client that the policy accepts, where each clause tells the types of its method.
abbrev pub AcceptedRunsAreLifted : Type 0
AcceptedRunsAreLifted =
    (policy : Policy) (mode : Mode) (client woven : Program) (typing : Typing) → IsTypedClient client typing
    → AllByRecursion (TellsTypes client.listing) policy.clauses → ConstantsAreThere client → IsWovenClient policy mode client woven
    → (steps : List Step) (end : Values) → IsAcceptedRun policy mode client steps end → IsRunOf policy mode client woven steps end

-- What is asked of runs in mode hold is so of every run in which one thread makes all steps: none of its calls begins while another is
-- under way.
abbrev pub OneThreadIsApart : Type 0
OneThreadIsApart =
    (client : Program) → IsLinkedClient client → (policy : Policy) (mode : Mode) (number : ℕ) (steps : List Step)
    → AllByRecursion (λ (step : Step). step.thread ≡ number) steps → AreApart mode policy (trace client steps)
