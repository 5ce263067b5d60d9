-- What an accepted program does: whatever its steps are, the events obey, and the lock orders them. (docs/CERTIFICATES.md)
use Rattle.std.specs.Prelude.{◌≡◌, ◌≢◌, ℕ, true, false, List, length, is_some, Some, slice_get}
use Rattle.std.specs.List.{AllByRecursion}
use Rattle.api_listing.specs.declared.events.Event.{Event}
use Rattle.api_listing.specs.declared.types.ListedMethod.{ListedMethod}
use Rattle.api_listing.specs.declared.types.Listing.{Listing}
use Rattle.bytecode_model.specs.declared.program.Program.{Program}
use Rattle.bytecode_model.specs.Sound.{IsSound}
use Rattle.bytecode_model.specs.Typed.{reached}
use Rattle.cert_format.specs.declared.certificate.Certificate.{Certificate}
use Rattle.cert_format.specs.declared.certificate.Mode.TheVariants as modes
use Rattle.block_logic.specs.Annotations.{Annotations, annotations_of, is_always}
use Rattle.conspec_automaton.specs.declared.policy.Clause.{Clause}
use Rattle.conspec_automaton.specs.declared.policy.Policy.{Policy}
use Rattle.conspec_automaton.specs.Next.{has_clause}
use Rattle.conspec_automaton.specs.Obeys.{Obeys}
use Rattle.conspec_automaton.specs.Sound.{IsPolicy, NamesMethods}
use Rattle.guest_model.specs.declared.machine.Machine.{Machine}
use Rattle.guest_model.specs.declared.machine.Step.{Step}
use Rattle.guest_model.specs.Calls.{arity, types_of}
use Rattle.guest_model.specs.Runs.{exec, seen, trace}
use Rattle.guest_model.specs.ClosedPlaces.{HasInsns, IsClosed}
use Rattle.guest_model.specs.Stepping.{stepped}
use Rattle.block_logic.specs.Accepted.{AreAccepted}
use Rattle.block_logic.specs.Fitting.{held_locks, locked_by}
use Rattle.block_logic.specs.Meaning.{IsJudged}

-- A clause tells how many arguments its method takes, and whether it gives something.
abbrev pub FitsListing : Listing → Clause → Type 0
FitsListing listing clause =
    (method : ListedMethod) → slice_get listing.methods clause.method ≡ Some method
    → (length clause.args ≡ arity method.id.desc) × (is_some clause.result ≡ is_some (types_of method.id.desc).result)

-- What is known of a program that is accepted, and of its policy.
pub record IsObeying (program : Program) (policy : Policy) (annotations : Annotations) : Type 0 where
  pub judged : IsJudged program policy annotations.held
  pub sound : IsSound program
  pub good : IsPolicy policy
  pub named : NamesMethods (length program.listing.methods) policy
  pub listed : AllByRecursion (FitsListing program.listing) policy.clauses
  pub accepted : AreAccepted program policy annotations
  pub insns : HasInsns program
  pub closed : IsClosed program (reached program annotations.typing)

-- Its events obey, whatever the steps.
abbrev pub AcceptedObeys : Type 0
AcceptedObeys =
    (program : Program) (policy : Policy) (certificate : Certificate) → IsObeying program policy (annotations_of certificate)
    → (steps : List Step) → Obeys certificate.mode policy (trace program steps)

-- Where the lock is held round each call: while a thread holds the lock, no step of another thread has an event with a clause.
abbrev pub LockOrders : Type 0
LockOrders =
    (program : Program) (policy : Policy) (annotations : Annotations) → IsObeying program policy annotations → is_always annotations.held ≡ true
    → (steps : List Step) (owner : ℕ) (step : Step) → held_locks program (exec program steps).monitors ≡ locked_by program owner
    → step.thread ≢ owner → AllByRecursion (λ (e : Event). has_clause policy e ≡ false) (seen program (exec program steps) step)

-- Each step whose event has a clause is of the thread that holds the lock, which it holds once.
abbrev pub EventsAreLocked : Program → Policy → Type 0
EventsAreLocked program policy =
    (steps : List Step) (step : Step) (after : Machine) (event : Event) → stepped program (exec program steps) step ≡ Some (after, Some event)
    → has_clause policy event ≡ true → held_locks program (exec program steps).monitors ≡ locked_by program step.thread

-- It is so of each program that is accepted in mode hold.
abbrev pub LockIsHeld : Type 0
LockIsHeld =
    (program : Program) (policy : Policy) (certificate : Certificate) → IsObeying program policy (annotations_of certificate) → certificate.mode ≡ modes.Hold
    → EventsAreLocked program policy
