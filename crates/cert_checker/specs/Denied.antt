-- A program that begins with a call that its policy refuses. (docs/PROMISES.md)
use Rattle.std.specs.Prelude.{◌≡◌, ℕ, [], None}
use Rattle.api_listing.specs.declared.events.Event.TheVariants as events
use Rattle.bytecode_model.specs.declared.program.Program.{Program}
use Rattle.cert_format.specs.declared.certificate.Mode.{Mode}
use Rattle.conspec_automaton.specs.declared.policy.Policy.{Policy}
use Rattle.conspec_automaton.specs.Next.{next, initial}
use Rattle.guest_model.specs.First.{BeginsWithCall}
use Rattle.guest_model.specs.Runs.{initialisers}
use Rattle.cert_checker.specs.Secure.{Secure}

-- The policy refuses that the method is called first, without arguments.
abbrev pub IsRefusedFirst : Policy → ℕ → Type 0
IsRefusedFirst policy listed = next policy (initial policy) (events.Call 0 listed []) ≡ None

-- A program without initialisers whose main begins with a call that is refused does not obey, in either mode.
abbrev pub DisobeysAtOnce : Type 0
DisobeysAtOnce =
    (mode : Mode) (program : Program) (policy : Policy) (index listed : ℕ) → BeginsWithCall program index listed → initialisers program ≡ []
    → IsRefusedFirst policy listed → Secure mode program policy → ⊥
