-- The answer to a call of a class that has no device, and that it fits. (docs/RUNS.md)
use Rattle.std.specs.Prelude.{◌≡◌, ℕ, true, List, Some, if◌then◌else◌}
use Rattle.api_listing.specs.declared.events.ApiAnswer.{ApiAnswer}
use Rattle.api_listing.specs.declared.events.ApiAnswer.TheVariants as answers
use Rattle.api_listing.specs.declared.events.ApiCall.{ApiCall}
use Rattle.api_shelf.specs.Plain.{plain_answer}
use Rattle.bytecode_model.specs.declared.program.Program.{Program}
use Rattle.guest_model.specs.declared.machine.Machine.{Machine}
use Rattle.guest_model.specs.declared.machine.Step.{Step}
use Rattle.guest_model.specs.Asking.{is_enabled, takes_answer}
use Rattle.guest_model.specs.LibraryCalls.{call_asked}
use Rattle.guest_model.specs.Runs.{exec}

-- The plain answer; or null where that does not fit: a receiver need not be of the class that declares the method.
abbrev pub plain_or_null : Program → Machine → ℕ → ApiCall → ApiAnswer
plain_or_null program machine thread call =
    if takes_answer program machine thread (plain_answer call) then plain_answer call else answers.Null

-- Whatever the steps are, a thread that can make one more and waits in a call can take this answer to it.
abbrev pub PlainAnswersFit : Program → Type 0
PlainAnswersFit program =
    (steps : List Step) (thread : ℕ) (call : ApiCall) → is_enabled program (exec program steps) thread ≡ true
    → call_asked program (exec program steps) thread ≡ Some call
    → takes_answer program (exec program steps) thread (plain_or_null program (exec program steps) thread call) ≡ true
