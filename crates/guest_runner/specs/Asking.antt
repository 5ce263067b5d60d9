-- What asking a device makes of a book. (docs/RUNS.md)
use Rattle.std.specs.Prelude.{◌≡◌, ◌<◌, ◌∷◌, ℕ, true, [], length, None, Some, IsSome}
use Rattle.api_listing.specs.declared.events.ApiAnswer.{ApiAnswer}
use Rattle.api_listing.specs.declared.events.ApiCall.{ApiCall}
use Rattle.api_shelf.specs.declared.asking.Asked.{Asked}
use Rattle.api_shelf.specs.declared.asking.Asked.TheVariants.{Nobody, Answered, Refused}
use Rattle.api_shelf.specs.declared.device.DeviceFault.TheVariants as faults
use Rattle.api_shelf.specs.Shelf.{IsLater, first_of}
use Rattle.guest_model.specs.Asking.{is_enabled}
use Rattle.guest_model.specs.LibraryCalls.{call_asked}
use Rattle.guest_runner.specs.Advancing.{LogsStay}
use Rattle.guest_runner.specs.Book.{HasFailed, Keeps, RunView}

-- The book takes a step more, and this thread, which can make one, waits for the answer to this call.
pub record Awaits (thread : ℕ) (call : ApiCall) (book : RunView) : Type 0 where
  pub unstopped : book.stop ≡ None
  pub room : length book.lines < book.budget
  pub can : is_enabled book.program book.machine thread ≡ true
  pub asked : call_asked book.program book.machine thread ≡ Some call

-- What came of it: no log tells of a call of a class without a device; an answer is that of a device, which tells it; and one
-- that refused tells nothing more, and counts a fault if it failed.
abbrev pub ComesOf : ApiCall → Asked → RunView → RunView → Type 0
ComesOf call Nobody old new = (first_of call.method.class new.slots ≡ None) × ((given : ApiAnswer) → Keeps ((call, given) ∷ []) new)
ComesOf call (Answered answer) old new = IsSome (first_of call.method.class new.slots) × Keeps ((call, answer) ∷ []) new
ComesOf call (Refused faults.Memory) old new = LogsStay old.slots new.slots × Keeps [] new
ComesOf call (Refused faults.Failed) old new = HasFailed new.slots new.counts call.method.class × Keeps [] new

-- The first device of the class of the call's method was asked, if there is one. The devices alone may be others.
pub record HasAsked (call : ApiCall) (asked : Asked) (old new : RunView) : Type 0 where
  pub program : new.program ≡ old.program
  pub machine : new.machine ≡ old.machine
  pub lines : new.lines ≡ old.lines
  pub stop : new.stop ≡ old.stop
  pub later : IsLater old.slots new.slots
  pub comes : ComesOf call asked old new
