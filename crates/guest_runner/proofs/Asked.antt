-- What comes of asking the first device of a class.
use Rattle.std.proofs.Common.{◌≡◌, ◌≢◌, ◌↔◌, ℕ, List, [], ◌∷◌, ◌++◌, Option, None, refl, ◌∙◌}
use Rattle.api_listing.specs.declared.events.ApiAnswer.{ApiAnswer}
use Rattle.api_listing.specs.declared.events.ApiCall.{ApiCall}
use Rattle.api_shelf.specs.declared.asking.Asked.{Asked}
use Rattle.api_shelf.specs.declared.asking.Asked.TheVariants.{Nobody, Answered, Refused}
use Rattle.api_shelf.specs.declared.device.DeviceFault.TheVariants.{Failed, Memory}
use Rattle.api_shelf.specs.declared.shelf.SlotOf.{SlotOf}
use Rattle.api_shelf.specs.Asking.{CountRose, FirstTells, OnlyAt, pair_of}
use Rattle.api_shelf.specs.Shelf.{AllTell, IsLater, first_of, views}
use Rattle.api_shelf.specs.Telling.{Log}
use Rattle.bytecode_model.specs.declared.program.Program.{Program}
use Rattle.event_record.specs.declared.writing.Line.{Line}
use Rattle.guest_model.specs.declared.machine.Machine.{Machine}
use Rattle.guest_model.specs.LibraryCalls.{answered_in}
use Rattle.guest_runner.specs.declared.book.DeviceStop.{DeviceStop}
use Rattle.guest_runner.specs.Asking.{ComesOf, HasAsked}
use Rattle.guest_runner.specs.Book.{IsRun, Keeps, RunView, steps_of}
use Rattle.guest_runner.proofs.Devices.{failed, first_by_classes, logs_stay, still_there}
use Rattle.guest_runner.proofs.Keeping.{asked_more, keeps_nothing, viewed}

module _ {D : Type 0} (told : D → Option Log) (faults : D → ℕ) (program : Program) (machine : Machine) (lines : List Line) (counts : List ℕ) (budget : ℕ)
    (stop : Option DeviceStop) (call : ApiCall) (before after : List (SlotOf D)) where
  abbrev pub over : List (SlotOf D) → RunView
  over slots = viewed program machine lines (views told faults slots) counts budget stop

  abbrev answered : Log
  answered = answered_in program (steps_of lines) ++ []

  module _ (run : IsRun (over before)) (unstopped : stop ≡ None)
      (later : IsLater (views told faults before) (views told faults after)) where
    abbrev kept_before : Keeps [] (viewed program machine lines (views told faults before) counts budget None)
    kept_before = keeps_nothing (over before) run unstopped

    keeps_more : (more : Log) → AllTell (answered ++ more) (views told faults after) → Keeps more (over after)
    keeps_more more tells = asked_more (over before) (over after) more kept_before refl refl refl refl refl later tells

    abbrev first : Option ℕ
    first = first_of call.method.class (views told faults before)

    somebody : (asked : Asked) → asked ≢ Nobody → (asked ≡ Nobody ↔ first ≡ None) → first ≢ None
    somebody asked some nobody none = some (nobody.1 none)

    pub comes : (asked : Asked) → (asked ≡ Nobody ↔ first ≡ None)
        → FirstTells call asked (views told faults before) (views told faults after) → OnlyAt first before after
        → (asked ≡ Refused Failed → CountRose call.method.class (views told faults before) (views told faults after))
        → ((pairs : Log) → AllTell pairs (views told faults before) → AllTell (pairs ++ pair_of call asked) (views told faults after))
        → (asked ≡ Nobody → (pairs : Log) (given : ApiAnswer) → AllTell pairs (views told faults before)
        → AllTell (pairs ++ (call, given) ∷ []) (views told faults after))
        → ComesOf call asked (over before) (over after)
    comes Nobody nobody tells others rose told_so unasked = (
      first_by_classes call.method.class (views told faults before) (views told faults after) later.classes ∙ nobody.0 refl,
      λ given. keeps_more ((call, given) ∷ []) (unasked refl answered given kept_before.told),
    )
    comes (Answered answer) nobody tells others rose told_so unasked = (
      still_there call.method.class (views told faults before) (views told faults after) later (somebody (Answered answer) (λ e. absurd cc) nobody),
      keeps_more ((call, answer) ∷ []) (told_so answered kept_before.told),
    )
    comes (Refused Memory) nobody tells others rose told_so unasked = (
      logs_stay told faults call Memory before after tells others,
      keeps_more [] (told_so answered kept_before.told),
    )
    comes (Refused Failed) nobody tells others rose told_so unasked = (
      failed counts call.method.class (views told faults before) (views told faults after) kept_before.counts later (rose refl)
          (somebody (Refused Failed) (λ e. absurd cc) nobody),
      keeps_more [] (told_so answered kept_before.told),
    )

    pub has_asked : (asked : Asked) → ComesOf call asked (over before) (over after) → HasAsked call asked (over before) (over after)
    has_asked asked came = record { program = refl; machine = refl; lines = refl; stop = refl; later = later; comes = came }
