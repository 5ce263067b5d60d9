-- What a device tells of the calls that it answered. (docs/RUNS.md)
use Rattle.std.specs.Prelude.{◌≡◌, List, [], ◌∷◌, ◌++◌, Option, Some, None, option_map}
use Rattle.api_listing.specs.declared.events.ApiAnswer.{ApiAnswer}
use Rattle.api_listing.specs.declared.events.ApiCall.{ApiCall}

-- Calls, each with its answer, in the order in which they were answered.
abbrev pub Log : Type 0
Log = List (ApiCall × ApiAnswer)

-- the log with one pair more at its end; a device that does not tell stays so
abbrev pub with_pair : Option Log → ApiCall × ApiAnswer → Option Log
with_pair told pair = option_map (λ log. log ++ pair ∷ []) told

-- A log that is told is this one.
abbrev pub HasLog : Option Log → Log → Type 0
HasLog None log = Unit {0}
HasLog (Some told) log = told ≡ log
