-- What a device that gives the answers it was given is seen as, and what it answers. (docs/RUNS.md)
use Rattle.std.specs.Prelude.{List, length, slice_get, unwrap_or}
use Rattle.api_listing.specs.declared.events.ApiAnswer.{ApiAnswer}
use Rattle.api_listing.specs.declared.events.ApiCall.{ApiCall}
use Rattle.api_shelf.specs.Plain.{plain_answer}
use Rattle.api_shelf.specs.Telling.{Log}

-- The answers that it was given, and what it has answered.
pub record ScriptedState : Type 0 where
  pub answers : List ApiAnswer
  pub log : Log

-- the answer to this call: the next one of those given, or else the plain one
abbrev pub next_answer : ScriptedState → ApiCall → ApiAnswer
next_answer scripted call = unwrap_or (slice_get scripted.answers (length scripted.log)) (plain_answer call)
