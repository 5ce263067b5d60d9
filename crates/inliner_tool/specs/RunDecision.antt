-- That `run` decides: of files in their grammars and limits that link it answers no, or tells a run, unless memory runs out.
-- (docs/COMMANDS.md)
use Rattle.std.specs.Prelude.{◌≡◌, ◌⊎◌}
use Rattle.command_inputs.specs.Words.{NamedRun, Run}
use Rattle.mon_store.specs.Store.{Rose}
use Rattle.inliner_tool.specs.declared.tool.Status.{Status}
use Rattle.inliner_tool.specs.declared.tool.Status.TheVariants as statuses
use Rattle.inliner_tool.specs.CheckDecision.{NamesChecked}
use Rattle.inliner_tool.specs.Run.{IsRunStatus}
use Rattle.inliner_tool.specs.Seen.{Seen}
use Rattle.inliner_tool.specs.Steps.{Outcome, outcome_step}
use Rattle.inliner_tool.specs.Tool.{status_of}
use Rattle.inliner_tool.specs.Writing.{CarriesOut}

-- 1, the answer no; or 0, 8 or 9, of a run.
abbrev pub IsRunDecision : Status → Type 0
IsRunDecision status = (status ≡ statuses.Denied) ⊎ IsRunStatus status

-- What `run` comes to over files that `check` decides, without a fault of the store, is such a decision.
abbrev pub RunDecides : Type 0
RunDecides =
    (seen : Seen) (named : NamedRun) (outcome : Outcome) → CarriesOut seen (Run named) (outcome_step outcome)
    → (Rose seen.count.before seen.count.now → ⊥) → NamesChecked seen.old named.check → IsRunDecision (status_of outcome)
