use Rattle.inliner_tool.proofs.TypedRuns.{runs_typed}
use Rattle.inliner_tool.proofs.running.linked_programs_run_typed.Goals as goal

pub returns : goal.returns
returns c =
    runs_typed c.typed_programs_run.ensures.fit c.typed_programs_run.ensures.moves c.steps_are_enabled.ensures.enabled c.events_are_well_formed.ensures.formed
    c.policies_tell_types.ensures.tell c.kinds_are_told.ensures.arguments c.kinds_are_told.ensures.results c.sees_numbers_in_range.ensures.locals
