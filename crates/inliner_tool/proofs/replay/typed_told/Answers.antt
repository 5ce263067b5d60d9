use Rattle.inliner_tool.proofs.TypedRuns.{so_of_any}
use Rattle.inliner_tool.proofs.replay.typed_told.Goals as goal

pub returns-in-Ok-clause-runs : goal.returns-in-Ok-clause-runs
returns-in-Ok-clause-runs c =
    so_of_any _ c.steps_told.result (c.in-Ok.field-0, c.linked_programs_run_typed.ensures c.args.program c.in-Ok.field-0 c.requires.linked c.in-Ok.ensures.is.typed)
