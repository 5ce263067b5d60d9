use Rattle.command_inputs.specs.Words.{run_named}
use Rattle.inliner_tool.proofs.PlainAnswers.{plain_answers_fit}
use Rattle.inliner_tool.proofs.Runs.{keeps_too, kept_so, makes_enabled, runs_so}
use Rattle.inliner_tool.proofs.run.run_made.Goals as goal

pub run_program-requires-clause-makes : goal.run_program-requires-clause-makes
run_program-requires-clause-makes g c κs within = makes_enabled (run_named c.args.words.now) c.args.inputs c.in-Ok.field-0 c.in-Ok.ensures.checked

pub run_program-requires-clause-plain : goal.run_program-requires-clause-plain
run_program-requires-clause-plain g c κs within =
    plain_answers_fit c.plain_answers_are_by_type.ensures c.answers_fit_by_type.ensures.fit c.in-Ok.field-0.program c.args.inputs.certificate.typing c.in-Ok.ensures.linked
    c.in-Ok.ensures.checked.is.checked.runs.typed

pub returns-in-Ok-clause-runs : goal.returns-in-Ok-clause-runs
returns-in-Ok-clause-runs g c = runs_so (run_named c.args.words.now) c.args.inputs c.in-Ok.field-0 c.in-Ok.ensures.checked c.run_program.result c.run_program.ensures.executes

pub returns-in-Ok-clause-kept : goal.returns-in-Ok-clause-kept
returns-in-Ok-clause-kept g c =
    keeps_too _ _ (λ told run. kept_so (run_named c.args.words.now) c.args.inputs c.in-Ok.field-0 c.in-Ok.ensures.checked c.runs_are_traces.ensures c.lines_of_runs_are_told.ensures.again c.replays_are_runs.ensures.runs c.in-Ok.ensures.linked c.requires.within _ told run) _ c.run_program.result c.run_program.ensures.kept
