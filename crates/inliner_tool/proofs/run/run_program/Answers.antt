use Rattle.std.proofs.Common.{subst, sym}
use Rattle.api_shelf.specs.Shelf.{views}
use Rattle.bytecode_model.specs.declared.program.Program.{Program}
use Rattle.guest_model.specs.Turns.{MakesWhatIsEnabled}
use Rattle.guest_runner.specs.Book.{identity, new_book}
use Rattle.guest_runner.specs.PlainAnswers.{PlainAnswersFit}
use Rattle.guest_runner.specs.Running.{Gives}
use Rattle.inliner_tool.specs.Run.{interpreted}
use Rattle.inliner_tool.proofs.Runs.{executes, kept_as}
use Rattle.inliner_tool.proofs.run.run_program.Goals as goal

pub run-answer-requires-clause-makes : goal.run-answer-requires-clause-makes
run-answer-requires-clause-makes g c κs within = subst MakesWhatIsEnabled (sym c.in_ok-execution.ensures.program) c.requires.makes

pub run-answer-requires-clause-plain : goal.run-answer-requires-clause-plain
run-answer-requires-clause-plain g c κs within = subst PlainAnswersFit (sym c.in_ok-execution.ensures.program) c.requires.plain

pub returns-clause-kept : goal.returns-clause-kept
returns-clause-kept g c =
    let gives = subst (λ (p : Program). Gives (interpreted g.D.ApiDevice.told g.D.ApiDevice.faults) (identity (new_book p (views g.D.ApiDevice.told g.D.ApiDevice.faults c.args.slots.items) c.args.words.now.budget)) c.run-answer.result) c.in_ok-execution.ensures.program c.run-answer.ensures in
    kept_as (interpreted g.D.ApiDevice.told g.D.ApiDevice.faults) _ c.run-answer.result gives c.stops_with_value.ensures _ c.keep.ensures.told c.told-made.result c.told-made.ensures

pub returns-clause-executes : goal.returns-clause-executes
returns-clause-executes g c =
    let gives = subst (λ (p : Program). Gives (interpreted g.D.ApiDevice.told g.D.ApiDevice.faults) (identity (new_book p (views g.D.ApiDevice.told g.D.ApiDevice.faults c.args.slots.items) c.args.words.now.budget)) c.run-answer.result) c.in_ok-execution.ensures.program c.run-answer.ensures in
    executes c.args.program _ c.args.words.now.budget _ _ c.told-made.result
    (kept_as (interpreted g.D.ApiDevice.told g.D.ApiDevice.faults) _ c.run-answer.result gives c.stops_with_value.ensures _ c.keep.ensures.told c.told-made.result c.told-made.ensures) c.told-made.ensures
