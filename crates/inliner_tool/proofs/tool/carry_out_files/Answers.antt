use Rattle.inliner_tool.proofs.Carrying.{holds_still, inlined_if, loaded_if, runs_still}
use Rattle.inliner_tool.proofs.TypedRuns.{so_of_any}
use Rattle.inliner_tool.proofs.tool.carry_out_files.Goals as goal

pub returns-in-Ok-clause-replay_runs : goal.returns-in-Ok-clause-replay_runs
returns-in-Ok-clause-replay_runs g c = λ named is. so_of_any _ c.write_made.result (runs_still _ _ _ _ _ named (c.in-Ok.ensures.replay_runs named is))

pub returns-in-Ok-clause-inlined : goal.returns-in-Ok-clause-inlined
returns-in-Ok-clause-inlined g c = λ named is. inlined_if _ _ _ _ _ _ named c.in-Ok.made (c.in-Ok.ensures.ready named is) c.in-Ok.ensures.files c.write_made.result c.write_made.ensures.writes

pub returns-in-Ok-clause-loaded : goal.returns-in-Ok-clause-loaded
returns-in-Ok-clause-loaded g c = λ named is. loaded_if _ _ _ _ _ named c.in-Ok.made (c.in-Ok.ensures.loading named is) c.in-Ok.ensures.files c.write_made.result c.write_made.ensures.writes

pub returns-in-Ok-clause-holds : goal.returns-in-Ok-clause-holds
returns-in-Ok-clause-holds g c = λ named is. so_of_any _ c.write_made.result (holds_still _ _ _ _ _ named (c.in-Ok.ensures.holds named is))
