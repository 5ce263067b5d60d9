use Rattle.std.proofs.Common.{subst}
use Rattle.command_inputs.specs.Words.{Run, run_named}
use Rattle.command_inputs.specs.Forms.{since}
use Rattle.mon_store.specs.Store.{Files}
use Rattle.inliner_tool.specs.Seen.{seen}
use Rattle.inliner_tool.specs.Steps.{UnlessMemory}
use Rattle.inliner_tool.specs.Writing.{Writes}
use Rattle.inliner_tool.proofs.Carrying.{carries_on, ends_so}
use Rattle.inliner_tool.proofs.tool.carry_out_run.Goals as goal

pub returns-in-Err-clause-carries : goal.returns-in-Err-clause-carries
returns-in-Err-clause-carries g c = ends_so (seen g.S.Store.files g.S.Store.faults g.S.Store.last c.args.store.now c.make_run.new.store) (Run (run_named c.args.words.now)) c.in-Err.ended c.in-Err.ensures.files c.in-Err.ensures.makes

pub returns-in-Ok-clause-carries : goal.returns-in-Ok-clause-carries
returns-in-Ok-clause-carries g c =
    let files = g.S.Store.files c.args.store.now in
    let middle = g.S.Store.files c.make_run.new.store in
    let new = g.S.Store.files c.write_made.new.store in
    let first = g.S.Store.faults c.args.store.now in
    let mid = g.S.Store.faults c.make_run.new.store in
    let now = g.S.Store.faults c.write_made.new.store in
    let last = g.S.Store.last c.write_made.new.store in
    let writes = subst (λ (fs : Files). UnlessMemory (Writes (record { old = fs; new = new; count = since mid now last }) c.in-Ok.made) c.write_made.result) c.in-Ok.ensures.files c.write_made.ensures.writes in
    carries_on files middle new first mid now (g.S.Store.last c.make_run.new.store) last c.in-Ok.ensures.faults (Run (run_named c.args.words.now)) c.in-Ok.made c.in-Ok.ensures.makes c.write_made.result writes
