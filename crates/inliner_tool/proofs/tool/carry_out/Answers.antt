use Rattle.std.proofs.Common.{ap, subst, sym, ◌∙◌}
use Rattle.command_inputs.specs.Words.{NamedCommand, named_by}
use Rattle.inliner_tool.specs.Seen.{seen}
use Rattle.inliner_tool.specs.Steps.{UnlessMemory}
use Rattle.inliner_tool.specs.Writing.{CarriesOut}
use Rattle.inliner_tool.proofs.tool.carry_out.Goals as goal

pub returns-in-Files-clause-carries : goal.returns-in-Files-clause-carries
returns-in-Files-clause-carries g c =
    subst (λ (n : NamedCommand). UnlessMemory (CarriesOut (seen g.S.Store.files g.S.Store.faults g.S.Store.last c.args.store.now c.carry_out_files.new.store) n) c.carry_out_files.result) (sym (ap named_by c.in-Files.is)) c.carry_out_files.ensures.carries

pub returns-in-Files-clause-inlined : goal.returns-in-Files-clause-inlined
returns-in-Files-clause-inlined g c = λ named is. c.carry_out_files.ensures.inlined named (sym (ap named_by c.in-Files.is) ∙ is)

pub returns-in-Files-clause-loaded : goal.returns-in-Files-clause-loaded
returns-in-Files-clause-loaded g c = λ named is. c.carry_out_files.ensures.loaded named (sym (ap named_by c.in-Files.is) ∙ is)

pub returns-in-Run-clause-carries : goal.returns-in-Run-clause-carries
returns-in-Run-clause-carries g c =
    subst (λ (n : NamedCommand). UnlessMemory (CarriesOut (seen g.S.Store.files g.S.Store.faults g.S.Store.last c.args.store.now c.carry_out_run.new.store) n) c.carry_out_run.result) (sym (ap named_by c.in-Run.is)) c.carry_out_run.ensures.carries
