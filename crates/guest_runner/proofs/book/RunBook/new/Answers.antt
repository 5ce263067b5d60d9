use Rattle.std.proofs.Common.{rules, ◌≡◌, sym, subst, ◌∙◌}
use Rattle.std.specs.Prelude.{map}
use Rattle.api_shelf.specs.Shelf.{views}
use Rattle.guest_runner.specs.Book.{IsRun, RunView}
use Rattle.guest_runner.proofs.Devices.{counts_seen}
use Rattle.guest_runner.proofs.Keeping.{begins, begun_is}
use Rattle.guest_runner.proofs.book.RunBook.new.Goals as goal

pub returns-clause-begun : goal.returns-clause-begun
returns-clause-begun g c =
    let counts : c.in_ok-counts.counts ≡ map (λ slot. g.D.ApiDevice.faults slot.device) c.args.slots.items = search rules in
    begun_is (g.E.Execution.program c.args.execution) (g.E.Execution.machine c.args.execution) c.new.result.items
    (views g.D.ApiDevice.told g.D.ApiDevice.faults c.args.slots.items) c.in_ok-counts.counts c.args.budget c.requires.start c.new.ensures.items
    (counts ∙ counts_seen g.D.ApiDevice.told g.D.ApiDevice.faults c.args.slots.items)

pub returns-clause-run : goal.returns-clause-run
returns-clause-run g c =
    subst (λ (b : RunView). IsRun b) (sym (returns-clause-begun g c))
    (begins c.devices_tell.ensures.begins (g.E.Execution.program c.args.execution) (views g.D.ApiDevice.told g.D.ApiDevice.faults c.args.slots.items) c.args.budget
    c.requires.makes c.requires.plain c.requires.silent)
