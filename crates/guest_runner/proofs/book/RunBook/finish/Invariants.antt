use Rattle.std.proofs.Common.{◌≡◌, ◌-◌, length}
use Rattle.guest_runner.specs.Book.{IsRun, book_view, identity}
use Rattle.guest_runner.proofs.book.RunBook.finish.Given as goal

abbrev pub invariant-loop-self : goal.invariant-loop-self
invariant-loop-self g l = record {
  run : IsRun (book_view g.E.Execution.program g.E.Execution.machine g.D.ApiDevice.told g.D.ApiDevice.faults l.self);
  ready : g.E.Execution.is_ready l.self.execution;
  same : identity (book_view g.E.Execution.program g.E.Execution.machine g.D.ApiDevice.told g.D.ApiDevice.faults l.self)
      ≡ identity (book_view g.E.Execution.program g.E.Execution.machine g.D.ApiDevice.told g.D.ApiDevice.faults l.fn.self);
}

abbrev pub decreases-loop-self : goal.decreases-loop-self
decreases-loop-self g l = l.self.budget - length l.self.lines.items
