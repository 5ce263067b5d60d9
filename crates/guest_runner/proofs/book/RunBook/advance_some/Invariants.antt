use Rattle.std.proofs.Common.{◌≡◌, ◌+◌, length}
use Rattle.guest_runner.specs.Book.{IsRun, book_view, identity}
use Rattle.guest_runner.proofs.book.RunBook.advance_some.Given as goal

abbrev pub invariant-loop-turn : goal.invariant-loop-turn
invariant-loop-turn g l = record {
  run : IsRun (book_view g.E.Execution.program g.E.Execution.machine g.D.ApiDevice.told g.D.ApiDevice.faults l.self);
  ready : g.E.Execution.is_ready l.self.execution;
  made : length l.self.lines.items ≡ length l.fn.self.lines.items + l._turn;
  same : identity (book_view g.E.Execution.program g.E.Execution.machine g.D.ApiDevice.told g.D.ApiDevice.faults l.self)
      ≡ identity (book_view g.E.Execution.program g.E.Execution.machine g.D.ApiDevice.told g.D.ApiDevice.faults l.fn.self);
}
