use Rattle.guest_runner.specs.Book.{book_view, identity}
use Rattle.guest_runner.proofs.running.run.Given as goal

abbrev pub ghosts-run_named : goal.ghosts-run_named
ghosts-run_named g a = record {
  told = g.D.ApiDevice.told;
  faults = g.D.ApiDevice.faults;
  named = identity (book_view g.E.Execution.program g.E.Execution.machine g.D.ApiDevice.told g.D.ApiDevice.faults a.book);
}
