use Rattle.std.proofs.Common.{refl, Some}
use Rattle.guest_runner.specs.declared.book.DeviceStop.TheVariants as stops
use Rattle.guest_runner.specs.Book.{book_view}
use Rattle.guest_runner.proofs.Keeping.{stopped}
use Rattle.guest_runner.proofs.book.RunBook.fail.Goals as goal

pub returns-clause-run : goal.returns-clause-run
returns-clause-run g c =
    let view = book_view g.E.Execution.program g.E.Execution.machine g.D.ApiDevice.told g.D.ApiDevice.faults in
    let self = c.args.self.now in
    let old = view self in
    let stop = stops.Failed c.args.thread c.args.call in
    let new = view (record {
      execution = c.release.new.self;
      lines = self.lines;
      slots = self.slots;
      counts = self.counts;
      budget = self.budget;
      stop = Some stop;
    }) in
    stopped old new stop c.requires.keeps (c.requires.awaits.asked, c.requires.failed) c.release.ensures.program c.release.ensures.machine refl refl refl refl refl
