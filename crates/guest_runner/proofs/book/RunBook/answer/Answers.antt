use Rattle.std.proofs.Common.{◌≡◌, false, refl, Some}
use Rattle.guest_model.specs.Asking.{takes_answer}
use Rattle.guest_runner.specs.declared.book.DeviceStop.TheVariants as stops
use Rattle.guest_runner.specs.Book.{book_view}
use Rattle.guest_runner.proofs.Keeping.{answers_else, stopped}
use Rattle.guest_runner.proofs.book.RunBook.answer.Goals as goal

pub returns-then-not-answer_fits-clause-run : goal.returns-then-not-answer_fits-clause-run
returns-then-not-answer_fits-clause-run g c =
    let view = book_view g.E.Execution.program g.E.Execution.machine g.D.ApiDevice.told g.D.ApiDevice.faults in
    let self = c.args.self.now in
    let old = view self in
    let stop = stops.Kind c.args.thread c.args.call c.args.answer in
    let new = view (record {
      execution = c.release.new.self;
      lines = self.lines;
      slots = self.slots;
      counts = self.counts;
      budget = self.budget;
      stop = Some stop;
    }) in
    let apart : takes_answer old.program old.machine c.args.thread c.args.answer ≡ false = cc in
    stopped old new stop c.requires.keeps (c.requires.awaits.asked, apart, c.requires.somebody) c.release.ensures.program c.release.ensures.machine refl refl refl refl refl

pub take-requires-clause-plain : goal.take-requires-clause-plain
take-requires-clause-plain g c =
    let book = book_view g.E.Execution.program g.E.Execution.machine g.D.ApiDevice.told g.D.ApiDevice.faults c.args.self.now in
    answers_else book c.args.thread c.args.call c.args.answer c.requires.awaits c.requires.somebody
