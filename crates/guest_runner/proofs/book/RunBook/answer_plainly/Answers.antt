use Rattle.guest_runner.specs.Book.{book_view}
use Rattle.guest_runner.proofs.Keeping.{answers_plainly, keeps_answer, plainly_fits}
use Rattle.guest_runner.proofs.book.RunBook.answer_plainly.Goals as goal

pub take-requires-clause-keeps : goal.take-requires-clause-keeps
take-requires-clause-keeps g c =
    let book = book_view g.E.Execution.program g.E.Execution.machine g.D.ApiDevice.told g.D.ApiDevice.faults c.args.self.now in
    let answer = c.plain_or_null-answer.result in
    keeps_answer book c.args.thread c.args.call answer c.requires.awaits (c.requires.keeps answer)

pub take-requires-clause-fits : goal.take-requires-clause-fits
take-requires-clause-fits g c =
    let book = book_view g.E.Execution.program g.E.Execution.machine g.D.ApiDevice.told g.D.ApiDevice.faults c.args.self.now in
    let answer = c.plain_or_null-answer.result in
    plainly_fits book _ c.args.thread c.args.call answer (c.requires.keeps answer) c.requires.awaits c.plain_or_null-answer.ensures

pub take-requires-clause-plain : goal.take-requires-clause-plain
take-requires-clause-plain g c =
    let book = book_view g.E.Execution.program g.E.Execution.machine g.D.ApiDevice.told g.D.ApiDevice.faults c.args.self.now in
    answers_plainly book c.args.thread c.args.call c.plain_or_null-answer.result c.requires.awaits c.plain_or_null-answer.ensures
