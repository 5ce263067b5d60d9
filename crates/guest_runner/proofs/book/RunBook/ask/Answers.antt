use Rattle.std.proofs.Common.{◌∙◌}
use Rattle.guest_runner.specs.Book.{book_view}
use Rattle.guest_runner.proofs.Turning.{turned_since}
use Rattle.guest_runner.proofs.book.RunBook.ask.Goals as goal

pub returns-in-Nobody-clause-made : goal.returns-in-Nobody-clause-made
returns-in-Nobody-clause-made g c =
    let view = book_view g.E.Execution.program g.E.Execution.machine g.D.ApiDevice.told g.D.ApiDevice.faults in
    let asked = c.ask_device.ensures.asked in
    turned_since (view c.args.self.now) (view c.ask_device.new.self) (view c.answer_plainly.new.self)
    (asked.program ∙ c.prepare.ensures.program) (asked.machine ∙ c.prepare.ensures.machine) (asked.lines ∙ c.reserve.ensures.items) asked.later
    c.args.thread c.answer_plainly.result c.answer_plainly.ensures.made

pub returns-in-Answered-clause-made : goal.returns-in-Answered-clause-made
returns-in-Answered-clause-made g c =
    let view = book_view g.E.Execution.program g.E.Execution.machine g.D.ApiDevice.told g.D.ApiDevice.faults in
    let asked = c.ask_device.ensures.asked in
    turned_since (view c.args.self.now) (view c.ask_device.new.self) (view c.answer.new.self)
    (asked.program ∙ c.prepare.ensures.program) (asked.machine ∙ c.prepare.ensures.machine) (asked.lines ∙ c.reserve.ensures.items) asked.later
    c.args.thread c.answer.result c.answer.ensures.made

pub returns-in-Refused-Failed-clause-made : goal.returns-in-Refused-Failed-clause-made
returns-in-Refused-Failed-clause-made g c =
    let view = book_view g.E.Execution.program g.E.Execution.machine g.D.ApiDevice.told g.D.ApiDevice.faults in
    let asked = c.ask_device.ensures.asked in
    turned_since (view c.args.self.now) (view c.ask_device.new.self) (view c.fail.new.self)
    (asked.program ∙ c.prepare.ensures.program) (asked.machine ∙ c.prepare.ensures.machine) (asked.lines ∙ c.reserve.ensures.items) asked.later
    c.args.thread c.fail.result c.fail.ensures.made
