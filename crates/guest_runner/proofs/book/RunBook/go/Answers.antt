use Rattle.std.proofs.Common.{rules, ◌≡◌, ◌++◌, ◌∷◌, [], refl}
use Rattle.event_record.specs.declared.writing.Line.{Line}
use Rattle.guest_model.specs.declared.machine.Choice.TheVariants as choices
use Rattle.guest_runner.specs.Book.{book_view}
use Rattle.guest_runner.proofs.Keeping.{keeps_nothing, line_more}
use Rattle.guest_runner.proofs.book.RunBook.go.Goals as goal

pub returns-clause-run : goal.returns-clause-run
returns-clause-run g c =
    let old = book_view g.E.Execution.program g.E.Execution.machine g.D.ApiDevice.told g.D.ApiDevice.faults c.args.self.now in
    let new = book_view g.E.Execution.program g.E.Execution.machine g.D.ApiDevice.told g.D.ApiDevice.faults
    (record { execution = c.go.new.self; lines = c.push.new.self; slots = c.args.self.now.slots; counts = c.args.self.now.counts; budget = c.args.self.now.budget; stop = c.args.self.now.stop }) in
    let line : Line = record { step = record { thread = c.args.thread; choice = choices.Plain }; event = c.in_ok-event.event } in
    let lines : c.push.new.self.items ≡ c.args.self.now.lines.items ++ line ∷ [] = search rules in
    line_more old new [] line (keeps_nothing old c.requires.run c.requires.unstopped) c.requires.unstopped c.go.ensures.program lines refl refl refl c.requires.room
    c.in_ok-event.ensures.made tt refl
