use Rattle.std.proofs.Common.{rules, ◌≡◌, ◌++◌, ◌∷◌, [], refl}
use Rattle.event_record.specs.declared.writing.Line.{Line}
use Rattle.guest_model.specs.declared.machine.Choice.TheVariants as choices
use Rattle.guest_model.specs.LibraryCalls.{answered_by}
use Rattle.guest_runner.specs.Book.{book_view}
use Rattle.guest_runner.proofs.Keeping.{line_more, unstopped}
use Rattle.guest_runner.proofs.book.RunBook.take.Goals as goal

pub returns-clause-run : goal.returns-clause-run
returns-clause-run g c =
    let view = book_view g.E.Execution.program g.E.Execution.machine g.D.ApiDevice.told g.D.ApiDevice.faults in
    let old = view c.args.self.now in
    let new = view (record {
      execution = c.take-event.new.self;
      lines = c.push.new.self;
      slots = c.args.self.now.slots;
      counts = c.args.self.now.counts;
      budget = c.args.self.now.budget;
      stop = c.args.self.now.stop;
    }) in
    let line : Line = record { step = record { thread = c.args.thread; choice = choices.Answer c.args.answer }; event = c.take-event.result } in
    let lines : c.push.new.self.items ≡ c.args.self.now.lines.items ++ line ∷ [] = search rules in
    let more = answered_by old.program old.machine c.args.thread (choices.Answer c.args.answer) in
    line_more old new more line (unstopped old more c.requires.keeps) c.requires.unstopped c.take-event.ensures.program lines refl refl refl
    c.requires.room c.take-event.ensures.made c.answers_bytes.ensures refl
