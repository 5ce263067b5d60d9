use Rattle.std.proofs.Common.{rules, ◌≡◌, length, sym, subst}
use Rattle.std.specs.Prelude.{drop}
use Rattle.std.specs.Vec.{with_items}
use Rattle.guest_runner.specs.Asking.{HasAsked}
use Rattle.guest_runner.specs.Book.{IsRun, book_view}
use Rattle.guest_runner.proofs.Asked.{comes, has_asked, over}
use Rattle.guest_runner.proofs.Devices.{take_whole}
use Rattle.guest_runner.proofs.book.RunBook.ask_device.Goals as goal

pub returns-clause-asked : goal.returns-clause-asked
returns-clause-asked g c =
    let told = g.D.ApiDevice.told in
    let faults = g.D.ApiDevice.faults in
    let self = c.args.self.now in
    let old = book_view g.E.Execution.program g.E.Execution.machine told faults self in
    let before = c.as_mut_slice.result.now in
    let after = c.ask_first.new.slots in
    let call = c.args.call.now in
    let book = over told faults old.program old.machine old.lines old.counts old.budget old.stop call before after in
    let long : length after ≡ self.slots.len = search rules in
    let was : before ≡ self.slots.items = search rules in
    let is : (with_items self.slots after).items ≡ after = take_whole self.slots.len after (drop (length after) self.slots.items) long in
    let run : IsRun (book before) = subst (λ slots. IsRun (book slots)) (sym was) c.requires.run in
    let asked = c.ask_first.ensures in
    let came = comes told faults old.program old.machine old.lines old.counts old.budget old.stop call before after run c.requires.awaits.unstopped asked.later
    c.ask_first.result asked.nobody asked.first asked.others asked.failed asked.tells asked.unasked in
    let has : HasAsked call c.ask_first.result (book before) (book after) =
    has_asked told faults old.program old.machine old.lines old.counts old.budget old.stop call before after run c.requires.awaits.unstopped asked.later c.ask_first.result came in
    subst (λ slots. HasAsked call c.ask_first.result (book slots) (book (with_items self.slots after).items)) was
    (subst (λ slots. HasAsked call c.ask_first.result (book before) (book slots)) (sym is) has)
