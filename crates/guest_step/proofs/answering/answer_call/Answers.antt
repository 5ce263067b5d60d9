use Rattle.std.proofs.Common.{◌≡◌, true, Option, ap, subst, sym, rules, ◌∙◌}
use Rattle.guest_model.specs.declared.machine.Machine.{Machine}
use Rattle.guest_model.specs.Changes.{Change, world_of}
use Rattle.guest_threads.specs.Acts.{ActsIn}
use Rattle.guest_model.proofs.Asks.{answered_is}
use Rattle.guest_step.proofs.answering.answer_call.Goals as goal

pub returns : goal.returns
returns c =
    let is : c.fits_call-fits.result ≡ true = grind rules in
    let heap : c.as_slice.result.now ≡ c.args.machine.now.heap = c.as_slice.ensures ∙ ap (λ (m : Machine). m.heap) c.machine.view_is in
    let fits = rw heap at c.fits_call-fits.ensures in
    subst (λ (o : Option Change). ActsIn c.take_at_once.result c.args.machine.now c.take_at_once.new.machine c.args.thread.now c.take_at_once.new.thread o)
    (sym (answered_is c.args.guest.now (world_of c.args.machine.now) c.args.call.now.number c.args.thread.now c.args.call.now.method c.args.call.now.receiver c.args.call.now.args.now c.args.answer.now true
    (sym is ∙ fits)))
    c.take_at_once.ensures
