use Rattle.std.proofs.Common.{◌≡◌, ◌<◌, ◌∙◌, None, length, ap, rules, subst, sym}
use Rattle.std.specs.Prelude.{slice_set}
use Rattle.guest_model.specs.Did.{Did}
use Rattle.guest_model.specs.Stepping.{stepped}
use Rattle.guest_model.specs.declared.machine.Machine.{Machine}
use Rattle.guest_step.proofs.Alike.{with_threads}
use Rattle.guest_step.proofs.Apart.{did_step, sees_own, stands}
use Rattle.guest_step.proofs.stepping.step.Goals as goal

pub replace-requires : goal.replace-requires
replace-requires c =
    let own = c.machine.inside in
    let old : Machine = record { heap = own.heap; statics = own.statics; monitors = own.monitors; threads = own.threads; stopped = own.stopped } in
    let goes : own.stopped ≡ None = grind rules in
    subst (λ (m : Machine). c.args.step.now.thread < length m.threads) (sym c.machine-2.view_is)
    (stands c.args.guest.now old c.args.step.now c.replace-thread.result c.idle.result c.act-made.new.thread c.act-made.new.machine
    c.replace-thread.ensures.was goes c.idle.ensures c.replace-thread.new.self c.replace-thread.ensures.is c.act-made.result c.act-made.ensures)

pub returns : goal.returns
returns c =
    let own = c.machine.inside in
    let old : Machine = record { heap = own.heap; statics = own.statics; monitors = own.monitors; threads = own.threads; stopped = own.stopped } in
    let goes : own.stopped ≡ None = grind rules in
    let left = c.act-made.new.thread in
    let put : c.replace.new.self ≡ slice_set c.act-made.new.machine.threads c.args.step.now.thread left =
    c.replace.ensures.is ∙ ap (λ (m : Machine). slice_set m.threads c.args.step.now.thread left) c.machine-2.view_is in
    let did =
    did_step c.args.guest.now old c.args.step.now c.replace-thread.result c.idle.result left c.act-made.new.machine
    c.replace-thread.ensures.was goes c.idle.ensures c.replace-thread.new.self c.replace-thread.ensures.is c.act-made.result
    c.act-made.ensures c.replace.new.self put in
    let end = c.machine-2.inside in
    let new : Machine = record { heap = end.heap; statics = end.statics; monitors = end.monitors; threads = c.replace.new.self; stopped = end.stopped } in
    let done : Did c.act-made.result c.args.machine.now new (stepped c.args.guest.now c.args.machine.now c.args.step.now) =
    subst (λ (m : Machine). Did c.act-made.result m new (stepped c.args.guest.now m c.args.step.now)) c.machine.view_is
    (subst (λ (m : Machine). Did c.act-made.result old (with_threads m c.replace.new.self) (stepped c.args.guest.now old c.args.step.now)) (sym c.machine-2.view_is) did) in
    record {
      did = done;
      own = sees_own c.events_are_of_their_thread.ensures.own c.args.guest.now c.args.machine.now _ c.args.step.now c.act-made.result done;
    }
