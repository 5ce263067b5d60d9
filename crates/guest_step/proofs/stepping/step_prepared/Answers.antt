use Rattle.std.proofs.Common.{◌≡◌, ◌<◌, ◌∙◌, None, Some, length, ap, rules, subst, sym}
use Rattle.std.specs.Prelude.{slice_get, slice_set}
use Rattle.guest_model.specs.Changes.{world_of}
use Rattle.guest_model.specs.Did.{Did}
use Rattle.guest_model.specs.Stepping.{stepped}
use Rattle.guest_model.specs.declared.machine.Choice.TheVariants as choices
use Rattle.guest_model.specs.declared.machine.Machine.{Machine}
use Rattle.guest_model.specs.declared.machine.Step.{Step}
use Rattle.guest_step.specs.Rooms.{IsReadyFor, with_objects}
use Rattle.guest_step.proofs.Alike.{with_threads}
use Rattle.guest_step.proofs.Apart.{did_step, stands}
use Rattle.guest_step.proofs.stepping.step_prepared.Goals as goal

pub act_prepared-made-requires-clause-ready : goal.act_prepared-made-requires-clause-ready
act_prepared-made-requires-clause-ready c =
    let thread = c.replace-thread.result in
    let there : slice_get c.args.machine.now.threads c.args.number ≡ Some thread =
    ap (λ (m : Machine). slice_get m.threads c.args.number) (sym c.machine.view_is) ∙ c.replace-thread.ensures.was in
    subst (λ (m : Machine). IsReadyFor c.args.guest.now (world_of (with_objects m c.args.heap.now.items)) thread thread.doing c.args.rooms.now) (sym c.machine.view_is)
    (c.requires.prepared thread there)

pub replace-requires : goal.replace-requires
replace-requires c =
    let own = c.machine.inside in
    let old : Machine = record { heap = c.args.heap.now.items; statics = own.statics; monitors = own.monitors; threads = own.threads; stopped = own.stopped } in
    let new : Machine = with_objects c.act_prepared-made.new.machine c.act_prepared-made.new.heap.items in
    let goes : own.stopped ≡ None = grind rules in
    subst (λ (m : Machine). c.args.number < length m.threads) (sym c.machine-2.view_is)
    (stands c.args.guest.now old (record { thread = c.args.number; choice = choices.Answer c.args.answer.now }) c.replace-thread.result c.idle.result
    c.act_prepared-made.new.thread new c.replace-thread.ensures.was goes c.idle.ensures c.replace-thread.new.self c.replace-thread.ensures.is c.act_prepared-made.result
    c.act_prepared-made.ensures.acts)

pub returns-clause-did : goal.returns-clause-did
returns-clause-did c =
    let own = c.machine.inside in
    let old : Machine = record { heap = c.args.heap.now.items; statics = own.statics; monitors = own.monitors; threads = own.threads; stopped = own.stopped } in
    let heap = c.act_prepared-made.new.heap.items in
    let new : Machine = with_objects c.act_prepared-made.new.machine heap in
    let step : Step = record { thread = c.args.number; choice = choices.Answer c.args.answer.now } in
    let goes : own.stopped ≡ None = grind rules in
    let left = c.act_prepared-made.new.thread in
    let put : c.replace.new.self ≡ slice_set c.act_prepared-made.new.machine.threads c.args.number left =
    c.replace.ensures.is ∙ ap (λ (m : Machine). slice_set m.threads c.args.number left) c.machine-2.view_is in
    let did =
    did_step c.args.guest.now old step c.replace-thread.result c.idle.result left new
    c.replace-thread.ensures.was goes c.idle.ensures c.replace-thread.new.self c.replace-thread.ensures.is c.act_prepared-made.result
    c.act_prepared-made.ensures.acts c.replace.new.self put in
    subst
    (λ (m : Machine). Did c.act_prepared-made.result (with_objects m c.args.heap.now.items)
    (record { heap = heap; statics = c.machine-2.inside.statics; monitors = c.machine-2.inside.monitors; threads = c.replace.new.self; stopped = c.machine-2.inside.stopped })
    (stepped c.args.guest.now (with_objects m c.args.heap.now.items) step))
    c.machine.view_is
    (subst (λ (m : Machine). Did c.act_prepared-made.result old (with_threads (with_objects m heap) c.replace.new.self) (stepped c.args.guest.now old step)) (sym c.machine-2.view_is) did)
