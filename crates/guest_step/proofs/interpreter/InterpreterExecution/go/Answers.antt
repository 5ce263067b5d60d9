use Rattle.std.proofs.Common.{◌≡◌, ◌++◌, List, None, length, ap, sym, ◌∙◌, arith}
use Rattle.guest_heap.specs.declared.thread.Thread.{Thread}
use Rattle.guest_model.specs.declared.machine.Machine.{Machine}
use Rattle.guest_model.specs.declared.machine.Choice.TheVariants as choices
use Rattle.guest_model.specs.declared.machine.Step.{Step}
use Rattle.guest_step.specs.Living.{living_at, without_ended}
use Rattle.guest_step.specs.Rooms.{Run}
use Rattle.guest_step.proofs.Growing.{not_apart, threads_after}
use Rattle.guest_step.proofs.UpToDate.{brought_up_to_date}
use Rattle.guest_step.proofs.interpreter.InterpreterExecution.go.Goals as goal

pub invariant_of-self-in-Ok : goal.invariant_of-self-in-Ok
invariant_of-self-in-Ok c =
    let none : c.self.inside.apart ≡ None = ap (λ (r : Run). r.apart) c.self.view_is ∙ c.requires.ready in
    let next : Step = record { thread = c.args.thread; choice = choices.Plain } in
    let grown = threads_after c.steps_add_one.ensures.one c.self.inside.guest c.self.inside.machine c.step.new.machine next c.step.result c.step.ensures.did in
    let few = c.in_ok-make_place_for_thread.ensures.one.few in
    let count = length c.threads-count.result.now in
    let counted : count ≡ length c.self.inside.machine.threads = ap (λ (ts : List Thread). length ts) (c.threads-count.ensures ∙ ap (λ (m : Machine). m.threads) c.view.ensures) in
    let kept =
    c.bring_up_to_date.ensures
    ∙ ap (λ (m : Machine). without_ended m c.args.thread c.make_place_for_thread.new.living.items ++ living_at m.threads count) c.view-in-Ok.ensures in
    record {
      names = c.self.invariant.names;
      threads = omega arith;
      living =
          brought_up_to_date c.self.inside.guest c.self.inside.machine c.step.new.machine next c.in-Ok.event count c.make_place_for_thread.new.living.items
          c.bring_up_to_date.new.living.items c.in-Ok.ensures.did (c.in_ok-make_place_for_thread.ensures.same ∙ c.self.invariant.living) counted kept;
      waiting = not_apart _ c.self.inside.apart none;
    }

pub returns-in-Ok-clause-made : goal.returns-in-Ok-clause-made
returns-in-Ok-clause-made c =
    let none : c.self.inside.apart ≡ None = ap (λ (r : Run). r.apart) c.self.view_is ∙ c.requires.ready in
    rw (sym c.self.view_is, none) c.in-Ok.ensures.did

pub unreachable-requires : goal.unreachable-requires
unreachable-requires c =
    let none : c.self.inside.apart ≡ None = ap (λ (r : Run). r.apart) c.self.view_is ∙ c.requires.ready in
    let did = rw c.in-Err-NotEnabled.field-0-is at c.in-Err-NotEnabled.ensures.did in
    let made = rw (sym c.self.view_is, none) at c.requires.made in
    let wrong = rw did.0 at made in absurd cc
