use Rattle.std.proofs.Common.{◌≡◌, ◌++◌, ◌∙◌, List, length, ap, arith, sym}
use Rattle.guest_heap.specs.declared.thread.Thread.{Thread}
use Rattle.guest_model.specs.declared.machine.Choice.TheVariants as choices
use Rattle.guest_model.specs.declared.machine.Machine.{Machine}
use Rattle.guest_model.specs.declared.machine.Step.{Step}
use Rattle.guest_step.specs.Living.{living_at, living_of, without_ended}
use Rattle.guest_step.specs.Rooms.{with_objects}
use Rattle.guest_step.proofs.Growing.{not_apart, threads_after}
use Rattle.guest_step.proofs.UpToDate.{brought_up_to_date}
use Rattle.guest_step.proofs.interpreter.InterpreterExecution.take.Goals as goal

pub invariant_of-self : goal.invariant_of-self
invariant_of-self c =
    let old : Machine = with_objects c.self.inside.machine c.in-Some.heap.items in
    let new : Machine = with_objects c.step_prepared-made.new.machine c.step_prepared-made.new.heap.items in
    let next : Step = record { thread = c.args.thread; choice = choices.Answer c.args.answer.now } in
    let grown = threads_after c.steps_add_one.ensures.one c.self.inside.guest old new next c.step_prepared-made.result c.step_prepared-made.ensures.did in
    let waits = rw (sym c.in-Some.ensures.value) at c.self.invariant.waiting in
    let few = waits.few in
    let count = length c.threads-count.result.now in
    let counted : count ≡ length old.threads = ap (λ (ts : List Thread). length ts) (c.threads-count.ensures ∙ ap (λ (m : Machine). m.threads) c.view.ensures) in
    let all : length c.put_objects.new.machine.threads ≡ length new.threads = ap (λ (m : Machine). length m.threads) c.put_objects.ensures in
    let kept =
    c.bring_up_to_date.ensures
    ∙ ap (λ (m : Machine). without_ended m c.args.thread c.self.inside.living.items ++ living_at m.threads count) (c.view-in-Ok.ensures ∙ c.put_objects.ensures) in
    record {
      names = c.self.invariant.names;
      threads = omega arith;
      living =
          brought_up_to_date c.self.inside.guest old new next c.in-Ok.event count c.self.inside.living.items c.bring_up_to_date.new.living.items c.in-Ok.ensures.did
          c.self.invariant.living counted kept
          ∙ ap (λ (m : Machine). living_of m.threads) (sym c.put_objects.ensures);
      waiting = not_apart _ c.take.new.self c.in-Some.ensures.after;
    }
