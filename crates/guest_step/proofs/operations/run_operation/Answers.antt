use Rattle.std.proofs.Common.{◌≡◌, None, Option, Ok, Result, Some, rules, subst, sym}
use Rattle.mon_base.specs.declared.memory.NoMemory.{NoMemory}
use Rattle.guest_heap.specs.declared.thread.Thread.{Thread}
use Rattle.guest_model.specs.Changes.{World, world_of}
use Rattle.guest_model.specs.Stepping.{Acting, operates}
use Rattle.guest_model.specs.HeapOperations.{heap_result}
use Rattle.guest_model.specs.declared.machine.Machine.{Machine}
use Rattle.guest_operations.specs.declared.completion.Completion.{Completion}
use Rattle.guest_operations.specs.declared.completion.Completion.TheVariants as completions
use Rattle.guest_threads.specs.Acts.{ActsIn, acting}
use Rattle.guest_step.specs.InFrame.{OperatesIn, inside}
use Rattle.guest_step.proofs.InFrame.{sharing, operates_nowhere, operates_on, operates_thrown}
use Rattle.guest_step.proofs.operations.run_operation.Goals as goal

pub returns-in-None : goal.returns-in-None
returns-in-None c =
    let own = c.machine.inside in
    let old : Machine = record { heap = own.heap; statics = own.statics; monitors = own.monitors; threads = own.threads; stopped = own.stopped } in
    let is : c.operation_in.result ≡ Ok None = grind rules in
    let nowhere =
    operates_nowhere c.args.guest.now old c.args.number c.args.thread.now c.args.what c.args.target.now c.top_mut-frame.result.now c.top_mut-frame.ensures.top
    c.operation_in.new.heap c.operation_in.new.statics c.operation_in.new.frame
    (subst (λ (r : Result (Option Completion) NoMemory). OperatesIn r (inside own.heap own.statics c.top_mut-frame.result.now)
    (inside c.operation_in.new.heap c.operation_in.new.statics c.operation_in.new.frame)
    (λ (world : World). heap_result c.args.guest.now world c.args.what c.args.target.now c.top_mut-frame.result.now.stack.items)) is c.operation_in.ensures) in (
      subst (λ (m : Machine). acting c.args.number c.args.thread.now c.args.thread.now.frames (λ (a : Acting). operates c.args.guest.now (world_of m) a c.args.what c.args.target.now) ≡ None) c.machine.view_is nowhere.0,
      subst (λ (m : Machine). sharing old c.operation_in.new.heap c.operation_in.new.statics ≡ m) c.machine.view_is nowhere.1,
      nowhere.2,
    )

pub returns-in-Some-Goes : goal.returns-in-Some-Goes
returns-in-Some-Goes c =
    let own = c.machine.inside in
    let old : Machine = record { heap = own.heap; statics = own.statics; monitors = own.monitors; threads = own.threads; stopped = own.stopped } in
    let is : c.operation_in.result ≡ Ok (Some completions.Goes) = grind rules in
    subst (λ (m : Machine). ActsIn (Ok None) m (sharing old c.operation_in.new.heap c.operation_in.new.statics) c.args.thread.now c.keep_running.new.thread
    (acting c.args.number c.args.thread.now c.args.thread.now.frames (λ (a : Acting). operates c.args.guest.now (world_of m) a c.args.what c.args.target.now)))
    c.machine.view_is
    (subst (λ (left : Thread). ActsIn (Ok None) old (sharing old c.operation_in.new.heap c.operation_in.new.statics) c.args.thread.now left
    (acting c.args.number c.args.thread.now c.args.thread.now.frames (λ (a : Acting). operates c.args.guest.now (world_of old) a c.args.what c.args.target.now)))
    (sym c.keep_running.ensures)
    (operates_on c.args.guest.now old c.args.number c.args.thread.now c.args.what c.args.target.now c.top_mut-frame.result.now c.top_mut-frame.ensures.top
    c.operation_in.new.heap c.operation_in.new.statics c.operation_in.new.frame
    (subst (λ (r : Result (Option Completion) NoMemory). OperatesIn r (inside own.heap own.statics c.top_mut-frame.result.now)
    (inside c.operation_in.new.heap c.operation_in.new.statics c.operation_in.new.frame)
    (λ (world : World). heap_result c.args.guest.now world c.args.what c.args.target.now c.top_mut-frame.result.now.stack.items)) is c.operation_in.ensures)))

pub returns-in-Some-Throws : goal.returns-in-Some-Throws
returns-in-Some-Throws c =
    let own = c.machine.inside in
    let old : Machine = record { heap = own.heap; statics = own.statics; monitors = own.monitors; threads = own.threads; stopped = own.stopped } in
    let is : c.operation_in.result ≡ Ok (Some (completions.Throws c.in-Some-Throws.thrown)) = grind rules in
    subst (λ (m : Machine). ActsIn c.throw_new.result m c.throw_new.new.machine c.args.thread.now c.throw_new.new.thread
    (acting c.args.number c.args.thread.now c.args.thread.now.frames (λ (a : Acting). operates c.args.guest.now (world_of m) a c.args.what c.args.target.now)))
    c.machine.view_is
    (operates_thrown c.args.guest.now old c.args.number c.args.thread.now c.args.what c.args.target.now c.top_mut-frame.result.now c.top_mut-frame.ensures.top
    c.operation_in.new.heap c.operation_in.new.statics c.operation_in.new.frame c.in-Some-Throws.thrown c.throw_new.result c.throw_new.new.machine c.throw_new.new.thread c.name.result.now
    (subst (λ (r : Result (Option Completion) NoMemory). OperatesIn r (inside own.heap own.statics c.top_mut-frame.result.now)
    (inside c.operation_in.new.heap c.operation_in.new.statics c.operation_in.new.frame)
    (λ (world : World). heap_result c.args.guest.now world c.args.what c.args.target.now c.top_mut-frame.result.now.stack.items)) is c.operation_in.ensures)
    c.name.ensures (rw (← c.indexed.ensures.program) c.throw_new.ensures))
