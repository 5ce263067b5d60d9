use Rattle.std.proofs.Common.{◌≡◌, Option, Ok, Result, rules, subst}
use Rattle.mon_base.specs.declared.memory.NoMemory.{NoMemory}
use Rattle.guest_model.specs.Changes.{World}
use Rattle.guest_model.specs.HeapOperations.{heap_result}
use Rattle.guest_operations.specs.declared.completion.Completion.{Completion}
use Rattle.guest_operations.specs.Operates.{Operates, at}
use Rattle.guest_step.proofs.InFrame.{in_frame}
use Rattle.guest_step.proofs.operations.operation_in.Goals as goal

pub returns : goal.returns
returns c =
    let is : c.operate.result ≡ Ok c.in_ok-completion.completion = grind rules in
    let did : Operates (Ok c.in_ok-completion.completion) (at c.args.heap.now c.args.statics.now c.args.frame.now.stack) (at c.operate.new.heap c.operate.new.statics c.operate.new.stack)
    (λ (world : World). heap_result c.args.guest.now world c.args.what c.args.target.now c.args.frame.now.stack.items) =
    subst (λ (r : Result (Option Completion) NoMemory). Operates r (at c.args.heap.now c.args.statics.now c.args.frame.now.stack) (at c.operate.new.heap c.operate.new.statics c.operate.new.stack)
    (λ (world : World). heap_result c.args.guest.now world c.args.what c.args.target.now c.args.frame.now.stack.items)) is c.operate.ensures in
    in_frame c.in_ok-completion.completion c.args.frame.now c.args.heap.now c.operate.new.heap c.args.statics.now c.operate.new.statics c.operate.new.stack
    (λ (world : World). heap_result c.args.guest.now world c.args.what c.args.target.now c.args.frame.now.stack.items) c.at_after-frame.result did c.at_after-frame.ensures
