use Rattle.std.proofs.Common.{◌≡◌, Some, rules}
use Rattle.std.specs.Prelude.{option_map}
use Rattle.guest_model.specs.Calling.{desc_named, is_static_call}
use Rattle.guest_model.specs.Calls.{arity, taken}
use Rattle.guest_threads.specs.Calls.{taken_from}
use Rattle.guest_step.proofs.Called.{call_acts}
use Rattle.guest_step.proofs.calling.call.Goals as goal

pub returns : goal.returns
returns c =
    let counted : Some c.in-Some.count ≡ option_map arity (desc_named c.args.guest.now c.args.target.now) = grind rules in
    let passed : Some (taken_from c.in-Some-top.frame.now.stack.items c.in-Some-2.call) ≡ taken (is_static_call c.args.how) c.in-Some.count c.in-Some-top.frame.now.stack.items = grind rules in
    let number : c.in-Some-2.call.number ≡ c.args.number = grind rules in
    call_acts c.args.guest.now c.args.machine.now c.call_named.new.machine c.args.thread.now c.call_named.new.thread c.args.how c.args.target.now c.in-Some-top.frame.now
    c.in-Some.count c.args.number c.in-Some-2.call c.call_named.result (grind rules) counted passed number c.call_named.ensures
