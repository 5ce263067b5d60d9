use Rattle.std.proofs.Common.{◌≡◌, ◌∙◌, None, ap, sym, rules}
use Rattle.std.specs.Prelude.{slice_get}
use Rattle.guest_model.specs.Monitors.{all_given_up}
use Rattle.guest_threads.proofs.Unwinding.{at_end, caught_now, goes_on, it_did, it_did_not}
use Rattle.guest_threads.proofs.throwing.unwind.Goals as goal

pub returns-then-catch_in-clause-frames : goal.returns-then-catch_in-clause-frames
returns-then-catch_in-clause-frames c =
    let did = it_did c.catch_in.result c.top_mut.result.now c.catch_in.new.frame _ c.if-catch_in.true c.catch_in.ensures in
    sym (caught_now c.args.program.now c.args.thrown c.args.class.now c.loop-thrown.frames c.top_mut.result.now c.catch_in.new.frame c.top_mut.ensures.top did).0
    ∙ c.loop-thrown.invariant.0

pub returns-then-catch_in-clause-locks : goal.returns-then-catch_in-clause-locks
returns-then-catch_in-clause-locks c =
    let did = it_did c.catch_in.result c.top_mut.result.now c.catch_in.new.frame _ c.if-catch_in.true c.catch_in.ensures in
    sym (ap (all_given_up c.loop-thrown.monitors c.args.number)
    (caught_now c.args.program.now c.args.thrown c.args.class.now c.loop-thrown.frames c.top_mut.result.now c.catch_in.new.frame c.top_mut.ensures.top did).1)
    ∙ c.loop-thrown.invariant.1

pub loop-thrown-preserved : goal.loop-thrown-preserved
loop-thrown-preserved c =
    let did_not = it_did_not c.catch_in.result c.top_mut.result.now c.catch_in.new.frame _ c.if-catch_in.false c.catch_in.ensures in
    let on = goes_on c.args.program.now c.args.thrown c.args.class.now c.loop-thrown.frames c.leave_top.new.frames c.top_mut.result.now c.catch_in.new.frame
    c.loop-thrown.monitors c.leave_top.new.monitors c.args.number c.top_mut.ensures.top did_not.0 did_not.1 c.leave_top.ensures.left c.leave_top.ensures.given in
    (on.0 ∙ c.loop-thrown.invariant.0, on.1 ∙ c.loop-thrown.invariant.1)

pub returns-clause-frames : goal.returns-clause-frames
returns-clause-frames c =
    let none : slice_get c.loop-thrown.frames 0 ≡ None = grind rules in
    (at_end c.args.program.now c.args.thrown c.args.class.now c.loop-thrown.frames none).0 ∙ c.loop-thrown.invariant.0

pub returns-clause-locks : goal.returns-clause-locks
returns-clause-locks c =
    let none : slice_get c.loop-thrown.frames 0 ≡ None = grind rules in
    sym (ap (all_given_up c.loop-thrown.monitors c.args.number) (at_end c.args.program.now c.args.thrown c.args.class.now c.loop-thrown.frames none).1)
    ∙ c.loop-thrown.invariant.1
