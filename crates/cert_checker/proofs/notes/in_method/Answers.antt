use Rattle.std.proofs.Common.{◌≡◌, ◌+◌, ◌-◌, ◌∙◌, Some, None, sym, refl, arith}
use Rattle.block_logic.specs.Accepted.{reached_fault}
use Rattle.cert_checker.specs.Places.{first_from}
use Rattle.cert_checker.proofs.Noted.{step_from}
use Rattle.cert_checker.proofs.notes.in_method.Goals as goal

pub returns-in-Some : goal.returns-in-Some
returns-in-Some c =
    let f = reached_fault c.args.rules.now c.args.frames.now c.args.told.now c.args.method.now in
    let found : f c.loop-left.at ≡ Some c.in-Some.rule = sym c.reached_fault.ensures ∙ c.in-Some.is in
    let now : first_from f c.loop-left.at c.loop-left.left ≡ Some (c.loop-left.at, c.in-Some.rule) = step_from f c.loop-left.at c.loop-left.left (omega (arith, c.loop-left-test.true)) ∙ rw found refl in
    sym now ∙ c.loop-left.invariant.same

pub loop-left-preserved : goal.loop-left-preserved
loop-left-preserved c =
    let f = reached_fault c.args.rules.now c.args.frames.now c.args.told.now c.args.method.now in
    let none : f c.loop-left.at ≡ None = sym c.reached_fault.ensures ∙ c.in_default.is in
    let now : first_from f c.loop-left.at c.loop-left.left ≡ first_from f (c.loop-left.at + 1) (c.loop-left.left - 1) = step_from f c.loop-left.at c.loop-left.left (omega (arith, c.loop-left-test.true)) ∙ rw none refl in
    record { same = sym now ∙ c.loop-left.invariant.same; count = omega (arith, c.loop-left.invariant.count, c.loop-left-test.true) }
