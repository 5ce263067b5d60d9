use Rattle.std.proofs.Common.{◌≡◌, ℕ, ◌+◌, ◌∙◌, ap, sym, arith}
use Rattle.bytecode_model.specs.ByName.{noted}
use Rattle.bytecode_model.specs.Conditions.{stays_within}
use Rattle.class_linking.proofs.Leaving.{gone_up, leaves_known, sum_leaves}
use Rattle.class_linking.proofs.heights.height_of.Goals as goal

pub loop-steps-init : goal.loop-steps-init
loop-steps-init c m =
    let n : 0 + m ≡ m = omega arith in
    ap (λ (k : ℕ). stays_within k c.args.classes.now c.args.name.now) n

pub loop-steps-preserved : goal.loop-steps-preserved
loop-steps-preserved c = gone_up c.args.classes.now c.args.name.now c.loop-steps.at.now c.loop-steps.steps c.in-Some-named.class.now (sym c.in-Some-named.ensures) c.loop-steps.invariant

pub returns-in-Some : goal.returns-in-Some
returns-in-Some c =
    let classes = c.args.classes.now in
    let at = c.loop-steps.at.now in
    let leaves = c.requires at c.in-Some.height (ap (noted c.args.heights.now) (sym c.as_slice.ensures) ∙ sym c.in-Some.ensures) in
    sum_leaves classes c.args.name.now c.loop-steps.steps c.in-Some.height c.sum.result c.sum.ensures
    (leaves_known classes c.args.name.now at c.loop-steps.steps c.in-Some.height leaves c.loop-steps.invariant)
