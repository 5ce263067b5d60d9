use Rattle.std.proofs.Common.{◌≡◌, ◌∙◌, ◌/◌, Bool, false, List, sym, ap, subst, arith}
use Rattle.type_infer.specs.Grouping.{AreGrouped}
use Rattle.type_infer.specs.Solving.{is_marked}
use Rattle.type_infer.proofs.Grouping.{passed_over}
use Rattle.type_infer.proofs.marks.Marks.next.Goals as goal

pub loop-at-preserved-then-not-marked_at : goal.loop-at-preserved-then-not-marked_at
loop-at-preserved-then-not-marked_at c =
    let at = c.loop-at.at in
    let groups = c.self.inside.groups.items in
    let grouped : AreGrouped c.args.self.now groups = subst (λ (marks : List Bool). AreGrouped marks groups) c.self.view_is c.self.invariant.0 in
    let none : is_marked groups (at / 64) ≡ false =
    ap (λ (told : List Bool). is_marked told (at / 64)) (sym c.as_slice.ensures.value) ∙ sym c.marked_at.ensures ∙ c.if-not-marked_at.true in
    (omega (arith, c.loop-at.invariant.0), passed_over c.args.self.now groups c.args.from at grouped none c.loop-at.invariant.1)
