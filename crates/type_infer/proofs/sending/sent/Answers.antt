use Rattle.std.proofs.Common.{◌∙◌, subst, sym}
use Rattle.bytecode_model.specs.declared.program.Program.{Program}
use Rattle.type_infer.specs.Solving.{AreBelow, left_by}
use Rattle.type_infer.proofs.Flowing.{goes_below}
use Rattle.type_infer.proofs.Raising.{stays_by}
use Rattle.type_infer.proofs.sending.sent.Goals as goal

pub returns-in-None-clause-raised : goal.returns-in-None-clause-raised
returns-in-None-clause-raised c = rw c.in-None.is c.left.ensures.raised

pub returns-then-goes_well-clause-raised : goal.returns-then-goes_well-clause-raised
returns-then-goes_well-clause-raised c =
    let place = c.args.place.now in
    let to = c.args.to.now in
    let told = c.in-Some.standing.now in
    let below = goes_below place c.args.told.now told (rw (c.frame.ensures, c.frame-in-Some.ensures) at (sym c.goes_well.ensures ∙ c.if-goes_well.true)) in
    rw c.in-Some.is
    (λ order alone height. stays_by to (c.assignable_is_an_order.ensures.reflexive to.program) (left_by place c.args.told.now) told
    (subst (λ (p : Program). AreBelow p (left_by place c.args.told.now) told) (sym c.requires.program) below) (c.rows_follow_the_order.ensures.reflexive to.program told))
