use Rattle.std.proofs.Common.{◌∙◌, subst, sym}
use Rattle.bytecode_model.specs.declared.program.Program.{Program}
use Rattle.type_infer.specs.Solving.{AreBelow, thrown_to}
use Rattle.type_infer.proofs.Flowing.{catches_below}
use Rattle.type_infer.proofs.Raising.{stays_by}
use Rattle.type_infer.proofs.sending.thrown.Goals as goal

pub returns-in-None-clause-raised : goal.returns-in-None-clause-raised
returns-in-None-clause-raised c = rw c.in-None.is c.caught.ensures.raised

pub returns-then-catches_well-clause-raised : goal.returns-then-catches_well-clause-raised
returns-then-catches_well-clause-raised c =
    let place = c.args.place.now in
    let to = c.args.to.now in
    let told = c.in-Some.standing.now in
    let handler = c.args.handler.now in
    let below =
    catches_below place c.args.told.now handler told (c.assignable_is_an_order.ensures.reflexive place.program) (rw (c.frame.ensures, c.frame-in-Some.ensures) at (sym c.catches_well.ensures ∙ c.if-catches_well.true)) in
    rw c.in-Some.is
    (λ order within room height. stays_by to (c.assignable_is_an_order.ensures.reflexive to.program) (thrown_to handler place c.args.told.now) told
    (subst (λ (p : Program). AreBelow p (thrown_to handler place c.args.told.now) told) (sym c.requires.program) below.below)
    (c.rows_follow_the_order.ensures.reflexive to.program told))
