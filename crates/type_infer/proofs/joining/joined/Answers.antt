use Rattle.type_infer.proofs.Raising.{first_told}
use Rattle.type_infer.proofs.joining.joined.Goals as goal

pub returns-in_ok-told-in-None-clause-raised : goal.returns-in_ok-told-in-None-clause-raised
returns-in_ok-told-in-None-clause-raised c order l s h =
    let place = c.args.place.now in
    rw c.in-None.is
    (first_told place (c.assignable_is_an_order.ensures.reflexive place.program) (c.assignable_is_an_order.ensures.transitive place.program order)
    (c.rows_follow_the_order.ensures.reflexive place.program) c.args.locals c.args.stack c.in_ok-told-in-None.told
    (record {
      some = c.in_ok-told-in-None.ensures.some;
      within = c.in_ok-told-in-None.ensures.within;
      height = c.in_ok-told-in-None.ensures.height;
      types = c.in_ok-told-in-None.ensures.locals;
      stack = c.in_ok-told-in-None.ensures.stack;
    }) l s)

pub returns-in-Some-clause-kept : goal.returns-in-Some-clause-kept
returns-in-Some-clause-kept c = let i = c.in-Some.is in let j = c.in-Some.old-is in rw c.in-Some.is c.merged.ensures.kept

pub returns-in-Some-clause-raised : goal.returns-in-Some-clause-raised
returns-in-Some-clause-raised c = rw c.in-Some.is (rw c.as_slice.ensures at c.merged.ensures.raised)
