use Rattle.std.proofs.Common.{refl, subst, arith}
use Rattle.std.specs.Prelude.{IfSome}
use Rattle.class_index.specs.Library.{IsShared}
use Rattle.class_index.proofs.Sharing.{shared_below}
use Rattle.class_index.proofs.library.add_class.Goals as goal

pub add_steps-requires-clause-above : goal.add_steps-requires-clause-above
add_steps-requires-clause-above c =
    let owners = c.args.owners.now in
    let classes = c.args.classes.now in
    let lists = c.above_of.new.shared.lists in
    let end = c.in-Some.end.now in
    let above = c.in-Some-2.above in
    let known = subst (λ o. IfSome o (IsShared owners classes lists end)) c.in-Some-2.is c.in_ok-above.ensures.is in
    shared_below owners classes lists c.args.name.now end c.in-Some.steps above (record { place = above.place; height = c.in-Some-checked_add.height }) c.in-Some.ensures known refl (omega (arith, c.in-Some-checked_add.ensures))
