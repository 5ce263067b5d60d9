use Rattle.std.proofs.Common.{◌+◌, ◌-◌, ◌++◌, length, sym, ap, arith, ◌∙◌}
use Rattle.std.specs.Prelude.{reverse}
use Rattle.guest_tables.proofs.ObjectFields.{gathered, nil_after, up_none}
use Rattle.guest_tables.proofs.layout.fields_up.Goals as goal

pub loop-preserved : goal.loop-preserved
loop-preserved c =
    let given = length c.args.guest.now.classes in
    rw c.as_slice-at.ensures
    (gathered c.args.guest.now (given - c.loop.counter) (given - (c.loop.counter + 1)) c.loop.at.now c.in-Some.class.now _ _ _
    (omega (arith, c.loop-test.true, c.count-end.ensures)) (sym c.in-Some.ensures) c.in_ok-push_own-in-Some.ensures c.loop.invariant)

pub returns-in-None : goal.returns-in-None
returns-in-None c =
    nil_after c.loop.fields.items ∙ ap (λ xs. c.loop.fields.items ++ reverse xs) (sym (up_none c.args.guest.now _ c.loop.at.now (sym c.in-None.ensures))) ∙ c.loop.invariant
