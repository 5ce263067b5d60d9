use Rattle.std.proofs.Common.{◌≡◌, ◌+◌, ◌-◌, Option, length, sym, ap, arith, ◌∙◌}
use Rattle.std.specs.Option.{option_map_or}
use Rattle.bytecode_model.specs.declared.program.LinkedClass.{LinkedClass}
use Rattle.bytecode_model.specs.declared.program.Program.{Program}
use Rattle.guest_tables.specs.Layout.{own_count}
use Rattle.guest_tables.proofs.ObjectFields.{counted}
use Rattle.guest_tables.proofs.fields.count_of.Goals as goal

pub loop-preserved : goal.loop-preserved
loop-preserved c =
    let given = length c.args.program.now.classes in
    let count : c.len-given.result ≡ given = c.len-given.ensures ∙ ap (λ (p : Program). length p.classes) c.program.ensures in
    let own : c.own_count_of-own.result ≡ own_count c.in-Some.class.now.file =
    c.own_count_of-own.ensures ∙ ap (λ (o : Option LinkedClass). option_map_or (λ (of : LinkedClass). own_count of.file) o 0) (sym c.in-Some.ensures) in
    rw c.as_slice-at.ensures
    (counted c.args.program.now (given - c.loop.counter) (given - (c.loop.counter + 1)) c.loop.at.now c.in-Some.class.now c.loop.count c.own_count_of-own.result c.in_ok-more.more _
    (omega (arith, c.loop-test.true)) (sym c.in-Some.ensures) own c.in_ok-more.ensures c.loop.invariant)
