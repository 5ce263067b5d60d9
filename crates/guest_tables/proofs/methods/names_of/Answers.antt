use Rattle.std.proofs.Common.{subst, List}
use Rattle.bytecode_model.specs.declared.program.Method.{Method}
use Rattle.guest_tables.specs.Methods.{HasMethods}
use Rattle.guest_tables.proofs.Naming.{methods_more}
use Rattle.guest_tables.proofs.methods.names_of.Goals as goal

pub loop-class-preserved : goal.loop-class-preserved
loop-class-preserved c =
    methods_more c.loop-class.methods c.push.new.self c.args.program.now.classes c.as_slice-class-items.result.now c.loop-class.class-index c.in_ok-methods_in.field-0 c.class-item.result
    c.as_slice-class-items.ensures c.loop-class-test.true c.class-item.is c.in_ok-push.ensures.ok
    (subst (λ (ms : List Method). HasMethods c.in_ok-methods_in.field-0 ms) c.as_slice.ensures c.in_ok-methods_in.ensures) c.loop-class.invariant
