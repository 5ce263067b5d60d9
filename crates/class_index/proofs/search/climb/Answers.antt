use Rattle.std.proofs.Common.{◌≡◌, ◌∙◌, ◌++◌, Some, length, sym, ap, arith}
use Rattle.api_listing.specs.Nearest.{class_named, names_of, interfaces_of}
use Rattle.bytecode_model.proofs.Climbing.{upwards_some, pushed, appended}
use Rattle.class_index.proofs.search.climb.Goals as goal

pub loop-preserved : goal.loop-preserved
loop-preserved c =
    let class = c.in-Some.class.now in
    let found : class_named c.args.classes.now c.loop.at.now ≡ Some class = sym c.in-Some.ensures in
    let up = upwards_some (length c.args.classes.now) c.loop.counter c.args.classes.now c.loop.at.now class (omega (arith, c.loop-test.true, c.len-end.ensures)) found in
    record {
      named = pushed c.loop.names c.add_copy.new.names _ _ _ class.name c.in_ok-add_copy.ensures (ap names_of up) c.loop.invariant.named;
      above = appended c.loop.interfaces c.add_names.new.names class.interfaces _ _ _ (c.in_ok-add_names.ensures ∙ ap (λ ns. c.loop.interfaces ++ ns) c.as_slice.ensures) (ap interfaces_of up) c.loop.invariant.above;
    }
