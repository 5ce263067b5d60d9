use Rattle.std.proofs.Common.{◌≡◌, Some, length, sym, ap, arith}
use Rattle.api_listing.specs.Nearest.{class_named, names_of}
use Rattle.bytecode_model.proofs.Climbing.{pushed, upwards_some}
use Rattle.class_index.proofs.search.superclasses.Goals as goal

pub loop-preserved : goal.loop-preserved
loop-preserved c =
    let class = c.in-Some.class.now in
    let found : class_named c.args.classes.now c.loop.at.now ≡ Some class = sym c.in-Some.ensures in
    let up = upwards_some (length c.args.classes.now) c.loop.counter c.args.classes.now c.loop.at.now class (omega (arith, c.loop-test.true, c.len-end.ensures)) found in
    pushed c.loop.names c.add_copy.new.names _ _ _ class.name c.in_ok-add_copy.ensures (ap names_of up) c.loop.invariant
