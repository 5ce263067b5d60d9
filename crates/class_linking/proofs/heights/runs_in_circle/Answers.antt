use Rattle.std.proofs.Common.{◌≡◌, ◌+◌, Some, length, sym, arith}
use Rattle.api_listing.specs.Nearest.{class_named}
use Rattle.bytecode_model.proofs.Staying.{stays_some}
use Rattle.class_linking.proofs.heights.runs_in_circle.Goals as goal

pub loop-preserved : goal.loop-preserved
loop-preserved c =
    let found : class_named c.args.classes.now c.loop.at.now ≡ Some c.in-Some.class.now = sym c.in-Some.ensures in
    stays_some (length c.args.classes.now + 1) c.loop.counter c.args.classes.now c.loop.at.now c.in-Some.class.now _ (omega arith) found c.loop.invariant
