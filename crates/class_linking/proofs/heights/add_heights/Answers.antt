use Rattle.std.proofs.Common.{◌≡◌, ◌+◌, sym, arith}
use Rattle.class_linking.proofs.Leaving.{leaves_sooner, with_height}
use Rattle.class_linking.proofs.heights.add_heights.Goals as goal

pub loop-preserved : goal.loop-preserved
loop-preserved c =
    let classes = c.args.classes.now in
    let at = c.loop.at.now in
    let less = c.in-Some-checked_sub.less in
    let one : c.loop.height ≡ less + 1 = omega (arith, c.in-Some-checked_sub.ensures) in
    record {
      known = with_height classes c.loop.heights c.note.new.names at c.loop.height c.loop.invariant.known c.loop.invariant.leaves c.in_ok-note.ensures;
      leaves = leaves_sooner classes at c.loop.height less c.in-Some.class.now (sym c.in-Some.ensures) one c.loop.invariant.leaves;
    }

pub returns-in_default : goal.returns-in_default
returns-in_default c = with_height c.args.classes.now c.loop.heights c.note.new.names c.loop.at.now c.loop.height c.loop.invariant.known c.loop.invariant.leaves c.in_ok-note.ensures
