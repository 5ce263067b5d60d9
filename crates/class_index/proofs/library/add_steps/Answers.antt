use Rattle.std.proofs.Common.{refl, arith}
use Rattle.class_index.proofs.Sharing.{shared_above, with_shared}
use Rattle.class_index.proofs.library.add_steps.Goals as goal

pub returns-in_default : goal.returns-in_default
returns-in_default c =
    with_shared c.args.owners.now c.args.classes.now c.loop.shared (record { places = c.note.new.names; lists = c.loop.shared.lists; memberless = c.loop.shared.memberless }) c.loop.at.now
    (record { place = c.args.above.place; height = c.loop.height }) c.loop.invariant.known refl refl c.loop.invariant.here c.in_ok-note.ensures

pub returns-in_default-checked_sub : goal.returns-in_default-checked_sub
returns-in_default-checked_sub c =
    with_shared c.args.owners.now c.args.classes.now c.loop.shared (record { places = c.note.new.names; lists = c.loop.shared.lists; memberless = c.loop.shared.memberless }) c.loop.at.now
    (record { place = c.args.above.place; height = c.loop.height }) c.loop.invariant.known refl refl c.loop.invariant.here c.in_ok-note.ensures

pub loop-preserved : goal.loop-preserved
loop-preserved c = record {
  known =
      with_shared c.args.owners.now c.args.classes.now c.loop.shared (record { places = c.note.new.names; lists = c.loop.shared.lists; memberless = c.loop.shared.memberless }) c.loop.at.now
      (record { place = c.args.above.place; height = c.loop.height }) c.loop.invariant.known refl refl c.loop.invariant.here c.in_ok-note.ensures;
  here =
      shared_above c.args.owners.now c.args.classes.now c.loop.shared.lists c.loop.at.now c.in-Some.parent.now (record { place = c.args.above.place; height = c.loop.height })
      (record { place = c.args.above.place; height = c.in-Some-checked_sub.less }) c.in-Some.ensures c.loop.invariant.here refl (omega (arith, c.in-Some-checked_sub.ensures));
}

pub returns : goal.returns
returns c =
    with_shared c.args.owners.now c.args.classes.now c.loop.shared (record { places = c.note-2.new.names; lists = c.loop.shared.lists; memberless = c.loop.shared.memberless }) c.loop.at.now
    (record { place = c.args.above.place; height = c.loop.height }) c.loop.invariant.known refl refl c.loop.invariant.here c.in_ok-note-2.ensures
