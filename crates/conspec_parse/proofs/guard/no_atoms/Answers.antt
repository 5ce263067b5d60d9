use Rattle.std.proofs.Common.{refl}
use Rattle.conspec_parse.specs.Guards.{no_atoms}
use Rattle.conspec_parse.proofs.guard.no_atoms.Goals as goal

pub returns : goal.returns
unfolding no_atoms
returns c = record {
  exact = rw (c.if-not-room.false, c.rest_of.ensures) refl;
  room = c.if-not-room.false;
}

pub returns-then-not-room : goal.returns-then-not-room
unfolding no_atoms
returns-then-not-room c = record {
  exact = λ _. rw (c.if-not-room.true, c.front_at.ensures) refl;
  room = tt;
}
