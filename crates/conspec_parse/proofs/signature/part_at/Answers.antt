use Rattle.std.proofs.Common.{refl}
use Rattle.conspec_parse.proofs.signature.part_at.Goals as goal

pub returns : goal.returns
returns c = rw (← c.if-is_next.ensures, c.in_ok-name-2.ensures, c.in_ok-name-3.ensures) refl
