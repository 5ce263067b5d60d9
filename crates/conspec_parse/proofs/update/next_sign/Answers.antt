use Rattle.std.proofs.Common.{refl}
use Rattle.conspec_parse.proofs.update.next_sign.Goals as goal

pub returns-then-is_next : goal.returns-then-is_next
returns-then-is_next c = rw (← c.if-is_next.ensures) refl

pub returns-then-is_next-2 : goal.returns-then-is_next-2
returns-then-is_next-2 c = rw (← c.if-is_next.ensures, ← c.if-is_next-2.ensures) refl

pub returns : goal.returns
returns c = rw (← c.if-is_next.ensures, ← c.if-is_next-2.ensures) refl
