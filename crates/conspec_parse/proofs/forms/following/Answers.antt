use Rattle.std.proofs.Common.{refl}
use Rattle.conspec_parse.proofs.forms.following.Goals as goal

pub returns : goal.returns
returns c = rw (← c.if-not-is_next.ensures, c.rest_of.ensures) refl

pub returns-then-not-is_next : goal.returns-then-not-is_next
returns-then-not-is_next c = λ _. rw (← c.if-not-is_next.ensures, c.front_at.ensures) refl
