use Rattle.std.proofs.Common.{refl}
use Rattle.conspec_parse.proofs.forms.name_at.Goals as goal

pub returns : goal.returns
returns c = rw (← c.in-Some.ensures, c.rest_of.ensures) refl

pub returns-in_default : goal.returns-in_default
returns-in_default c = λ _. rw (← c.in_default.ensures, c.front_at.ensures) refl
