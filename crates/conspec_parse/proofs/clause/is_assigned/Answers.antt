use Rattle.std.proofs.Common.{refl}
use Rattle.conspec_parse.proofs.clause.is_assigned.Goals as goal

pub returns : goal.returns
returns c = rw (c.is_next.ensures, c.rest_of.ensures, ← c.if-not-is_name.ensures) refl
