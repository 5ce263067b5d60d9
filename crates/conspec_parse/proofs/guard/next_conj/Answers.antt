use Rattle.std.proofs.Common.{refl}
use Rattle.conspec_parse.specs.Guards.{next_conj}
use Rattle.conspec_parse.proofs.guard.next_conj.Goals as goal

pub returns-clause-exact : goal.returns-clause-exact
unfolding next_conj
returns-clause-exact c = rw (c.in_ok-left.ensures, ← c.len.ensures, c.in_ok-rest.ensures.exact, c.in_ok-push.ensures.ok) refl
