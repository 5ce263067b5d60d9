use Rattle.std.proofs.Common.{refl, append_assoc}
use Rattle.conspec_parse.specs.Types.{next_part}
use Rattle.conspec_parse.proofs.type_name.next_part.Goals as goal

pub returns : goal.returns
unfolding next_part
returns c = rw (c.in_ok-named.ensures, c.in_ok-name.ensures, c.in_ok-extend.ensures.ok, c.in_ok-push.ensures.ok, append_assoc) refl
