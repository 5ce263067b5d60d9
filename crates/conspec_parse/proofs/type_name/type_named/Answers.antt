use Rattle.std.proofs.Common.{refl}
use Rattle.conspec_parse.proofs.type_name.type_named.Goals as goal

pub returns : goal.returns
returns c = rw (c.in_ok-desc.ensures, c.as_bytes.ensures.value) refl
