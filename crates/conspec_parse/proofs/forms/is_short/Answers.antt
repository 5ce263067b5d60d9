use Rattle.std.proofs.Common.{refl}
use Rattle.conspec_parse.proofs.forms.is_short.Goals as goal

pub returns : goal.returns
returns c = refl
