use Rattle.conspec_parse.specs.Methods.{next_parameter}
use Rattle.conspec_parse.proofs.signature.next_parameter.Goals as goal

pub returns : goal.returns
unfolding next_parameter
returns c = rw (c.in_ok-left.ensures) c.parameter_at.ensures
