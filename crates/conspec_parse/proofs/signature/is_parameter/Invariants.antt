use Rattle.std.proofs.Common.{◌≡◌, length}
use Rattle.conspec_parse.specs.Methods.{is_parameter}
use Rattle.conspec_parse.proofs.signature.is_parameter.Given as goal

abbrev pub invariant-loop-left : goal.invariant-loop-left
invariant-loop-left l = is_parameter l.left l.name ≡ is_parameter l.params l.name

abbrev pub decreases-loop-left : goal.decreases-loop-left
decreases-loop-left l = length l.left
