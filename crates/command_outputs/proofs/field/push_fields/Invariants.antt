use Rattle.std.proofs.Common.{◌≡◌, ◌++◌, length}
use Rattle.command_outputs.specs.Fields.{all_spaced}
use Rattle.command_outputs.proofs.field.push_fields.Given as goal

abbrev pub invariant-loop-rest : goal.invariant-loop-rest
invariant-loop-rest l = l.text ++ all_spaced l.rest ≡ l.fn.text ++ all_spaced l.fields

abbrev pub decreases-loop-rest : goal.decreases-loop-rest
decreases-loop-rest l = length l.rest
