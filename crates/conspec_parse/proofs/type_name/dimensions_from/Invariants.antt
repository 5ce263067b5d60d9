use Rattle.std.proofs.Common.{◌≡◌, ◌-◌, length}
use Rattle.std.specs.Prelude.{codes}
use Rattle.conspec_tokens.specs.Front.{is_next}
use Rattle.conspec_parse.specs.Forms.{each, repeated}
use Rattle.conspec_parse.specs.Types.{dimension_at}
use Rattle.conspec_parse.proofs.type_name.dimensions_from.Given as goal

abbrev pub invariant-loop : goal.invariant-loop
invariant-loop l = repeated (is_next (codes "[")) dimension_at (length l.tokens - l.counter) l.brackets l.left ≡ each (is_next (codes "[")) dimension_at l.initial.brackets l.tokens
