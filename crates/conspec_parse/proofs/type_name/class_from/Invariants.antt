use Rattle.std.proofs.Common.{◌≡◌, ◌-◌, length}
use Rattle.std.specs.Prelude.{codes}
use Rattle.conspec_tokens.specs.Front.{is_next}
use Rattle.conspec_parse.specs.Forms.{each, repeated}
use Rattle.conspec_parse.specs.Types.{next_part}
use Rattle.conspec_parse.proofs.type_name.class_from.Given as goal

abbrev pub invariant-loop : goal.invariant-loop
invariant-loop l = repeated (is_next (codes ".")) (next_part l.judged) (length l.tokens - l.counter) l.class l.left ≡ each (is_next (codes ".")) (next_part l.judged) l.initial.class l.tokens
