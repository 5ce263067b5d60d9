use Rattle.std.proofs.Common.{◌≡◌, ◌-◌, length}
use Rattle.std.specs.Prelude.{codes}
use Rattle.conspec_tokens.specs.Front.{is_next}
use Rattle.conspec_parse.specs.Forms.{each, repeated}
use Rattle.conspec_parse.specs.Methods.{next_step}
use Rattle.conspec_parse.proofs.signature.path_from.Given as goal

abbrev pub invariant-loop : goal.invariant-loop
invariant-loop l = repeated (is_next (codes ".")) (next_step l.judged) (length l.tokens - l.counter) l.parts l.left ≡ each (is_next (codes ".")) (next_step l.judged) l.fn.first l.tokens
