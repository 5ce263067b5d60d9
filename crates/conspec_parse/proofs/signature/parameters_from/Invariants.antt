use Rattle.std.proofs.Common.{◌≡◌, ◌-◌, length}
use Rattle.std.specs.Prelude.{codes}
use Rattle.conspec_tokens.specs.Front.{is_next}
use Rattle.conspec_parse.specs.Forms.{each, repeated}
use Rattle.conspec_parse.specs.Methods.{next_parameter}
use Rattle.conspec_parse.proofs.signature.parameters_from.Given as goal

abbrev pub invariant-loop : goal.invariant-loop
invariant-loop l = repeated (is_next (codes ",")) (next_parameter l.judged l.vars) (length l.tokens - l.counter) l.params l.left ≡ each (is_next (codes ",")) (next_parameter l.judged l.vars) l.initial.params l.tokens
