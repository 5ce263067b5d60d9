use Rattle.std.proofs.Common.{◌≡◌, ◌-◌, length}
use Rattle.std.specs.Prelude.{codes}
use Rattle.conspec_tokens.specs.Front.{is_next}
use Rattle.conspec_parse.specs.Forms.{each, repeated}
use Rattle.conspec_parse.specs.Guards.{next_atom}
use Rattle.conspec_parse.proofs.guard.atoms_from.Given as goal

abbrev pub invariant-loop : goal.invariant-loop
invariant-loop l = repeated (is_next (codes "&&")) (next_atom l.names) (length l.tokens - l.counter) l.atoms l.left ≡ each (is_next (codes "&&")) (next_atom l.names) l.initial.atoms l.tokens
