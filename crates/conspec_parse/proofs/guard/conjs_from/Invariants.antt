use Rattle.std.proofs.Common.{◌≡◌, ◌-◌, length, ◌≤◌, ◌+◌}
use Rattle.std.specs.Prelude.{codes}
use Rattle.conspec_tokens.specs.Front.{is_next}
use Rattle.conspec_parse.specs.Forms.{each, repeated}
use Rattle.conspec_parse.specs.Guards.{next_conj}
use Rattle.conspec_parse.proofs.guard.conjs_from.Given as goal

abbrev pub invariant-loop : goal.invariant-loop
invariant-loop l = record {
  so_far : repeated (is_next (codes "||")) (next_conj l.names l.before) (length l.tokens - l.counter) l.conjs l.left ≡ each (is_next (codes "||")) (next_conj l.names l.before) l.initial.conjs l.tokens;
  few : l.before + length l.conjs ≤ 64;
}
