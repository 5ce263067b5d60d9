use Rattle.std.proofs.Common.{◌≡◌, ◌-◌, length, ◌≤◌}
use Rattle.conspec_parse.specs.Forms.{repeated}
use Rattle.conspec_parse.specs.Head.{begins_variable, variable_at, variables_at}
use Rattle.conspec_parse.proofs.head.variables_at.Given as goal

abbrev pub invariant-loop : goal.invariant-loop
invariant-loop l = record {
  so_far : repeated begins_variable (variable_at l.maxint) (length l.tokens - l.counter) l.vars l.left ≡ variables_at l.maxint l.tokens;
  few : length l.vars ≤ 16;
}
