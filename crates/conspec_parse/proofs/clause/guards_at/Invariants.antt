use Rattle.std.proofs.Common.{◌≡◌, ◌-◌, length, ◌≤◌}
use Rattle.conspec_parse.specs.Forms.{each, repeated}
use Rattle.conspec_parse.specs.Clauses.{begins_guard, guard_at}
use Rattle.conspec_tree.specs.Guards.{branches}
use Rattle.conspec_parse.proofs.clause.guards_at.Given as goal

abbrev pub invariant-loop : goal.invariant-loop
invariant-loop l = record {
  so_far : repeated begins_guard (guard_at l.names l.maxint) (length l.tokens - l.counter) l.guards l.left ≡ each begins_guard (guard_at l.names l.maxint) l.initial.guards l.tokens;
  few : branches l.guards ≤ 64;
}
