use Rattle.std.proofs.Common.{◌≡◌, ◌-◌, length}
use Rattle.conspec_parse.specs.Forms.{each, repeated}
use Rattle.conspec_parse.specs.Clauses.{begins_clause, clause_at}
use Rattle.conspec_parse.proofs.clause.clauses_at.Given as goal

abbrev pub invariant-loop : goal.invariant-loop
invariant-loop l = repeated begins_clause (clause_at l.methods l.vars l.maxint) (length l.tokens - l.counter) l.clauses l.left ≡ each begins_clause (clause_at l.methods l.vars l.maxint) l.initial.clauses l.tokens
