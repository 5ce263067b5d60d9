use Rattle.std.proofs.Common.{sym}
use Rattle.conspec_automaton.specs.Next.{speaks_of}
use Rattle.conspec_automaton.specs.Sound.{IsClauseIn}
use Rattle.conspec_automaton.proofs.Ranges.{found_is}
use Rattle.conspec_automaton.proofs.running.next.Goals as goal

pub next_by-requires-clause-clause : goal.next_by-requires-clause-clause
next_by-requires-clause-clause c =
    let policy = c.args.policy.now in
    (found_is (IsClauseIn policy.vars policy.maxint) (speaks_of c.args.event.now) policy.clauses c.in-Some.clause.now c.requires.policy.clauses (sym c.in-Some.ensures)).so
