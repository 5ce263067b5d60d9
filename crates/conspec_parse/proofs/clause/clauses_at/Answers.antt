use Rattle.std.proofs.Common.{◌≡◌, sym, subst, ◌∙◌, ◌-◌, length, w32, to_z, of_z}
use Rattle.std.proofs.lemmas.Result.{err_from_is_err_and}
use Rattle.std.proofs.lemmas.Int.{to_z-of_z}
use Rattle.conspec_parse.specs.Forms.{each, repeated}
use Rattle.conspec_parse.specs.Clauses.{begins_clause, clause_at}
use Rattle.mon_base.specs.Answer.{Fails}
use Rattle.conspec_parse.specs.declared.fault.PolicyFault.TheVariants as faults
use Rattle.conspec_parse.proofs.Repeating.{again, stops, fails, all_read}
use Rattle.conspec_parse.proofs.clause.clauses_at.Goals as goal

pub returns-then-not-begins_clause : goal.returns-then-not-begins_clause
returns-then-not-begins_clause c =
    let same : to_z w32 (of_z w32 c.args.maxint) ≡ c.args.maxint = to_z-of_z w32 c.args.maxint c.ranges.maxint in
    let so_far = subst (λ m. repeated begins_clause (clause_at c.args.methods.now c.args.vars.now m) ((length c.args.tokens.now) - c.loop.counter) c.loop.clauses c.loop.left.now ≡ each begins_clause (clause_at c.args.methods.now c.args.vars.now m) c.args.clauses.now c.args.tokens.now) same c.loop.invariant in
    stops begins_clause (clause_at c.args.methods.now c.args.vars.now c.args.maxint) (length c.args.tokens.now) c.loop.counter c.loop.clauses c.loop.left.now _ c.loop-test.true (sym c.begins_clause.ensures ∙ c.if-not-begins_clause.true) so_far

pub returns-in_err-left : goal.returns-in_err-left
returns-in_err-left c =
    let same : to_z w32 (of_z w32 c.args.maxint) ≡ c.args.maxint = to_z-of_z w32 c.args.maxint c.ranges.maxint in
    let p = err_from_is_err_and c.from_residual.result c.from_residual.ensures.1 in
    rw (p.1, p.2) (subst (λ m. Fails faults.Memory c.in_err-left.field-0.0 (each begins_clause (clause_at c.args.methods.now c.args.vars.now m) c.args.clauses.now c.args.tokens.now)) same (fails begins_clause (clause_at c.args.methods.now c.args.vars.now (to_z w32 (of_z w32 c.args.maxint))) (length c.args.tokens.now) c.loop.counter c.loop.clauses c.loop.left.now _ c.in_err-left.field-0.0 c.loop-test.true (sym c.begins_clause.ensures ∙ c.if-not-begins_clause.false) c.in_err-left.ensures c.loop.invariant))

pub loop-preserved : goal.loop-preserved
loop-preserved c = again begins_clause (clause_at c.args.methods.now c.args.vars.now (to_z w32 (of_z w32 c.args.maxint))) (length c.args.tokens.now) c.loop.counter c.loop.clauses c.clause_at.new.clauses c.loop.left.now c.in_ok-left.left.now _ c.loop-test.true (sym c.begins_clause.ensures ∙ c.if-not-begins_clause.false) c.in_ok-left.ensures c.loop.invariant

pub returns : goal.returns
returns c =
    let same : to_z w32 (of_z w32 c.args.maxint) ≡ c.args.maxint = to_z-of_z w32 c.args.maxint c.ranges.maxint in
    let so_far = subst (λ m. repeated begins_clause (clause_at c.args.methods.now c.args.vars.now m) ((length c.args.tokens.now) - c.loop.counter) c.loop.clauses c.loop.left.now ≡ each begins_clause (clause_at c.args.methods.now c.args.vars.now m) c.args.clauses.now c.args.tokens.now) same c.loop.invariant in
    all_read begins_clause (clause_at c.args.methods.now c.args.vars.now c.args.maxint) (length c.args.tokens.now) c.loop.counter c.loop.clauses c.loop.left.now _ c.loop-test.false so_far
