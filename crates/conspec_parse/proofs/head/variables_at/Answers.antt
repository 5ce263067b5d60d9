use Rattle.std.proofs.Common.{◌≡◌, sym, subst, ◌∙◌, ◌-◌, length, w32, to_z, of_z}
use Rattle.std.proofs.lemmas.Result.{err_from_is_err_and}
use Rattle.std.proofs.lemmas.Int.{to_z-of_z}
use Rattle.conspec_parse.specs.Forms.{repeated}
use Rattle.conspec_parse.specs.Head.{begins_variable, variable_at, variables_at}
use Rattle.mon_base.specs.Answer.{Fails}
use Rattle.conspec_parse.specs.declared.fault.PolicyFault.TheVariants as faults
use Rattle.conspec_parse.proofs.Repeating.{again, stops, fails, all_read}
use Rattle.conspec_parse.proofs.head.variables_at.Goals as goal

pub returns-then-not-begins_variable-clause-exact : goal.returns-then-not-begins_variable-clause-exact
returns-then-not-begins_variable-clause-exact c =
    let same : to_z w32 (of_z w32 c.args.maxint) ≡ c.args.maxint = to_z-of_z w32 c.args.maxint c.ranges.maxint in
    let so_far = subst (λ m. repeated begins_variable (variable_at m) ((length c.args.tokens.now) - c.loop.counter) c.loop.vars c.loop.left.now ≡ variables_at m c.args.tokens.now) same c.loop.invariant.so_far in
    stops begins_variable (variable_at c.args.maxint) (length c.args.tokens.now) c.loop.counter c.loop.vars c.loop.left.now _ c.loop-test.true (sym c.begins_variable.ensures ∙ c.if-not-begins_variable.true) so_far

pub returns-in_err-left-clause-exact : goal.returns-in_err-left-clause-exact
returns-in_err-left-clause-exact c =
    let same : to_z w32 (of_z w32 c.args.maxint) ≡ c.args.maxint = to_z-of_z w32 c.args.maxint c.ranges.maxint in
    let p = err_from_is_err_and c.from_residual.result c.from_residual.ensures.1 in
    rw (p.1, p.2) (subst (λ m. Fails faults.Memory c.in_err-left.field-0.0 (variables_at m c.args.tokens.now)) same (fails begins_variable (variable_at (to_z w32 (of_z w32 c.args.maxint))) (length c.args.tokens.now) c.loop.counter c.loop.vars c.loop.left.now _ c.in_err-left.field-0.0 c.loop-test.true (sym c.begins_variable.ensures ∙ c.if-not-begins_variable.false) c.in_err-left.ensures.exact c.loop.invariant.so_far))

pub loop-preserved : goal.loop-preserved
loop-preserved c = record { so_far = again begins_variable (variable_at (to_z w32 (of_z w32 c.args.maxint))) (length c.args.tokens.now) c.loop.counter c.loop.vars c.variable_at.new.vars c.loop.left.now c.in_ok-left.left.now _ c.loop-test.true (sym c.begins_variable.ensures ∙ c.if-not-begins_variable.false) c.in_ok-left.ensures.exact c.loop.invariant.so_far; few = c.in_ok-left.ensures.few }

pub returns-clause-exact : goal.returns-clause-exact
returns-clause-exact c =
    let same : to_z w32 (of_z w32 c.args.maxint) ≡ c.args.maxint = to_z-of_z w32 c.args.maxint c.ranges.maxint in
    let so_far = subst (λ m. repeated begins_variable (variable_at m) ((length c.args.tokens.now) - c.loop.counter) c.loop.vars c.loop.left.now ≡ variables_at m c.args.tokens.now) same c.loop.invariant.so_far in
    all_read begins_variable (variable_at c.args.maxint) (length c.args.tokens.now) c.loop.counter c.loop.vars c.loop.left.now _ c.loop-test.false so_far
