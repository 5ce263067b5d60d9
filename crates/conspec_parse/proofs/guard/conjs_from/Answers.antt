use Rattle.std.proofs.Common.{sym, ◌∙◌, length}
use Rattle.std.proofs.lemmas.Result.{err_from_is_err_and}
use Rattle.std.specs.Prelude.{codes}
use Rattle.conspec_tokens.specs.Front.{is_next}
use Rattle.conspec_parse.specs.Guards.{next_conj}
use Rattle.conspec_parse.proofs.Repeating.{again, stops, fails, all_read}
use Rattle.conspec_parse.proofs.guard.conjs_from.Goals as goal

pub returns-then-not-is_next-clause-exact : goal.returns-then-not-is_next-clause-exact
returns-then-not-is_next-clause-exact c = stops (is_next (codes "||")) (next_conj c.args.names.now c.args.before) (length c.args.tokens.now) c.loop.counter c.loop.conjs c.loop.left.now _ c.loop-test.true (sym c.is_next.ensures ∙ c.if-not-is_next.true) c.loop.invariant.so_far

pub returns-in_err-left-clause-exact : goal.returns-in_err-left-clause-exact
returns-in_err-left-clause-exact c =
    let p = err_from_is_err_and c.from_residual.result c.from_residual.ensures.1 in
    rw (p.1, p.2) (fails (is_next (codes "||")) (next_conj c.args.names.now c.args.before) (length c.args.tokens.now) c.loop.counter c.loop.conjs c.loop.left.now _ c.in_err-left.field-0.0 c.loop-test.true (sym c.is_next.ensures ∙ c.if-not-is_next.false) c.in_err-left.ensures.exact c.loop.invariant.so_far)

pub loop-preserved : goal.loop-preserved
loop-preserved c = record {
  so_far = again (is_next (codes "||")) (next_conj c.args.names.now c.args.before) (length c.args.tokens.now) c.loop.counter c.loop.conjs c.next_conj.new.conjs c.loop.left.now c.in_ok-left.left.now _ c.loop-test.true (sym c.is_next.ensures ∙ c.if-not-is_next.false) c.in_ok-left.ensures.exact c.loop.invariant.so_far;
  few = c.in_ok-left.ensures.within;
}

pub returns-clause-exact : goal.returns-clause-exact
returns-clause-exact c = all_read (is_next (codes "||")) (next_conj c.args.names.now c.args.before) (length c.args.tokens.now) c.loop.counter c.loop.conjs c.loop.left.now _ c.loop-test.false c.loop.invariant.so_far
