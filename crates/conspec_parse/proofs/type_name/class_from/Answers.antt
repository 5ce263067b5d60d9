use Rattle.std.proofs.Common.{sym, ◌∙◌, length}
use Rattle.std.proofs.lemmas.Result.{err_from_is_err_and}
use Rattle.std.specs.Prelude.{codes}
use Rattle.conspec_tokens.specs.Front.{is_next}
use Rattle.conspec_parse.specs.Types.{next_part}
use Rattle.conspec_parse.proofs.Repeating.{again, stops, fails, all_read}
use Rattle.conspec_parse.proofs.type_name.class_from.Goals as goal

pub returns-then-not-is_next : goal.returns-then-not-is_next
returns-then-not-is_next c = stops (is_next (codes ".")) (next_part c.args.judged) (length c.args.tokens.now) c.loop.counter c.loop.class c.loop.left.now _ c.loop-test.true (sym c.is_next.ensures ∙ c.if-not-is_next.true) c.loop.invariant

pub returns-in_err-left : goal.returns-in_err-left
returns-in_err-left c =
    let p = err_from_is_err_and c.from_residual.result c.from_residual.ensures.1 in
    rw (p.1, p.2) (fails (is_next (codes ".")) (next_part c.args.judged) (length c.args.tokens.now) c.loop.counter c.loop.class c.loop.left.now _ c.in_err-left.field-0.0 c.loop-test.true (sym c.is_next.ensures ∙ c.if-not-is_next.false) c.in_err-left.ensures c.loop.invariant)

pub loop-preserved : goal.loop-preserved
loop-preserved c = again (is_next (codes ".")) (next_part c.args.judged) (length c.args.tokens.now) c.loop.counter c.loop.class c.next_part.new.class c.loop.left.now c.in_ok-left.left.now _ c.loop-test.true (sym c.is_next.ensures ∙ c.if-not-is_next.false) c.in_ok-left.ensures c.loop.invariant

pub returns : goal.returns
returns c = all_read (is_next (codes ".")) (next_part c.args.judged) (length c.args.tokens.now) c.loop.counter c.loop.class c.loop.left.now _ c.loop-test.false c.loop.invariant
