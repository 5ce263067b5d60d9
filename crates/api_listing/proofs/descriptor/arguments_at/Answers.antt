use Rattle.std.proofs.Common.{sym, ap, ◌∙◌, ℕ, List, Ok}
use Rattle.std.proofs.lemmas.Result.{err_from_is_err_and}
use Rattle.api_listing.specs.Descriptor.{arguments_at}
use Rattle.api_listing.proofs.Descriptors.{goes_on, ends, closes, too_many, no_front, rest_all}
use Rattle.api_listing.proofs.descriptor.arguments_at.Goals as goal

pub loop-preserved : goal.loop-preserved
loop-preserved c =
    rw c.in_ok-push.ensures.ok (goes_on c.loop.arguments c.loop.counter c.loop.left.now _ _ (arguments_at 256 c.args.bytes.now) c.loop-test.true (sym c.is_closed.ensures.value ∙ c.if-is_closed.false) c.in_ok-argument.ensures c.loop.invariant)

pub returns-in_err-argument : goal.returns-in_err-argument
returns-in_err-argument c =
    let p = err_from_is_err_and c.from_residual.result c.from_residual.ensures.1 in
    rw (p.1, p.2) (ends c.loop.arguments c.loop.counter c.loop.left.now c.in_err-argument.field-0.0 (arguments_at 256 c.args.bytes.now) c.loop-test.true (sym c.is_closed.ensures.value ∙ c.if-is_closed.false) c.in_err-argument.ensures c.loop.invariant)

pub loop-init : goal.loop-init
loop-init c = no_front c.new-arguments.result (arguments_at 256 c.args.bytes.now) c.new-arguments.ensures

pub returns-then-is_closed : goal.returns-then-is_closed
returns-then-is_closed c =
    closes c.loop.arguments c.loop.counter c.loop.left.now (arguments_at 256 c.args.bytes.now) c.loop-test.true (sym c.is_closed.ensures.value ∙ c.if-is_closed.true) c.loop.invariant
    ∙ ap (λ (rest : List ℕ). Ok (c.loop.arguments, rest)) (sym (rest_all c.loop.left.now))

pub returns : goal.returns
returns c is_told = too_many c.loop.arguments c.loop.counter c.loop.left.now (arguments_at 256 c.args.bytes.now) c.loop-test.false c.loop.invariant
