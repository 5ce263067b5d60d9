use Rattle.std.proofs.Common.{ap, length, arith}
use Rattle.std.proofs.lemmas.Result.{err_from_is_err_and}
use Rattle.api_listing.specs.Descriptor.{type_at}
use Rattle.api_listing.proofs.Descriptors.{first_of_list, one_deeper, ends_flat, no_type, empty_type}
use Rattle.api_listing.proofs.descriptor.type_at.Goals as goal

pub loop-left-preserved : goal.loop-left-preserved
loop-left-preserved c =
    let split = first_of_list c.loop-left.left.now c.in-len1-up.len_at_least in
    (one_deeper c.loop-left.dimensions c.loop-left.left.now _ _ (type_at c.args.bytes.now) split c.if-first-ne91.false c.loop-left.invariant.0, omega (arith, ap length split, c.loop-left.invariant.1))

pub returns-in_err-element : goal.returns-in_err-element
returns-in_err-element c =
    let p = err_from_is_err_and c.from_residual.result c.from_residual.ensures.1 in
    rw (p.1, p.2) (no_type c.loop-left.dimensions c.loop-left.left.now _ _ c.in_err-element.field-0.0 (type_at c.args.bytes.now) (first_of_list c.loop-left.left.now c.in-len1-up.len_at_least) c.if-first-ne91.true c.in_err-element.ensures c.loop-left.invariant.0)

pub returns-then-first-ne91 : goal.returns-then-first-ne91
returns-then-first-ne91 c =
    ends_flat c.loop-left.dimensions c.loop-left.left.now _ _ _ _ (type_at c.args.bytes.now) (first_of_list c.loop-left.left.now c.in-len1-up.len_at_least) c.if-first-ne91.true c.in_ok-element.ensures c.loop-left.invariant.0

pub returns : goal.returns
returns c is_told = empty_type c.loop-left.dimensions c.loop-left.left.now (type_at c.args.bytes.now) c.in_default.len_below c.loop-left.invariant.0
