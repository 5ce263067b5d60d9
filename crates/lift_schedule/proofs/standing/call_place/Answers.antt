use Rattle.std.proofs.Common.{length, sym, ap, ◌∙◌, arith}
use Rattle.offset_patch.proofs.Calling.{place_here, place_later, place_none}
use Rattle.offset_patch.proofs.Lists.{first_is, none_left}
use Rattle.lift_schedule.proofs.standing.call_place.Goals as goal

pub returns-then-is_call : goal.returns-then-is_call
returns-then-is_call c =
    let split = first_is c.loop-left.left.now _ c.in-len1-up.len_at_least in
    let here = place_here c.loop-left.left.now _ _ split (sym c.is_call.ensures ∙ c.if-is_call.true) in
    omega (arith, here, c.loop-left.invariant.so_far)

pub loop-left-preserved : goal.loop-left-preserved
loop-left-preserved c =
    let split = first_is c.loop-left.left.now _ c.in-len1-up.len_at_least in
    let later = place_later c.loop-left.left.now _ _ split (sym c.is_call.ensures ∙ c.if-is_call.false) in
    record { so_far = omega (arith, later, c.loop-left.invariant.so_far); count = omega (arith, ap length split, c.loop-left.invariant.count) }

pub returns : goal.returns
returns c = omega (arith, place_none c.loop-left.left.now (none_left c.loop-left.left.now c.in_default.len_below), c.loop-left.invariant.so_far)
