use Rattle.std.proofs.Common.{◌≡◌, ◌∙◌, suc, ◌+◌, ◌-◌, ◌/◌, Some, ap, sym, arith}
use Rattle.std.specs.Prelude.{slice_get}
use Rattle.std.specs.Option.{option_copied}
use Rattle.mon_base.specs.Persistent.{item_at}
use Rattle.mon_base.proofs.Lists.{got}
use Rattle.mon_base.proofs.Putting.{one_down}
use Rattle.mon_base.proofs.persistent.item_at.Goals as goal

pub loop-preserved : goal.loop-preserved
loop-preserved c =
    let nodes = c.args.nodes.now in
    let halves = c.in_ok-halves.halves.now in
    let less = c.args.depth - (c.loop.counter + 1) in
    let h = c.get.ensures.lookup in
    let there : slice_get nodes c.loop.root ≡ Some halves = sym (got c.get.result nodes c.loop.root h.3 h.1) ∙ ap option_copied c.in_ok-halves.was in
    let one : c.args.depth - c.loop.counter ≡ suc less = omega (arith, c.loop-test.true) in
    ap (λ r. item_at nodes less r (c.loop.number / 2)) c.half_of-root.ensures
    ∙ sym (one_down nodes (c.args.depth - c.loop.counter) less c.loop.root c.loop.number halves one there) ∙ c.loop.invariant
