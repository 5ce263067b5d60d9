use Rattle.std.proofs.Common.{◌<ℤ◌, sym, ◌∙◌, arith}
use Rattle.std.proofs.lemmas.Int.{ints}
use Rattle.guest_frames.proofs.Switches.{below, from_low}
use Rattle.guest_frames.proofs.jumps.in_range.Goals as goal

pub returns-then-n-low : goal.returns-then-n-low
returns-then-n-low c =
    let lt : c.args.n <ℤ c.args.low = grind (arith, ints) in
    sym (below c.args.other c.args.low c.args.targets.now c.args.n lt)

pub returns : goal.returns
returns c = c.target_at.ensures ∙ sym (from_low c.args.other c.args.low c.args.targets.now c.args.n c.abs_diff.result (grind (arith, ints)))
