use Rattle.std.proofs.Common.{◌≡◌, ◌^◌}
use Rattle.mon_base.proofs.persistent.depth_of.Given as goal

abbrev pub invariant-loop-depth : goal.invariant-loop-depth
invariant-loop-depth l = l.size ≡ 2 ^ l.depth
