use Rattle.std.proofs.Common.{◌≡◌, take, map}
use Rattle.std.specs.Prelude.{slice_index}
use Rattle.offset_patch.proofs.fronts.all_fronts.Given as goal

abbrev pub invariant-loop-to : goal.invariant-loop-to
invariant-loop-to l = l.all ≡ map (slice_index l.fronts) (take l.to-index l.targets)
