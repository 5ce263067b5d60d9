use Rattle.std.proofs.Common.{◌≡◌}
use Rattle.type_infer.specs.Fits.{FitFrames}
use Rattle.type_infer.proofs.solving.into_list.Given as goal

abbrev pub invariant-loop-one : goal.invariant-loop-one
invariant-loop-one l = (l.frames ≡ l.yielded) × FitFrames l.frames
