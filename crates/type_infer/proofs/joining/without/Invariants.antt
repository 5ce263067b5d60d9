use Rattle.std.proofs.Common.{◌≡◌, map, take}
use Rattle.type_infer.specs.Solving.{unless}
use Rattle.type_infer.proofs.joining.without.Given as goal

abbrev pub invariant-loop-t : goal.invariant-loop-t
invariant-loop-t l = l.left ≡ map (unless l.object) (take l.t-index l.types)
