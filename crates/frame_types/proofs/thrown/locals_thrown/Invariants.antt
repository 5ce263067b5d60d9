use Rattle.std.proofs.Common.{◌≡◌, map, take}
use Rattle.bytecode_model.specs.Rules.{when_thrown}
use Rattle.frame_types.proofs.thrown.locals_thrown.Given as goal

abbrev pub invariant-loop-t : goal.invariant-loop-t
invariant-loop-t l = l.found ≡ map when_thrown (take l.t-index l.locals)
