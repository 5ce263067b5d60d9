use Rattle.std.proofs.Common.{◌≡◌, map, take}
use Rattle.woven_typing.specs.Framing.{moved_by}
use Rattle.woven_typing.specs.Renaming.{renamed}
use Rattle.woven_typing.proofs.renaming.all_renamed.Given as goal

abbrev pub invariant-loop-t : goal.invariant-loop-t
invariant-loop-t l = l.made ≡ map (renamed (moved_by l.fronts.list l.fronts.count)) (take l.t-index l.types)
