use Rattle.std.proofs.Common.{◌≡◌, ◌++◌, take}
use Rattle.std.specs.List.{flat_map, zip}
use Rattle.cert_format.proofs.encoding.put_all.Given as goal

abbrev pub invariant-loop-i : goal.invariant-loop-i
invariant-loop-i g l = l.out ≡ l.fn.out ++ flat_map (g.T.Paired.encoded l.index) (take l.i (zip l.frames l.notes))
