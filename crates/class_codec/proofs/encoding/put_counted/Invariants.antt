use Rattle.std.proofs.Common.{◌≡◌, ◌++◌, length, take}
use Rattle.std.specs.List.{flat_map}
use Rattle.mon_base.specs.Widths.{u2}
use Rattle.class_codec.proofs.encoding.put_counted.Given as goal

abbrev pub invariant-loop-item : goal.invariant-loop-item
invariant-loop-item g l = l.out ≡ l.fn.out ++ (u2 (length l.items) ++ flat_map g.T.Encoded.encoded (take l.item-index l.items))
