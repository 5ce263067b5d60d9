use Rattle.std.proofs.Common.{◌≡◌, ◌++◌, length, take}
use Rattle.std.specs.List.{flat_map}
use Rattle.mon_base.specs.Widths.{u2}
use Rattle.cert_format.specs.Encoding.{encode_type}
use Rattle.cert_format.proofs.encoding.put_types.Given as goal

abbrev pub invariant-loop-held : goal.invariant-loop-held
invariant-loop-held l = l.out ≡ l.fn.out ++ (u2 (length l.types) ++ flat_map (encode_type l.index) (take l.held-index l.types))
