use Rattle.std.proofs.Common.{◌≡◌, ◌++◌, length, take}
use Rattle.std.specs.List.{flat_map}
use Rattle.mon_base.specs.Widths.{u4}
use Rattle.cert_format.specs.Encoding.{encode_name}
use Rattle.cert_format.proofs.index.put_table.Given as goal

abbrev pub invariant-loop-name : goal.invariant-loop-name
invariant-loop-name l = l.out ≡ l.fn.out ++ (u4 (length l.names) ++ flat_map (λ name. encode_name name.now) (take l.name-index l.names))
