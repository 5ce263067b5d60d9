use Rattle.std.proofs.Common.{◌≡◌, take}
use Rattle.std.specs.List.{flat_map}
use Rattle.cert_format.specs.Names.{with_names}
use Rattle.cert_format.proofs.encoding.add_all.Given as goal

abbrev pub invariant-loop-item : goal.invariant-loop-item
invariant-loop-item g l = l.index ≡ with_names l.fn.index (flat_map g.T.Named.names_in (take l.item-index l.items))
