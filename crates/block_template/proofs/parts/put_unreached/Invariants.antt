use Rattle.std.proofs.Common.{◌≡◌, ◌++◌, map, take}
use Rattle.block_template.specs.Parts.{unreached}
use Rattle.block_template.proofs.parts.put_unreached.Given as goal

abbrev pub invariant-loop-item : goal.invariant-loop-item
invariant-loop-item l = l.items ≡ l.fn.items ++ map unreached (take l.item-index l.part)
