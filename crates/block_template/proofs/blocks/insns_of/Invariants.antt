use Rattle.std.proofs.Common.{◌≡◌, map, take}
use Rattle.block_template.specs.declared.item.Item.{Item}
use Rattle.block_template.proofs.blocks.insns_of.Given as goal

abbrev pub invariant-loop-item : goal.invariant-loop-item
invariant-loop-item l = l.insns ≡ map (λ (i : Item). i.insn) (take l.item-index l.items)
