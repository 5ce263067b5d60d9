use Rattle.std.proofs.Common.{◌≡◌, ◌++◌, map, take}
use Rattle.block_template.specs.declared.item.Item.{Item}
use Rattle.block_template.specs.Frames.{frame_at}
use Rattle.woven_typing.proofs.framing.put_items.Given as goal

abbrev pub invariant-loop-item : goal.invariant-loop-item
invariant-loop-item l = l.out ≡ l.fn.out ++ map (λ (i : Item). frame_at l.call.clauses l.call.around i.role) (take l.item-index l.items)
