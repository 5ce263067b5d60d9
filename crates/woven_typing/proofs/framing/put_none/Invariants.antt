use Rattle.std.proofs.Common.{◌≡◌, ◌++◌, length, map}
use Rattle.std.specs.Prelude.{None}
use Rattle.block_template.specs.declared.item.Item.{Item}
use Rattle.woven_typing.proofs.framing.put_none.Given as goal

abbrev pub invariant-loop-left : goal.invariant-loop-left
invariant-loop-left l = l.out ++ map (λ (i : Item). None) l.left ≡ l.fn.out ++ map (λ (i : Item). None) l.items

abbrev pub decreases-loop-left : goal.decreases-loop-left
decreases-loop-left l = length l.left
