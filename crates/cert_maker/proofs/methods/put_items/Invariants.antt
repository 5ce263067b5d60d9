-- The notes so far, and after them those of the items that are left.
use Rattle.std.proofs.Common.{◌≡◌, ◌++◌, length, map}
use Rattle.block_template.specs.declared.item.Item.{Item}
use Rattle.cert_maker.specs.Noting.{note_of, where_typed}
use Rattle.cert_maker.proofs.methods.put_items.Given as goal

abbrev pub invariant-loop-items : goal.invariant-loop-items
invariant-loop-items l =
    l.notes ++ where_typed (map (λ (i : Item). note_of l.policy l.call i.role) l.items) l.frames
    ≡ l.fn.notes ++ where_typed (map (λ (i : Item). note_of l.policy l.call i.role) l.fn.items) l.fn.frames

abbrev pub decreases-loop-items : goal.decreases-loop-items
decreases-loop-items l = length l.items
