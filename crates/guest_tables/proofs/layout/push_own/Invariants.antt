use Rattle.std.proofs.Common.{◌≡◌, ◌++◌, length}
use Rattle.std.specs.Prelude.{reverse, map, filter}
use Rattle.class_codec.specs.declared.tree.Member.{Member}
use Rattle.bytecode_model.specs.Heads.{desc_of}
use Rattle.guest_model.specs.Layout.{first_value, is_in_objects, own_fields}
use Rattle.guest_tables.proofs.layout.push_own.Given as goal

abbrev pub invariant-loop-member : goal.invariant-loop-member
invariant-loop-member l =
    l.out.items ++ reverse (map (λ (m : Member). first_value (desc_of l.file.pool m)) (filter is_in_objects l.left)) ≡ l.fn.out.items ++ reverse (own_fields l.file)

abbrev pub decreases-loop-member : goal.decreases-loop-member
decreases-loop-member l = length l.left
