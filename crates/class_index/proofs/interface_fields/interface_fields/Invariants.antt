use Rattle.std.proofs.Common.{◌≡◌, ◌||◌, [], true}
use Rattle.std.specs.Prelude.{is_some}
use Rattle.std.specs.BTreeMap.{is_at}
use Rattle.std.specs.Map.{lookup}
use Rattle.mon_base.specs.declared.method.MethodId.{MethodId}
use Rattle.api_listing.specs.Seen.{has_id, has_name, id_cmp}
use Rattle.bytecode_model.specs.Members.{in_class}
use Rattle.class_index.proofs.interface_fields.interface_fields.Given as goal

abbrev pub invariant-loop-id : goal.invariant-loop-id
invariant-loop-id l = (q : MethodId) → has_name l.interfaces q.class ≡ true → is_some (lookup (is_at (id_cmp q)) l.declared.entries) ≡ true
    → (has_id l.fields (in_class q []) || is_some (lookup (is_at (id_cmp q)) l.id-iterator)) ≡ true
