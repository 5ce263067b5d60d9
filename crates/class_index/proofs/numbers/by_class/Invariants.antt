use Rattle.std.proofs.Common.{◌≡◌, ℕ, ◌||◌, Some}
use Rattle.std.specs.Prelude.{is_some}
use Rattle.std.specs.BTreeMap.{is_at}
use Rattle.std.specs.Map.{lookup}
use Rattle.mon_base.specs.declared.method.MethodId.{MethodId}
use Rattle.api_listing.specs.Seen.{id_cmp}
use Rattle.mon_base.specs.Persistent.{has_number}
use Rattle.class_index.specs.Nearest.{member_number, own_of}
use Rattle.class_index.proofs.numbers.by_class.Given as goal

abbrev pub invariant-loop-id : goal.invariant-loop-id
invariant-loop-id l = (q : MethodId) (n : ℕ) → member_number l.numbers q ≡ Some n
    → (has_number (own_of l.own q.class) n || is_some (lookup (is_at (id_cmp q)) l.id-iterator)) ≡ is_some (lookup (is_at (id_cmp q)) l.declared.entries)
