-- Sets of names, of methods and of fields. (docs/LISTINGS.md)
use Rattle.std.specs.Prelude.{ℕ, Bool, List}
use Rattle.std.specs.declared.cmp.Ordering.{Ordering}
use Rattle.std.specs.Ordering.{nat_cmp, ordering_then}
use Rattle.std.specs.Cmp.Lexicographic.{slice_cmp}
use Rattle.std.specs.BTreeSet.{BTreeSet, contains}
use Rattle.mon_base.specs.declared.method.MethodId.{MethodId}

-- whether the set has the name
abbrev pub has_name : BTreeSet (List ℕ) → List ℕ → Bool
has_name names name = contains (slice_cmp nat_cmp) names name

-- the order of methods and fields: by class, then by name, then by descriptor
abbrev pub id_cmp : MethodId → MethodId → Ordering
id_cmp a b =
    ordering_then (slice_cmp nat_cmp a.class b.class) (ordering_then (slice_cmp nat_cmp a.name b.name) (slice_cmp nat_cmp a.desc b.desc))

-- whether the set has the method or field
abbrev pub has_id : BTreeSet MethodId → MethodId → Bool
has_id ids id = contains id_cmp ids id
