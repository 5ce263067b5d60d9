-- The entries that blocks named before, each with its place. (docs/BLOCKS.md)
use Rattle.std.specs.Prelude.{◌≡◌, ℕ, List, Option, Some, None}
use Rattle.std.specs.declared.cmp.Ordering.{Ordering}
use Rattle.std.specs.BTreeMap.{BTreeMap, get}
use Rattle.class_codec.specs.declared.tree.Const.{Const}
use Rattle.offset_patch.specs.contracts.block.PoolWantOrd.TheImpl.{cmp-value}
use Rattle.offset_patch.specs.declared.block.PoolWant.{PoolWant}
use Rattle.offset_patch.specs.Entries.{wanted}

-- the order of the map: by kind, then by what is named
abbrev pub want_cmp : PoolWant → PoolWant → Ordering
want_cmp = cmp-value.it

-- what the map has for the entry
abbrev pub known_at : BTreeMap PoolWant ℕ → PoolWant → Option ℕ
known_at known want = get want_cmp known want

abbrev pub known_place : Option (BTreeMap PoolWant ℕ) → PoolWant → Option ℕ
known_place None want = None
known_place (Some known) want = known_at known want

-- Each entry that was named is in the pool, and stands where it is noted.
pub record AreNoted (pool : List Const) (known : Option (BTreeMap PoolWant ℕ)) : Type 0 where
  pub there : (want : PoolWant) (at : ℕ) → known_place known want ≡ Some at → wanted want pool ≡ (pool, at)
