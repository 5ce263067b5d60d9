-- How entries are found: the first of each constant of a pool in an ordered map, and what is added in a set that numbers it.
-- (docs/BLOCKS.md)
use Rattle.std.specs.Prelude.{◌≡◌, ℕ, Bool, List, [], slice_get, Option, Some, None}
use Rattle.std.specs.declared.cmp.Ordering.{Ordering}
use Rattle.std.specs.BTreeMap.{BTreeMap, get}
use Rattle.class_codec.specs.declared.tree.Const.{Const}
use Rattle.offset_patch.specs.contracts.constants.AddedOrd.TheImpl.{cmp-value}
use Rattle.offset_patch.specs.contracts.constants.AddedPartialEq.TheImpl.{eq-value}
use Rattle.offset_patch.specs.declared.constants.Added.{Added}
use Rattle.offset_patch.specs.declared.constants.Added.TheVariants.{Text, Class, NameAndType, Field, Method, Integer}
use Rattle.offset_patch.specs.declared.growth.Growth.{Growth}
use Rattle.offset_patch.specs.Added.{const_of, with_added, AreNamed}
use Rattle.offset_patch.specs.Entries.{Placed, place_of}

-- the order of the map: by kind, then by what the constant holds
abbrev pub added_cmp : Added → Added → Ordering
added_cmp = cmp-value.it

-- whether the set holds two for one
abbrev pub added_eq : Added → Added → Bool
added_eq = eq-value.it

-- what the map has for the constant
abbrev pub found_at : BTreeMap Added ℕ → Added → Option ℕ
found_at places wanted = get added_cmp places wanted

-- The map has the place of the first of each constant.
abbrev pub ArePlaced : BTreeMap Added ℕ → List Const → Type 0
ArePlaced places pool = (q : Added) → found_at places q ≡ place_of (const_of q) pool

pub record IsGrowth (pool : List Const) (growth : Growth) : Type 0 where
  pub placed : ArePlaced growth.places pool
  pub named : AreNamed pool growth.added.keys

-- A step finds its entry at this place of the pool with what is added, and adds what is not there.
abbrev pub Finds : (List Const → Placed) → List Const → Growth → Growth → ℕ → Type 0
Finds step pool old new at = step (with_added pool old.added.keys) ≡ (with_added pool new.added.keys, at)

-- what is added, if anything is
abbrev pub added_in : Option Growth → List Added
added_in None = []
added_in (Some growth) = growth.added.keys

abbrev pub with_growth : List Const → Option Growth → List Const
with_growth pool None = pool
with_growth pool (Some growth) = with_added pool growth.added.keys

-- the text that is added, or none
abbrev pub text_of : Option Added → List ℕ
text_of None = []
text_of (Some (Text bytes)) = bytes
text_of (Some (Class name)) = []
text_of (Some (NameAndType name desc)) = []
text_of (Some (Field class member)) = []
text_of (Some (Method class member)) = []
text_of (Some (Integer n)) = []

abbrev pub text_among : List Added → ℕ → List ℕ
text_among added place = text_of (slice_get added place)
