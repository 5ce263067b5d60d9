-- Constants that are added to a pool. (docs/BLOCKS.md)
use Rattle.std.specs.Prelude.{ℕ, ◌+◌, ◌<◌, List, ◌++◌, length, map, Option, Some, None, ⊤}
use Rattle.std.specs.List.{AllByRecursion}
use Rattle.class_codec.specs.declared.tree.Const.{Const}
use Rattle.class_codec.specs.declared.tree.Const.TheVariants as constants
use Rattle.offset_patch.specs.declared.constants.Added.{Added}
use Rattle.offset_patch.specs.declared.constants.Added.TheVariants.{Text, Class, NameAndType, Field, Method, Integer}

abbrev pub const_of : Added → Const
const_of (Text bytes) = constants.Utf8 bytes
const_of (Class name) = constants.Class name
const_of (NameAndType name desc) = constants.NameAndType name desc
const_of (Field class member) = constants.Field class member
const_of (Method class member) = constants.Method class member
const_of (Integer n) = constants.Integer n

-- the constant as one that is added, if it is of such a kind
abbrev pub added_of : Const → Option Added
added_of (constants.Utf8 bytes) = Some (Text bytes)
added_of (constants.Class name) = Some (Class name)
added_of (constants.NameAndType name desc) = Some (NameAndType name desc)
added_of (constants.Field class member) = Some (Field class member)
added_of (constants.Method class member) = Some (Method class member)
added_of (constants.Integer n) = Some (Integer n)
added_of (constants.Float bits) = None
added_of (constants.Long n) = None
added_of (constants.Double bits) = None
added_of (constants.Str text) = None
added_of (constants.IMethod class member) = None
added_of constants.Second = None

-- the pool with what is added after it
abbrev pub with_added : List Const → List Added → List Const
with_added pool added = pool ++ map const_of added

-- What the constant names stands before this place.
abbrev pub NamesBelow : ℕ → Added → Type 0
NamesBelow n (Text bytes) = ⊤
NamesBelow n (Class name) = name < n
NamesBelow n (NameAndType name desc) = (name < n) × (desc < n)
NamesBelow n (Field class member) = (class < n) × (member < n)
NamesBelow n (Method class member) = (class < n) × (member < n)
NamesBelow n (Integer value) = ⊤

-- What is added names places of the pool with what is added after it.
abbrev pub AreNamed : List Const → List Added → Type 0
AreNamed pool added = AllByRecursion (NamesBelow (length pool + length added)) added
