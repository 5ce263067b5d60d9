-- Which trees are those of class files. (The Java Virtual Machine Specification, chapter 4.)
use Rattle.std.specs.Prelude.{◌≡◌, ℕ, ◌<◌, ◌≤◌, ◌==◌, ◌||◌, ◌&&◌, Bool, true, false, List, [], ◌∷◌, length, FitsSigned, ⊤}
use Rattle.std.specs.List.{AllByRecursion}
use Rattle.std.specs.Int.{w32, w64}
use Rattle.mon_base.specs.Widths.{IsU2, IsU4, IsU8}
use Rattle.class_codec.specs.declared.pool.ConstKind.TheVariants as kinds
use Rattle.class_codec.specs.declared.pool.ConstKind.{ConstKind}
use Rattle.class_codec.specs.declared.tree.Const.{Const}
use Rattle.class_codec.specs.declared.tree.Const.TheVariants.{Utf8, Integer, Float, Long, Double, Class, Str, Field, Method, IMethod, NameAndType, Second}
use Rattle.class_codec.specs.declared.tree.TableEntry.{TableEntry}
use Rattle.class_codec.specs.declared.tree.Other.{Other}
use Rattle.class_codec.specs.declared.tree.Code.{Code}
use Rattle.class_codec.specs.declared.tree.Attr.{Attr}
use Rattle.class_codec.specs.declared.tree.Attr.TheVariants as attributes
use Rattle.class_codec.specs.declared.tree.Member.{Member}
use Rattle.class_codec.specs.declared.tree.ClassFile.{ClassFile}
use Rattle.class_codec.specs.Pool.{names, utf8_at, is_code}
use Rattle.class_codec.specs.Encoding.{contents, encoding}

-- two bytes count the items, and each fits
pub record FitCounted {X : Type 0} (FitsItem : X → Type 0) (items : List X) : Type 0 where
  pub count : IsU2 (length items)
  pub each : AllByRecursion FitsItem items

-- four bytes count the bytes
abbrev pub FitsBlock : List ℕ → Type 0
FitsBlock bytes = IsU4 (length bytes)

-- ---- the constant pool

-- a byte of a text is neither 0 nor in 0xF0 to 0xFF
abbrev pub IsTextByte : ℕ → Type 0
IsTextByte b = (0 < b) × (b < 240)

abbrev pub FitsConst : Const → Type 0
FitsConst (Utf8 text) = IsU2 (length text) × AllByRecursion IsTextByte text
FitsConst (Integer n) = FitsSigned w32 n
FitsConst (Float bits) = IsU4 bits
FitsConst (Long n) = FitsSigned w64 n
FitsConst (Double bits) = IsU8 bits
FitsConst (Class name) = IsU2 name
FitsConst (Str text) = IsU2 text
FitsConst (Field class name) = IsU2 class × IsU2 name
FitsConst (Method class name) = IsU2 class × IsU2 name
FitsConst (IMethod class name) = IsU2 class × IsU2 name
FitsConst (NameAndType name desc) = IsU2 name × IsU2 desc
FitsConst Second = ⊤

abbrev pub is_second : Const → Bool
is_second Second = true
is_second other = false

-- a Long or a Double, which takes two places
abbrev pub takes_two : Const → Bool
takes_two (Long n) = true
takes_two (Double bits) = true
takes_two other = false

-- Second stands after each Long and Double and nowhere else; and first, where `second` says so.
abbrev pub HasSeconds : Bool → List Const → Type 0
HasSeconds second [] = second ≡ false
HasSeconds second (first ∷ others) = (is_second first ≡ second) × HasSeconds (takes_two first) others

-- what the indices in a constant name
abbrev pub IsNamed : List Const → Const → Type 0
IsNamed pool (Class name) = names kinds.Utf8 pool name ≡ true
IsNamed pool (Str text) = names kinds.Utf8 pool text ≡ true
IsNamed pool (Field class name) = (names kinds.Class pool class ≡ true) × (names kinds.NameAndType pool name ≡ true)
IsNamed pool (Method class name) = (names kinds.Class pool class ≡ true) × (names kinds.NameAndType pool name ≡ true)
IsNamed pool (IMethod class name) = (names kinds.Class pool class ≡ true) × (names kinds.NameAndType pool name ≡ true)
IsNamed pool (NameAndType name desc) = (names kinds.Utf8 pool name ≡ true) × (names kinds.Utf8 pool desc ≡ true)
IsNamed pool other = ⊤

pub record FitsPool (pool : List Const) : Type 0 where
  pub count : IsU2 (length pool)
  pub each : AllByRecursion FitsConst pool
  pub seconds : HasSeconds true pool
  pub named : AllByRecursion (IsNamed pool) pool

-- ---- what stands after it

-- an index that names a constant of the kind
pub record IsIndex (kind : ConstKind) (pool : List Const) (index : ℕ) : Type 0 where
  pub fits : IsU2 index
  pub named : names kind pool index ≡ true

-- The class that is caught is a class, or 0 for any.
pub record FitsTableEntry (pool : List Const) (e : TableEntry) : Type 0 where
  pub from : IsU2 e.from
  pub to : IsU2 e.to
  pub at : IsU2 e.at
  pub class : IsU2 e.class
  pub named : (e.class == 0) || names kinds.Class pool e.class ≡ true

pub record FitsOther (pool : List Const) (o : Other) : Type 0 where
  pub name : IsIndex kinds.Utf8 pool o.name
  pub bytes : FitsBlock o.bytes

pub record FitsCode (pool : List Const) (c : Code) : Type 0 where
  pub name : IsIndex kinds.Utf8 pool c.name
  pub max_stack : IsU2 c.max_stack
  pub max_locals : IsU2 c.max_locals
  pub some : 1 ≤ length c.code
  pub short : length c.code ≤ 65535
  pub table : FitCounted (FitsTableEntry pool) c.table
  pub attrs : FitCounted (FitsOther pool) c.attrs
  pub len : IsU4 (length (contents c))

-- An attribute is Code exactly where it is of a method and has the name Code.
abbrev pub is_read_as_code : List Const → Bool → ℕ → Bool
is_read_as_code pool of_method name = of_method && is_code (utf8_at pool name)

abbrev pub FitsAttr : List Const → Bool → Attr → Type 0
FitsAttr pool of_method (attributes.Code c) = (is_read_as_code pool of_method c.name ≡ true) × FitsCode pool c
FitsAttr pool of_method (attributes.Other o) = (is_read_as_code pool of_method o.name ≡ false) × FitsOther pool o

pub record FitsMember (pool : List Const) (of_method : Bool) (m : Member) : Type 0 where
  pub flags : IsU2 m.flags
  pub name : IsIndex kinds.Utf8 pool m.name
  pub desc : IsIndex kinds.Utf8 pool m.desc
  pub attrs : FitCounted (FitsAttr pool of_method) m.attrs

pub record IsEncodable (f : ClassFile) : Type 0 where
  pub minor : IsU2 f.minor
  pub pool : FitsPool f.pool
  pub flags : IsU2 f.flags
  pub this_class : IsIndex kinds.Class f.pool f.this_class
  pub super_class : IsIndex kinds.Class f.pool f.super_class
  pub interfaces : FitCounted (IsIndex kinds.Class f.pool) f.interfaces
  pub fields : FitCounted (FitsMember f.pool false) f.fields
  pub methods : FitCounted (FitsMember f.pool true) f.methods
  pub attrs : FitCounted (FitsAttr f.pool false) f.attrs

-- The bytes are those of the class file.
pub record EncodesClass (bytes : List ℕ) (f : ClassFile) : Type 0 where
  pub fits : IsEncodable f
  pub is : bytes ≡ encoding f
