-- The entries of a constant pool that blocks name. An entry that is there is used, the first of several; a new one stands
-- at the end, after the entries that it names itself, in the order in which it names them. (docs/BLOCKS.md)
use Rattle.std.specs.Prelude.{◌≡◌, ℕ, ◌==◌, ◌&&◌, Bool, true, false, bytes_eq, codes, List, [], ◌∷◌, ◌++◌, length, Option, Some, None}
use Rattle.std.specs.Fmt.{decimal}
use Rattle.std.specs.Ordering.{int_eq}
use Rattle.std.specs.List.{position_from}
use Rattle.class_codec.specs.declared.tree.Const.{Const}
use Rattle.class_codec.specs.declared.tree.Const.TheVariants as constants
use Rattle.bytecode_model.specs.declared.members.MemberKind.{MemberKind}
use Rattle.bytecode_model.specs.declared.members.MemberKind.TheVariants as members
use Rattle.offset_patch.specs.declared.block.PoolWant.{PoolWant}
use Rattle.offset_patch.specs.declared.block.PoolWant.TheVariants as wants

-- whether two constants are one value, by the very indices that they name
abbrev pub same : Const → Const → Bool
same (constants.Utf8 a) (constants.Utf8 b) = bytes_eq a b
same (constants.Class a) (constants.Class b) = a == b
same (constants.Field a m) (constants.Field b n) = (a == b) && (m == n)
same (constants.Method a m) (constants.Method b n) = (a == b) && (m == n)
same (constants.Integer a) (constants.Integer b) = int_eq a b
same (constants.NameAndType a m) (constants.NameAndType b n) = (a == b) && (m == n)
same a b = false

-- a pool and the place of a constant in it
abbrev pub Placed : Type 0
Placed = List Const × ℕ

abbrev pub placed : List Const → Const → Option ℕ → Placed
placed pool constant (Some at) = (pool, at)
placed pool constant None = (pool ++ constant ∷ [], length pool)

-- where the constant stands
abbrev pub place_of : Const → List Const → Option ℕ
place_of constant pool = position_from (same constant) 0 pool

-- The first that is equal, or a new one.
abbrev pub entry : Const → List Const → Placed
entry constant pool = placed pool constant (place_of constant pool)

abbrev pub text : List ℕ → List Const → Placed
text bytes pool = entry (constants.Utf8 bytes) pool

abbrev pub class_entry : Placed → Placed
class_entry name = entry (constants.Class name.1) name.0

abbrev pub class : List ℕ → List Const → Placed
class name pool = class_entry (text name pool)

abbrev pub name_and_type_of : Placed → List ℕ → Placed
name_and_type_of name desc = entry (constants.NameAndType name.1 (text desc name.0).1) (text desc name.0).0

abbrev pub name_and_type : List ℕ → List ℕ → List Const → Placed
name_and_type name desc pool = name_and_type_of (text name pool) desc

-- the constant of a member, whose class and whose name with its descriptor stand at these places
abbrev pub member_constant : MemberKind → ℕ → ℕ → Const
member_constant members.Field owner member = constants.Field owner member
member_constant members.Method owner member = constants.Method owner member

abbrev pub member_entry : MemberKind → Placed → List ℕ → List ℕ → Placed
member_entry kind owner name desc = entry (member_constant kind owner.1 (name_and_type name desc owner.0).1) (name_and_type name desc owner.0).0

abbrev pub member : MemberKind → List ℕ → List ℕ → List ℕ → List Const → Placed
member kind owner name desc pool = member_entry kind (class owner pool) name desc

-- the class whose monitor is the lock
abbrev pub state_name : List ℕ
state_name = codes "conspec/State"

-- the name of the variable of this index: v0, v1 and so on
abbrev pub variable_name : ℕ → List ℕ
variable_name index = codes "v" ++ decimal index

-- the type of a variable: boolean, or int
abbrev pub variable_type : Bool → List ℕ
variable_type true = codes "Z"
variable_type false = codes "I"

-- an entry that a block names
abbrev pub wanted : PoolWant → List Const → Placed
wanted wants.StateClass pool = class state_name pool
wanted (wants.StateField var is_bool) pool = member members.Field state_name (variable_name var) (variable_type is_bool) pool
wanted wants.Exit pool = member members.Method (codes "java/lang/System") (codes "exit") (codes "(I)V") pool
wanted (wants.Integer n) pool = entry (constants.Integer n) pool

-- the pool with the entries that are wanted, in the order of use
abbrev pub with_wants : List Const → List PoolWant → List Const
with_wants pool [] = pool
with_wants pool (want ∷ wants) = with_wants (wanted want pool).0 wants

-- the place of an entry that is there
abbrev pub place_in : List Const → PoolWant → ℕ
place_in pool want = (wanted want pool).1

-- The entry is there: it is found without a change.
pub record IsThere (pool : List Const) (want : PoolWant) : Type 0 where
  pub same : (wanted want pool).0 ≡ pool
