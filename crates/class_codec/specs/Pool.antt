-- What indices into a constant pool name. (The Java Virtual Machine Specification, section 4.4)
use Rattle.std.specs.Prelude.{ℕ, Bool, true, false, List, [], ◌∷◌, Option, Some, None, slice_get, nat_eq}
use Rattle.std.specs.Cmp.Lexicographic.{pointwise}
use Rattle.mon_base.specs.declared.method.MethodId.{MethodId}
use Rattle.class_codec.specs.declared.tree.Const.{Const}
use Rattle.class_codec.specs.declared.tree.Const.TheVariants as constants
use Rattle.class_codec.specs.declared.pool.Reference.{Reference}
use Rattle.class_codec.specs.declared.pool.ConstKind.{ConstKind}
use Rattle.class_codec.specs.declared.pool.ConstKind.TheVariants as kinds

abbrev pub is_of : ConstKind → Const → Bool
is_of kinds.Utf8 (constants.Utf8 text) = true
is_of kinds.Class (constants.Class name) = true
is_of kinds.NameAndType (constants.NameAndType name desc) = true
is_of kind constant = false

abbrev pub is_one_of : ConstKind → Option Const → Bool
is_one_of kind None = false
is_one_of kind (Some constant) = is_of kind constant

-- the index names a constant of the kind
unfoldable pub names : ConstKind → List Const → ℕ → Bool
names kind pool index = is_one_of kind (slice_get pool index)

abbrev pub text_of : Option Const → Option (List ℕ)
text_of (Some (constants.Utf8 text)) = Some text
text_of other = None

-- the text that the index names
unfoldable pub utf8_at : List Const → ℕ → Option (List ℕ)
utf8_at pool index = text_of (slice_get pool index)

-- "Code"
abbrev pub code_text : List ℕ
code_text = 67 ∷ 111 ∷ 100 ∷ 101 ∷ []

abbrev pub is_code : Option (List ℕ) → Bool
is_code (Some text) = pointwise nat_eq text code_text
is_code None = false

-- ---- what a constant tells, through its indices

abbrev pub class_name_of : List Const → Option Const → Option (List ℕ)
class_name_of pool (Some (constants.Class name)) = utf8_at pool name
class_name_of pool other = None

-- the name of the class that the index names
unfoldable pub class_name_at : List Const → ℕ → Option (List ℕ)
class_name_at pool index = class_name_of pool (slice_get pool index)

abbrev pub both : {A B : Type 0} → Option A → Option B → Option (A × B)
both (Some a) (Some b) = Some (a, b)
both a b = None

abbrev pub name_and_type_of : List Const → Option Const → Option (List ℕ × List ℕ)
name_and_type_of pool (Some (constants.NameAndType name desc)) = both (utf8_at pool name) (utf8_at pool desc)
name_and_type_of pool other = None

-- the name and the descriptor that the index names
unfoldable pub name_and_type_at : List Const → ℕ → Option (List ℕ × List ℕ)
name_and_type_at pool index = name_and_type_of pool (slice_get pool index)

-- what a reference tells
abbrev pub id_told : Reference → MethodId
id_told r = record { class = r.class.now; name = r.name.now; desc = r.desc.now }

abbrev pub member_id : Option (List ℕ) → Option (List ℕ × List ℕ) → Option MethodId
member_id (Some class) (Some member) = Some (record { class = class; name = member.0; desc = member.1 })
member_id class member = None

abbrev pub reference_of : List Const → Option Const → Option MethodId
reference_of pool (Some (constants.Field class member)) = member_id (class_name_at pool class) (name_and_type_at pool member)
reference_of pool (Some (constants.Method class member)) = member_id (class_name_at pool class) (name_and_type_at pool member)
reference_of pool (Some (constants.IMethod class member)) = member_id (class_name_at pool class) (name_and_type_at pool member)
reference_of pool other = None

-- the class, the name and the descriptor of the field or the method that the index names
unfoldable pub reference_at : List Const → ℕ → Option MethodId
reference_at pool index = reference_of pool (slice_get pool index)
