-- Reading a class file from left to right: the tree and the place after it, or the first fault.
-- (The Java Virtual Machine Specification, chapter 4)
use Rattle.std.specs.Prelude.{ℕ, zero, suc, ◌+◌, ◌==◌, ◌||◌, ◌&&◌, Bool, true, false, List, [], ◌∷◌, length, position, Option, Some, None, ok_or, Result, Ok, Err, nat_lt, nat_le, if◌then◌else◌}
use Rattle.std.specs.Int.{w32, w64, cast_signed}
use Rattle.mon_base.specs.Reading.{Place, part, bytes_at, number_at, ◌>>=◌, need, counted, whole}
use Rattle.class_codec.specs.declared.fault.ClassFault.{ClassFault}
use Rattle.class_codec.specs.declared.fault.ClassFault.TheVariants.{Magic, Version, Short, Tail, Tag, Index, TooLong}
use Rattle.class_codec.specs.declared.pool.ConstKind.{ConstKind}
use Rattle.class_codec.specs.declared.pool.ConstKind.TheVariants as kinds
use Rattle.class_codec.specs.declared.tree.Const.{Const}
use Rattle.class_codec.specs.declared.tree.Const.TheVariants as constants
use Rattle.class_codec.specs.declared.tree.TableEntry.{TableEntry}
use Rattle.class_codec.specs.declared.tree.Other.{Other}
use Rattle.class_codec.specs.declared.tree.Code.{Code}
use Rattle.class_codec.specs.declared.tree.Attr.{Attr}
use Rattle.class_codec.specs.declared.tree.Attr.TheVariants as attributes
use Rattle.class_codec.specs.declared.tree.Member.{Member}
use Rattle.class_codec.specs.declared.tree.ClassFile.{ClassFile}
use Rattle.class_codec.specs.Pool.{names}
use Rattle.class_codec.specs.Encoding.{constant}
use Rattle.class_codec.specs.Fits.{takes_two, is_read_as_code}

-- What the reader of X answers: the value and the place after it, or the fault.
abbrev pub Read : Type 0 → Type 0
Read X = Result (X × Place) ClassFault

-- ---- numbers, bytes and indices

unfoldable pub u1_at : Place → Read ℕ
u1_at p = ok_or (number_at 1 p) (Short p.at)

unfoldable pub u2_at : Place → Read ℕ
u2_at p = ok_or (number_at 2 p) (Short p.at)

unfoldable pub u4_at : Place → Read ℕ
u4_at p = ok_or (number_at 4 p) (Short p.at)

unfoldable pub u8_at : Place → Read ℕ
u8_at p = ok_or (number_at 8 p) (Short p.at)

unfoldable pub taken_at : ℕ → Place → Read (List ℕ)
taken_at n p = ok_or (bytes_at n p) (Short p.at)

unfoldable pub block_at : Place → Read (List ℕ)
block_at p = do
  len ← u4_at p
  taken_at len.0 len.1

unfoldable pub index_at : ConstKind → List Const → Place → Read ℕ
index_at kind pool p = do
  index ← u2_at p
  named ← need (names kind pool index.0) (Index p.at)
  Ok index

unfoldable pub counted_at : {X : Type 0} → (Place → Read X) → Place → Read (List X)
counted_at item p = do
  count ← u2_at p
  counted item count.0 count.1

-- ---- the constant pool

abbrev pub is_no_text_byte : ℕ → Bool
is_no_text_byte b = (b == 0) || nat_le 240 b

-- the fault of the first byte that may not stand in a text which stands at `at`
abbrev pub text_checked : ℕ → Option ℕ → Result (Unit {0}) ClassFault
text_checked at None = Ok tt
text_checked at (Some i) = Err (Index (at + i))

unfoldable pub text_at : Place → Read (List ℕ)
text_at p = do
  len ← u2_at p
  text ← taken_at len.0 len.1
  checked ← text_checked len.1.at (position is_no_text_byte text.0)
  Ok text

unfoldable pub pair_at : Place → Read (ℕ × ℕ)
pair_at p = do
  first ← u2_at p
  second ← u2_at first.1
  Ok ((first.0, second.0), second.1)

-- the eight bytes of a constant that begins at `at` and takes two places, with `left` places after its first
unfoldable pub wide_at : ℕ → ℕ → Place → Read ℕ
wide_at at left p = do
  room ← need (nat_lt 0 left) (Index at)
  u8_at p

-- the constant of two indices that has this tag: a field, a method, a method of an interface, or a name and its type
abbrev pub of_pair : ℕ → ℕ → ℕ → Const
of_pair tag first second =
    if tag == 9 then constants.Field first second
    else if tag == 10 then constants.Method first second
    else if tag == 11 then constants.IMethod first second
    else constants.NameAndType first second

-- what follows the tag of a constant that begins at `at`, with `left` places after it
unfoldable pub payload_at : ℕ → ℕ → ℕ → Place → Read Const
payload_at at left tag p =
    if tag == 1 then (text_at p >>= λ text. Ok (constants.Utf8 text.0, text.1))
    else if tag == 3 then (u4_at p >>= λ n. Ok (constants.Integer (cast_signed w32 n.0), n.1))
    else if tag == 4 then (u4_at p >>= λ n. Ok (constants.Float n.0, n.1))
    else if tag == 5 then (wide_at at left p >>= λ n. Ok (constants.Long (cast_signed w64 n.0), n.1))
    else if tag == 6 then (wide_at at left p >>= λ n. Ok (constants.Double n.0, n.1))
    else if tag == 7 then (u2_at p >>= λ n. Ok (constants.Class n.0, n.1))
    else if tag == 8 then (u2_at p >>= λ n. Ok (constants.Str n.0, n.1))
    else if nat_le 9 tag && nat_le tag 12 then (pair_at p >>= λ n. Ok (of_pair tag n.0.0 n.0.1, n.1))
    else Err (Tag at tag)

unfoldable pub constant_at : ℕ → Place → Read Const
constant_at left p = do
  tag ← u1_at p
  payload_at p.at left tag.0 tag.1

-- a place of the pool; `second` says that it is the second of its constant, which has no bytes
unfoldable pub place_at : Bool → ℕ → Place → Read Const
place_at true left p = Ok (constants.Second, p)
place_at false left p = constant_at left p

unfoldable pub places_at : Bool → ℕ → Place → Read (List Const)
places_at second zero p = Ok ([], p)
places_at second (suc left) p = do
  first ← place_at second left p
  others ← places_at (takes_two first.0) left first.1
  Ok (first.0 ∷ others.0, others.1)

unfoldable pub index_checked : List Const → ConstKind → ℕ → ℕ → Result (Unit {0}) ClassFault
index_checked pool kind index at = need (names kind pool index) (Index at)

unfoldable pub pair_checked : List Const → ConstKind → ℕ → ConstKind → ℕ → ℕ → Result (Unit {0}) ClassFault
pair_checked pool kind first other second at = do
  checked ← index_checked pool kind first (at + 1)
  index_checked pool other second (at + 3)

-- the indices of a constant that begins at `at`, after its tag
abbrev pub constant_checked : List Const → Const → ℕ → Result (Unit {0}) ClassFault
constant_checked pool (constants.Class name) at = index_checked pool kinds.Utf8 name (at + 1)
constant_checked pool (constants.Str text) at = index_checked pool kinds.Utf8 text (at + 1)
constant_checked pool (constants.Field class name) at = pair_checked pool kinds.Class class kinds.NameAndType name at
constant_checked pool (constants.Method class name) at = pair_checked pool kinds.Class class kinds.NameAndType name at
constant_checked pool (constants.IMethod class name) at = pair_checked pool kinds.Class class kinds.NameAndType name at
constant_checked pool (constants.NameAndType name desc) at = pair_checked pool kinds.Utf8 name kinds.Utf8 desc at
constant_checked pool other at = Ok tt

-- the indices of the constants that stand from `at` on, in order of place
unfoldable pub all_checked : List Const → List Const → ℕ → Result (Unit {0}) ClassFault
all_checked pool [] at = Ok tt
all_checked pool (first ∷ others) at = do
  checked ← constant_checked pool first at
  all_checked pool others (at + length (constant first))

unfoldable pub pool_at : Place → Read (List Const)
pool_at p = do
  count ← u2_at p
  pool ← places_at true count.0 count.1
  checked ← all_checked pool.0 pool.0 count.1.at
  Ok pool

-- ---- attributes

unfoldable pub other_at : List Const → Place → Read Other
other_at pool p = do
  name ← index_at kinds.Utf8 pool p
  bytes ← block_at name.1
  Ok (record { name = name.0; bytes = bytes.0 }, bytes.1)

-- the class that is caught, or 0 for any
unfoldable pub caught_at : List Const → Place → Read ℕ
caught_at pool p = do
  class ← u2_at p
  named ← need ((class.0 == 0) || names kinds.Class pool class.0) (Index p.at)
  Ok class

unfoldable pub table_entry_at : List Const → Place → Read TableEntry
table_entry_at pool p = do
  from ← u2_at p
  to ← u2_at from.1
  at ← u2_at to.1
  class ← caught_at pool at.1
  Ok (record { from = from.0; to = to.0; at = at.0; class = class.0 }, class.1)

-- the length of a method's code, which is 1 to 65,535
unfoldable pub code_len_at : Place → Read ℕ
code_len_at p = do
  len ← u4_at p
  right ← need (nat_le 1 len.0 && nat_le len.0 65535) (Index p.at)
  Ok len

unfoldable pub instructions_at : Place → Read (List ℕ)
instructions_at p = do
  len ← code_len_at p
  taken_at len.0 len.1

unfoldable pub contents_at : List Const → ℕ → Place → Read Code
contents_at pool name p = do
  stack ← u2_at p
  locals ← u2_at stack.1
  code ← instructions_at locals.1
  table ← counted_at (table_entry_at pool) code.1
  attrs ← counted_at (other_at pool) table.1
  Ok (record { name = name; max_stack = stack.0; max_locals = locals.0; code = code.0; table = table.0; attrs = attrs.0 }, attrs.1)

-- Code with this name, after the name: its contents end exactly at its length. Where the file ends before, they are
-- read as far as it goes.
unfoldable pub code_at : List Const → ℕ → Place → Read Code
code_at pool name p = do
  len ← u4_at p
  code ← contents_at pool name (part len.0 len.1)
  ended ← need (length code.1.rest == 0) (Tail code.1.at)
  all ← ok_or (bytes_at len.0 len.1) (Short code.1.at)
  Ok (code.0, all.1)

-- an attribute with this name, after the name
unfoldable pub named_at : Bool → List Const → ℕ → Place → Read Attr
named_at true pool name p = do
  code ← code_at pool name p
  Ok (attributes.Code code.0, code.1)
named_at false pool name p = do
  bytes ← block_at p
  Ok (attributes.Other (record { name = name; bytes = bytes.0 }), bytes.1)

unfoldable pub attribute_at : List Const → Bool → Place → Read Attr
attribute_at pool of_method p = do
  name ← index_at kinds.Utf8 pool p
  named_at (is_read_as_code pool of_method name.0) pool name.0 name.1

-- ---- the file

unfoldable pub member_at : List Const → Bool → Place → Read Member
member_at pool of_method p = do
  flags ← u2_at p
  name ← index_at kinds.Utf8 pool flags.1
  desc ← index_at kinds.Utf8 pool name.1
  attrs ← counted_at (attribute_at pool of_method) desc.1
  Ok (record { flags = flags.0; name = name.0; desc = desc.0; attrs = attrs.0 }, attrs.1)

-- what stands before the pool: the minor version
unfoldable pub head_at : Place → Read ℕ
head_at p = do
  magic ← u4_at p
  is_class ← need (magic.0 == 0xCAFEBABE) Magic
  minor ← u2_at magic.1
  major ← u2_at minor.1
  is_known ← need (major.0 == 49) (Version major.0)
  Ok (minor.0, major.1)

-- what stands after it
unfoldable pub body_at : ℕ → List Const → Place → Read ClassFile
body_at minor pool p = do
  flags ← u2_at p
  this_class ← index_at kinds.Class pool flags.1
  super_class ← index_at kinds.Class pool this_class.1
  interfaces ← counted_at (index_at kinds.Class pool) super_class.1
  fields ← counted_at (member_at pool false) interfaces.1
  methods ← counted_at (member_at pool true) fields.1
  attrs ← counted_at (attribute_at pool false) methods.1
  Ok (
    record {
      minor = minor;
      pool = pool;
      flags = flags.0;
      this_class = this_class.0;
      super_class = super_class.0;
      interfaces = interfaces.0;
      fields = fields.0;
      methods = methods.0;
      attrs = attrs.0;
    },
    attrs.1,
  )

unfoldable pub file_at : Place → Read ClassFile
file_at p = do
  minor ← head_at p
  pool ← pool_at minor.1
  body_at minor.0 pool.0 pool.1

-- All the bytes are read, if they are no more than 1,048,576.
unfoldable pub class_of : List ℕ → Result ClassFile ClassFault
class_of bytes = do
  short ← need (nat_le (length bytes) 1048576) (TooLong (length bytes))
  whole file_at (λ p. Tail p.at) bytes
