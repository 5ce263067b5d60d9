-- The class file of conspec/State, which holds the variables of a policy, and whose monitor is the lock. (docs/BLOCKS.md)
use Rattle.std.specs.Prelude.{ℕ, ◌+◌, ◌*◌, Bool, if◌then◌else◌, List, [], ◌∷◌, ◌++◌, codes}
use Rattle.byteorder.specs.Endian.{big_bytes}
use Rattle.class_codec.specs.declared.tree.Attr.TheVariants as attributes
use Rattle.class_codec.specs.declared.tree.ClassFile.{ClassFile}
use Rattle.class_codec.specs.declared.tree.Const.{Const}
use Rattle.class_codec.specs.declared.tree.Const.TheVariants.{Utf8, Integer, Class, Second}
use Rattle.class_codec.specs.declared.tree.Member.{Member}
use Rattle.conspec_tree.specs.declared.types.Var.{Var}
use Rattle.offset_patch.specs.Entries.{state_name, variable_name}

-- place 0, and the constants that each such class has
abbrev pub head : List Const
head =
    Second
    ∷ Utf8 state_name
    ∷ Class 1
    ∷ Utf8 (codes "java/lang/Object")
    ∷ Class 3
    ∷ Utf8 (codes "ConstantValue")
    ∷ Utf8 (codes "I")
    ∷ Utf8 (codes "Z")
    ∷ []

-- the name of each variable and its value at first, of which the first has this index
abbrev pub values_from : ℕ → List Var → List Const
values_from index [] = []
values_from index (var ∷ vars) = Utf8 (variable_name index) ∷ Integer var.first ∷ values_from (index + 1) vars

-- the place of a variable's name in the pool, after which its value stands
abbrev pub variable_text : ℕ → ℕ
variable_text index = 8 + 2 * index

-- the type of the field: int or boolean
abbrev pub kind_text : Bool → ℕ
kind_text is_bool = if is_bool then 7 else 6

-- a public static field with a ConstantValue
abbrev pub field : ℕ → Var → Member
field index var = record {
  flags = 0x0009;
  name = variable_text index;
  desc = kind_text var.is_bool;
  attrs = attributes.Other (record { name = 5; bytes = big_bytes 2 (variable_text index + 1) }) ∷ [];
}

abbrev pub fields_from : ℕ → List Var → List Member
fields_from index [] = []
fields_from index (var ∷ vars) = field index var ∷ fields_from (index + 1) vars

abbrev pub state_file : List Var → ClassFile
state_file vars = record {
  minor = 0;
  pool = head ++ values_from 0 vars;
  flags = 0x0021;
  this_class = 2;
  super_class = 4;
  interfaces = [];
  fields = fields_from 0 vars;
  methods = [];
  attrs = [];
}
