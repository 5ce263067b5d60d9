-- The bytes of a class file, from its tree. (The Java Virtual Machine Specification, chapter 4.)
use Rattle.std.specs.Prelude.{ℕ, List, [], ◌++◌, length}
use Rattle.std.specs.List.{flat_map}
use Rattle.std.specs.Int.{w32, w64, cast_unsigned}
use Rattle.mon_base.specs.Widths.{u1, u2, u4, u8}
use Rattle.class_codec.specs.declared.tree.Const.{Const}
use Rattle.class_codec.specs.declared.tree.Const.TheVariants.{Utf8, Integer, Float, Long, Double, Class, Str, Field, Method, IMethod, NameAndType, Second}
use Rattle.class_codec.specs.declared.tree.TableEntry.{TableEntry}
use Rattle.class_codec.specs.declared.tree.Other.{Other}
use Rattle.class_codec.specs.declared.tree.Code.{Code}
use Rattle.class_codec.specs.declared.tree.Attr.{Attr}
use Rattle.class_codec.specs.declared.tree.Attr.TheVariants as attributes
use Rattle.class_codec.specs.declared.tree.Member.{Member}
use Rattle.class_codec.specs.declared.tree.ClassFile.{ClassFile}

-- two bytes of count, and the items
abbrev pub with_count : {X : Type 0} → (X → List ℕ) → List X → List ℕ
with_count item items = u2 (length items) ++ flat_map item items

-- four bytes of length, and the bytes
abbrev pub block : List ℕ → List ℕ
block bytes = u4 (length bytes) ++ bytes

-- a constant: its tag, and what it holds
abbrev pub constant : Const → List ℕ
constant (Utf8 text) = u1 1 ++ u2 (length text) ++ text
constant (Integer n) = u1 3 ++ u4 (cast_unsigned w32 n)
constant (Float bits) = u1 4 ++ u4 bits
constant (Long n) = u1 5 ++ u8 (cast_unsigned w64 n)
constant (Double bits) = u1 6 ++ u8 bits
constant (Class name) = u1 7 ++ u2 name
constant (Str text) = u1 8 ++ u2 text
constant (Field class name) = u1 9 ++ u2 class ++ u2 name
constant (Method class name) = u1 10 ++ u2 class ++ u2 name
constant (IMethod class name) = u1 11 ++ u2 class ++ u2 name
constant (NameAndType name desc) = u1 12 ++ u2 name ++ u2 desc
constant Second = []

abbrev pub table_entry : TableEntry → List ℕ
table_entry e = u2 e.from ++ u2 e.to ++ u2 e.at ++ u2 e.class

abbrev pub other : Other → List ℕ
other o = u2 o.name ++ block o.bytes

-- what stands in a Code attribute
abbrev pub contents : Code → List ℕ
contents c = u2 c.max_stack ++ u2 c.max_locals ++ (block c.code ++ (with_count table_entry c.table ++ with_count other c.attrs))

abbrev pub attribute : Attr → List ℕ
attribute (attributes.Code c) = u2 c.name ++ block (contents c)
attribute (attributes.Other o) = other o

abbrev pub member : Member → List ℕ
member m = u2 m.flags ++ u2 m.name ++ u2 m.desc ++ with_count attribute m.attrs

-- what stands after the constant pool
abbrev pub body : ClassFile → List ℕ
body f = u2 f.flags ++ u2 f.this_class ++ u2 f.super_class
    ++ (with_count u2 f.interfaces ++ (with_count member f.fields ++ (with_count member f.methods ++ with_count attribute f.attrs)))

abbrev pub encoding : ClassFile → List ℕ
encoding f = u4 0xCAFEBABE ++ u2 f.minor ++ u2 49 ++ (with_count constant f.pool ++ body f)
