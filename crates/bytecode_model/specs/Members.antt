-- Where a field or a method is declared, and the nearest declaration. (docs/LINKING.md)
use Rattle.std.specs.Prelude.{ℕ, ◌+◌, true, List, [], ◌∷◌, ◌++◌, Option, None}
use Rattle.std.specs.Map.{lookup}
use Rattle.std.specs.Option.{option_or}
use Rattle.class_codec.specs.declared.tree.Const.{Const}
use Rattle.class_codec.specs.declared.tree.Member.{Member}
use Rattle.class_codec.specs.declared.tree.ClassFile.{ClassFile}
use Rattle.mon_base.specs.declared.method.MethodId.{MethodId}
use Rattle.api_listing.specs.declared.types.ListedMethod.{ListedMethod}
use Rattle.api_listing.specs.declared.types.Listing.{Listing}
use Rattle.api_listing.specs.BuiltIn.{MethodRow, method_rows, is_method}
use Rattle.bytecode_model.specs.declared.members.Found.{Found}
use Rattle.bytecode_model.specs.declared.members.MemberKind.{MemberKind}
use Rattle.bytecode_model.specs.declared.members.MemberKind.TheVariants as kinds
use Rattle.bytecode_model.specs.declared.program.Target.{Target}
use Rattle.bytecode_model.specs.declared.program.Target.TheVariants as target
use Rattle.bytecode_model.specs.Heads.{class_at, name_of, desc_of, is_static, all_classes}
use Rattle.bytecode_model.specs.SearchOrder.{Name, field_order, search_order}

-- a declaration: its class, name and descriptor, and what is found there
abbrev pub Declared : Type 0
Declared = MethodId × Found

-- ---- what is declared, in order

abbrev pub target_in : MemberKind → ℕ → ℕ → Target
target_in kinds.Method class index = target.Method class index
target_in kinds.Field class index = target.Field class index

abbrev pub members_of : MemberKind → ClassFile → List Member
members_of kinds.Method file = file.methods
members_of kinds.Field file = file.fields

-- a member of a class of this name and index, by its own index
abbrev pub member_declared : MemberKind → Name → List Const → ℕ → ℕ → Member → Declared
member_declared kind name pool class index member = (
  record { class = name; name = name_of pool member; desc = desc_of pool member },
  record { target = target_in kind class index; is_static = is_static member.flags },
)

-- members of a class, of which the first has this index
abbrev pub members_from : MemberKind → Name → List Const → ℕ → ℕ → List Member → List Declared
members_from kind name pool class index [] = []
members_from kind name pool class index (member ∷ members) =
    member_declared kind name pool class index member ∷ members_from kind name pool class (index + 1) members

abbrev pub file_members : MemberKind → ℕ → ClassFile → List Declared
file_members kind class file = members_from kind (class_at file.pool file.this_class) file.pool class 0 (members_of kind file)

-- those of files, of which the first has this index
abbrev pub given_from : MemberKind → ℕ → List ClassFile → List Declared
given_from kind class [] = []
given_from kind class (file ∷ files) = file_members kind class file ++ given_from kind (class + 1) files

-- those of a listing, of which the first has this index
abbrev pub listed_from : ℕ → List ListedMethod → List Declared
listed_from index [] = []
listed_from index (m ∷ methods) = (m.id, record { target = target.ApiMethod index; is_static = m.is_static }) ∷ listed_from (index + 1) methods

-- A listed field is static.
abbrev pub listed_fields_from : ℕ → List MethodId → List Declared
listed_fields_from index [] = []
listed_fields_from index (id ∷ fields) = (id, record { target = target.ApiField index; is_static = true }) ∷ listed_fields_from (index + 1) fields

abbrev pub row_declared : ℕ → MethodRow → Declared
row_declared index row = (record { class = row.0; name = row.1; desc = row.2 }, record { target = target.Builtin index; is_static = row.3 })

-- those of the table of the built-in methods, of which the first has this index
abbrev pub rows_from : ℕ → List MethodRow → List Declared
rows_from index [] = []
rows_from index (row ∷ rows) = row_declared index row ∷ rows_from (index + 1) rows

-- the methods of the files, the listed ones, and the built-in ones
abbrev pub methods_declared : List ClassFile → Listing → List Declared
methods_declared files listing = given_from kinds.Method 0 files ++ (listed_from 0 listing.methods ++ rows_from 0 method_rows)

abbrev pub fields_declared : List ClassFile → Listing → List Declared
fields_declared files listing = given_from kinds.Field 0 files ++ listed_fields_from 0 listing.fields

-- what the first of the declarations of this class, name and descriptor has
abbrev pub first_of : List Declared → MethodId → Option Found
first_of declared id = lookup (is_method id.class id.name id.desc) declared

-- ---- the nearest

abbrev pub in_class : MethodId → Name → MethodId
in_class id class = record { class = class; name = id.name; desc = id.desc }

-- what the first of the classes that declares it has, where each look-up gives what is declared
abbrev pub first_found : (MethodId → Option Found) → MethodId → List Name → Option Found
first_found look id [] = None
first_found look id (class ∷ classes) = option_or (look (in_class id class)) (first_found look id classes)

-- the method of this name and descriptor that a class has: its own, or the nearest one above it
abbrev pub method_of : List ClassFile → Listing → MethodId → Option Found
method_of files listing id = first_found (first_of (methods_declared files listing)) id (search_order (all_classes listing files) id.class)

-- the field of this name and descriptor that a class has
abbrev pub field_of : List ClassFile → Listing → MethodId → Option Found
field_of files listing id = first_found (first_of (fields_declared files listing)) id (field_order (all_classes listing files) id.class)
