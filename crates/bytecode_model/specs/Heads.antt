-- What class files say of themselves and of their members, each index replaced by what it names.
-- (The Java Virtual Machine Specification, sections 4.1, 4.5 and 4.6.)
use Rattle.std.specs.Prelude.{ℕ, Bool, not, ◌==◌, ◌&&◌, bit_and, bytes_eq, codes, List, [], ◌++◌, map}
use Rattle.std.specs.Option.{option_map_or}
use Rattle.class_codec.specs.declared.tree.Const.{Const}
use Rattle.class_codec.specs.declared.tree.Member.{Member}
use Rattle.class_codec.specs.declared.tree.ClassFile.{ClassFile}
use Rattle.class_codec.specs.Pool.{utf8_at, class_name_at}
use Rattle.api_listing.specs.declared.types.ListedClass.{ListedClass}
use Rattle.api_listing.specs.declared.types.Listing.{Listing}

-- whether the flags have this one
abbrev pub has_flag : ℕ → ℕ → Bool
has_flag flag flags = not (bit_and flags flag == 0)

abbrev pub is_public : ℕ → Bool
is_public flags = has_flag 1 flags

abbrev pub is_static : ℕ → Bool
is_static flags = has_flag 8 flags

abbrev pub is_synchronized : ℕ → Bool
is_synchronized flags = has_flag 32 flags

abbrev pub is_native : ℕ → Bool
is_native flags = has_flag 256 flags

abbrev pub is_interface : ℕ → Bool
is_interface flags = has_flag 512 flags

abbrev pub is_abstract : ℕ → Bool
is_abstract flags = has_flag 1024 flags

-- the text of an index that names one
abbrev pub text_at : List Const → ℕ → List ℕ
text_at pool index = option_map_or (λ (text : List ℕ). text) (utf8_at pool index) []

-- the name of the class of an index that names one
abbrev pub class_at : List Const → ℕ → List ℕ
class_at pool index = option_map_or (λ (text : List ℕ). text) (class_name_at pool index) []

-- what a class file says of its class
abbrev pub head_of : ClassFile → ListedClass
head_of file = record {
  name = class_at file.pool file.this_class;
  parent = class_at file.pool file.super_class;
  interfaces = map (class_at file.pool) file.interfaces;
  is_interface = is_interface file.flags;
}

abbrev pub heads_of : List ClassFile → List ListedClass
heads_of files = map head_of files

-- the classes of a listing, and then those of the files
abbrev pub all_classes : Listing → List ClassFile → List ListedClass
all_classes listing files = listing.classes ++ heads_of files

abbrev pub name_of : List Const → Member → List ℕ
name_of pool member = text_at pool member.name

abbrev pub desc_of : List Const → Member → List ℕ
desc_of pool member = text_at pool member.desc

-- whether the field or method has the name and the descriptor
abbrev pub is_member : List Const → List ℕ → List ℕ → Member → Bool
is_member pool name desc member = bytes_eq (name_of pool member) name && bytes_eq (desc_of pool member) desc

abbrev pub main_name : List ℕ
main_name = codes "main"

abbrev pub main_desc : List ℕ
main_desc = codes "([Ljava/lang/String;)V"

-- the name of the method that makes a new object, and of the one that makes a class ready
abbrev pub maker : List ℕ
maker = codes "<init>"

abbrev pub initialiser : List ℕ
initialiser = codes "<clinit>"

-- the descriptor of a method that takes and gives nothing
abbrev pub takes_nothing : List ℕ
takes_nothing = codes "()V"

abbrev pub run_name : List ℕ
run_name = codes "run"
