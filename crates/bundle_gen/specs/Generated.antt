-- A program that is made from a number, with the listing and the policy for it. (docs/GENERATED.md)
use Rattle.std.specs.Prelude.{◌≡◌, ℕ, zero, suc, ◌+◌, ◌*◌, ◌/◌, ◌%◌, ◌==◌, if◌then◌else◌, pos, List, [], ◌∷◌, ◌++◌, Some, codes, decimal}
use Rattle.bundle_gen.specs.declared.bundle.Bundle.{Bundle}
use Rattle.bundle_gen.specs.declared.members.Head.{Head}
use Rattle.bundle_gen.specs.Draws.{next_state, draw, state_after}
use Rattle.class_codec.specs.declared.tree.Attr.TheVariants as attributes
use Rattle.class_codec.specs.declared.tree.ClassFile.{ClassFile}
use Rattle.class_codec.specs.declared.tree.Const.{Const}
use Rattle.class_codec.specs.declared.tree.Const.TheVariants.{Utf8, Class, Method, NameAndType, Second}
use Rattle.class_codec.specs.declared.tree.Member.{Member}
use Rattle.class_codec.specs.Pool.{class_name_at}
use Rattle.insn_codec.specs.declared.insn.Insn.{Insn}
use Rattle.insn_codec.specs.declared.insn.Insn.TheVariants.{Plain, Short, Pool}
use Rattle.insn_codec.specs.declared.opcodes.TheConstants.{ALOAD_0, DUP, INVOKESPECIAL, INVOKESTATIC, INVOKEVIRTUAL, NEW, POP, RETURN}
use Rattle.insn_codec.specs.Encoding.{encoding}

-- ---- what both classes have

-- a method with one local variable, of this code
abbrev pub method : Head → List Insn → Member
method head insns = record {
  flags = head.flags;
  name = head.name;
  desc = 6;
  attrs = attributes.Code (record { name = head.code; max_stack = head.max_stack; max_locals = 1; code = encoding insns; table = []; attrs = [] }) ∷ [];
}

-- a public class with this pool and these methods
abbrev pub class_file : List Const → List Member → ClassFile
class_file pool methods = record {
  minor = 0;
  pool = pool;
  flags = 0x0021;
  this_class = 2;
  super_class = 4;
  interfaces = [];
  fields = [];
  methods = methods;
  attrs = [];
}

-- The name of its class is this.
abbrev pub HasName : ClassFile → List ℕ → Type 0
HasName file name = class_name_at file.pool file.this_class ≡ Some name

-- ---- the threads: g/C0, g/C1, ..

abbrev pub thread_name : ℕ → List ℕ
thread_name index = codes "g/C" ++ decimal index

-- places 0 to 10: the class, how a thread is begun, and its run
abbrev pub thread_own : ℕ → List Const
thread_own index =
    Second
    ∷ Utf8 (thread_name index)
    ∷ Class 1
    ∷ Utf8 (codes "java/lang/Thread")
    ∷ Class 3
    ∷ Utf8 (codes "<init>")
    ∷ Utf8 (codes "()V")
    ∷ NameAndType 5 6
    ∷ Method 4 7
    ∷ Utf8 (codes "run")
    ∷ Utf8 (codes "Code")
    ∷ []

-- places 11 to 20: the methods of the library
abbrev pub library : List Const
library =
    Utf8 (codes "api/Net")
    ∷ Class 11
    ∷ Utf8 (codes "send")
    ∷ Utf8 (codes "(I)V")
    ∷ NameAndType 13 14
    ∷ Method 12 15
    ∷ Utf8 (codes "read")
    ∷ Utf8 (codes "()I")
    ∷ NameAndType 17 18
    ∷ Method 12 19
    ∷ []

-- the code of <init>
abbrev pub init_code : List Insn
init_code = Plain ALOAD_0 ∷ Pool INVOKESPECIAL 8 ∷ Plain RETURN ∷ []

-- A site sends a number where what was drawn is even, and else reads one and drops it.
unfoldable pub site : ℕ → List Insn
site drawn =
    if drawn % 2 == 0
    then Short (pos (drawn / 2 % 1000)) ∷ Pool INVOKESTATIC 16 ∷ []
    else Pool INVOKESTATIC 20 ∷ Plain POP ∷ []

-- so many sites, each with the draw of its own state; the first comes after this one
unfoldable pub sites_from : ℕ → ℕ → List Insn
sites_from state zero = []
sites_from state (suc n) = site (draw (next_state state)) ++ sites_from (next_state state) n

-- the code of run
abbrev pub run_code : ℕ → ℕ → List Insn
run_code state sites = sites_from state sites ++ Plain RETURN ∷ []

abbrev pub init_method : Member
init_method = method (record { flags = 0x0001; name = 5; code = 10; max_stack = 1 }) init_code

abbrev pub run_method : ℕ → ℕ → Member
run_method state sites = method (record { flags = 0x0001; name = 9; code = 10; max_stack = 1 }) (run_code state sites)

-- the class of this index, whose run has so many sites from this state on
unfoldable pub thread_class : ℕ → ℕ → ℕ → ClassFile
thread_class index state sites = class_file (thread_own index ++ library) (init_method ∷ run_method state sites ∷ [])

-- so many of them, the first with this index and from this state on
unfoldable pub classes_from : ℕ → ℕ → ℕ → ℕ → List ClassFile
classes_from index state sites zero = []
classes_from index state sites (suc n) = thread_class index state sites ∷ classes_from (index + 1) (state_after state sites) sites n

-- ---- the main class, g/Main, which begins a thread of each class

abbrev pub main_name : List ℕ
main_name = codes "g/Main"

-- places 0 to 12
abbrev pub main_own : List Const
main_own =
    Second
    ∷ Utf8 main_name
    ∷ Class 1
    ∷ Utf8 (codes "java/lang/Object")
    ∷ Class 3
    ∷ Utf8 (codes "main")
    ∷ Utf8 (codes "([Ljava/lang/String;)V")
    ∷ Utf8 (codes "Code")
    ∷ Utf8 (codes "<init>")
    ∷ Utf8 (codes "()V")
    ∷ NameAndType 8 9
    ∷ Utf8 (codes "start")
    ∷ NameAndType 11 9
    ∷ []

-- where the constants for the class of this index begin
abbrev pub constants_place : ℕ → ℕ
constants_place index = 13 + 4 * index

-- its name, the class, its <init> and its start
unfoldable pub named : ℕ → List Const
named index =
    Utf8 (thread_name index)
    ∷ Class (constants_place index)
    ∷ Method (constants_place index + 1) 10
    ∷ Method (constants_place index + 1) 12
    ∷ []

-- those of so many classes, the first with this index
unfoldable pub named_from : ℕ → ℕ → List Const
named_from index zero = []
named_from index (suc n) = named index ++ named_from (index + 1) n

-- a thread of the class of this index is made, and begun
unfoldable pub thread_begun : ℕ → List Insn
thread_begun index =
    Pool NEW (constants_place index + 1)
    ∷ Plain DUP
    ∷ Pool INVOKESPECIAL (constants_place index + 2)
    ∷ Pool INVOKEVIRTUAL (constants_place index + 3)
    ∷ []

unfoldable pub begun_from : ℕ → ℕ → List Insn
begun_from index zero = []
begun_from index (suc n) = thread_begun index ++ begun_from (index + 1) n

-- the code of main
abbrev pub main_code : ℕ → List Insn
main_code classes = begun_from 0 classes ++ Plain RETURN ∷ []

abbrev pub main_method : ℕ → Member
main_method classes = method (record { flags = 0x0009; name = 5; code = 7; max_stack = 2 }) (main_code classes)

unfoldable pub main_class : ℕ → ClassFile
main_class classes = class_file (main_own ++ named_from 0 classes) (main_method classes ∷ [])

-- ---- texts

abbrev pub line : List ℕ → List ℕ
line text = text ++ 10 ∷ []

unfoldable pub listing_text : List ℕ
listing_text =
    line (codes "class api/Net extends java/lang/Object")
    ++ line (codes "static api/Net send (I)V")
    ++ line (codes "static api/Net read ()I")

unfoldable pub policy_text : List ℕ
policy_text =
    line (codes "MAXINT 1000000 SCOPE Session SECURITY STATE int n = 0; BEFORE void api.Net.send(int a) PERFORM n <= 999998 && a >= 0 -> { n = n + 1; }")

-- ---- the whole

-- the classes of the threads in their order, and last the main class
abbrev pub files_of : ℕ → ℕ → ℕ → List ClassFile
files_of seed classes sites = classes_from 0 seed sites classes ++ main_class classes ∷ []

abbrev pub generated : ℕ → ℕ → ℕ → Bundle
generated seed classes sites = record { files = files_of seed classes sites; listing = listing_text; policy = policy_text }
