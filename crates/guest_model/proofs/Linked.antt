-- The numbers that a linked program begins with and names are of 32 bits, and its texts are short.
use Rattle.std.proofs.Common.{◌≡◌, ℕ, ℤ, Bool, List, [], ◌∷◌, ◌++◌, map, Option, Some, None, refl, sym, subst, cond, true, false, arith}
use Rattle.std.specs.Prelude.{bytes_eq, codes, slice_get, FitsSigned}
use Rattle.std.specs.Int.{w32}
use Rattle.std.specs.List.{AllByRecursion, fold, filter_map, flat_map, cons_option}
use Rattle.class_codec.specs.declared.tree.ClassFile.{ClassFile}
use Rattle.class_codec.specs.declared.tree.Const.{Const}
use Rattle.class_codec.specs.declared.tree.Const.TheVariants as constants
use Rattle.class_codec.specs.declared.tree.Member.{Member}
use Rattle.class_codec.specs.Fits.{IsEncodable, FitsConst}
use Rattle.class_codec.specs.Pool.{text_of, utf8_at}
use Rattle.insn_codec.specs.declared.insn.Insn.{Insn}
use Rattle.bytecode_model.specs.declared.program.LinkedClass.{LinkedClass}
use Rattle.bytecode_model.specs.declared.program.Program.{Program}
use Rattle.bytecode_model.specs.declared.program.Target.TheVariants as target
use Rattle.bytecode_model.specs.Files.{unlinked}
use Rattle.bytecode_model.specs.Heads.{desc_of, is_static}
use Rattle.bytecode_model.specs.Operands.{index_of, place_of, strings_in, text_of_string}
use Rattle.bytecode_model.specs.SearchOrder.{is_one_of, with_name}
use Rattle.bytecode_model.specs.Sound.{IsSound, IsSoundClass}
use Rattle.bytecode_model.specs.LinkedClasses.{AreLiterals}
use Rattle.bytecode_model.specs.Targets.{AreNamed}
use Rattle.guest_heap.specs.declared.value.Value.{Value}
use Rattle.guest_heap.specs.declared.value.Value.TheVariants as values
use Rattle.guest_model.specs.Places.{class_index}
use Rattle.guest_model.specs.ClosedPlaces.{IsAt}
use Rattle.guest_model.proofs.Insns.{has_insn, has_insns}
use Rattle.guest_model.proofs.Options.{
  and_then_of,
  some_is,
  IfThere,
  if_none,
  if_some,
  if_either,
  if_then,
  if_mapped,
  is_there,
  there_or,
  all_get,
  all_append,
  all_map,
  all_mapped,
}
use Rattle.guest_model.specs.Layout.{constant_bytes, first_value, is_of_references, starting_value, two_bytes, value_of_constant, value_told}
use Rattle.guest_model.specs.Numbers.{KeepsWords, SeesInRange}
use Rattle.guest_model.specs.Runs.{initialisers, start_of}
use Rattle.guest_model.proofs.InRange.{AllInRange, NamesWords, keeps_words, sees_in_range}
use Rattle.guest_model.proofs.KeptWords.{first_word, small}
use Rattle.guest_model.proofs.Passing.{LiteralsAreShort}
use Rattle.guest_model.proofs.Words.{AreWords, IsShort, IsWord, ObjectWords, rests_words}

-- ---- texts

text_short : (pool : List Const) (o : Option Const) (text : List ℕ) → ((c : Const) → o ≡ Some c → FitsConst c) → text_of o ≡ Some text → IsShort text
text_short pool None text fits e = absurd cc
text_short pool (Some (constants.Utf8 t)) text fits e = subst IsShort (some_is t text e) (fits (constants.Utf8 t) refl).0
text_short pool (Some (constants.Integer n)) text fits e = absurd cc
text_short pool (Some (constants.Float bits)) text fits e = absurd cc
text_short pool (Some (constants.Long n)) text fits e = absurd cc
text_short pool (Some (constants.Double bits)) text fits e = absurd cc
text_short pool (Some (constants.Class name)) text fits e = absurd cc
text_short pool (Some (constants.Str t)) text fits e = absurd cc
text_short pool (Some (constants.Field class name)) text fits e = absurd cc
text_short pool (Some (constants.Method class name)) text fits e = absurd cc
text_short pool (Some (constants.IMethod class name)) text fits e = absurd cc
text_short pool (Some (constants.NameAndType name desc)) text fits e = absurd cc
text_short pool (Some constants.Second) text fits e = absurd cc

utf8_short : (pool : List Const) (index : ℕ) → AllByRecursion FitsConst pool → IfThere IsShort (utf8_at pool index)
unfolding IfThere utf8_at
utf8_short pool index each text e = text_short pool (slice_get pool index) text (λ c there. all_get FitsConst pool index c each there) e

string_short : (pool : List Const) → AllByRecursion FitsConst pool → (c : Const) → IfThere IsShort (text_of_string pool c)
string_short pool each (constants.Str text) = utf8_short pool text each
string_short pool each (constants.Utf8 t) = if_none IsShort
string_short pool each (constants.Integer n) = if_none IsShort
string_short pool each (constants.Float bits) = if_none IsShort
string_short pool each (constants.Long n) = if_none IsShort
string_short pool each (constants.Double bits) = if_none IsShort
string_short pool each (constants.Class name) = if_none IsShort
string_short pool each (constants.Field class name) = if_none IsShort
string_short pool each (constants.Method class name) = if_none IsShort
string_short pool each (constants.IMethod class name) = if_none IsShort
string_short pool each (constants.NameAndType name desc) = if_none IsShort
string_short pool each constants.Second = if_none IsShort

abbrev AreShort : List (List ℕ) → Type 0
AreShort texts = AllByRecursion IsShort texts

one_more : (o : Option (List ℕ)) (texts : List (List ℕ)) → IfThere IsShort o → AreShort texts → AreShort (cons_option o texts)
one_more None texts h all = all
one_more (Some text) texts h all = (is_there IsShort (Some text) text h refl, all)

strings_short : (pool items : List Const) → AllByRecursion FitsConst pool → AreShort (filter_map (text_of_string pool) items)
strings_short pool [] each = tt
strings_short pool (c ∷ others) each =
    one_more (text_of_string pool c) (filter_map (text_of_string pool) others) (string_short pool each c) (strings_short pool others each)

all_strings : (files : List ClassFile) → AllByRecursion IsEncodable files → AreShort (flat_map strings_in files)
all_strings [] all = tt
all_strings (file ∷ files) all =
    all_append IsShort (strings_in file) (flat_map strings_in files) (strings_short file.pool file.pool all.0.pool.each)
    (all_strings files all.1)

named_or : (b : Bool) (names : List (List ℕ)) (name : List ℕ) → AreShort names → IsShort name → AreShort (cond b names (names ++ name ∷ []))
named_or true names name all h = all
named_or false names name all h = all_append IsShort names (name ∷ []) all (h, tt)

each_once : (texts names : List (List ℕ)) → AreShort names → AreShort texts → AreShort (fold with_name names texts)
each_once [] names have all = have
each_once (text ∷ texts) names have all =
    each_once texts (with_name names text) (named_or (is_one_of names text) names text have all.0) all.1

all_encode : (classes : List LinkedClass) → AllByRecursion IsSoundClass classes
    → AllByRecursion IsEncodable (map (λ (c : LinkedClass). c.file) classes)
all_encode classes all = all_mapped IsSoundClass IsEncodable (λ (c : LinkedClass). c.file) classes (λ c sound. sound.fits) all

module _ (program : Program) (sound : IsSound program) (named : AreNamed program) (literals : AreLiterals program) where
  literals_short : AreShort program.literals
  literals_short =
      subst AreShort (sym literals.are)
      (each_once (flat_map strings_in (unlinked program)) [] tt (all_strings (unlinked program) (all_encode program.classes sound.classes)))

  each_short : LiteralsAreShort program
  each_short index =
      there_or IsShort (λ (text : List ℕ). text) (slice_get program.literals index) [] (omega arith)
      (λ text e. all_get IsShort program.literals index text literals_short e)

  -- ---- numbers that are named

  number_named : (class method at : ℕ) (insn : Insn) (n : ℤ) → IsAt program class method at insn (target.Number n) → FitsSigned w32 n
  number_named class method at insn n there =
      let c = and_then_of (λ (c : LinkedClass). slice_get c.methods method) (slice_get program.classes class) there.of there.there in
      let i = has_insn there.of at insn (target.Number n) there.is in
      let loads = named class method at c.0 there.of insn (target.Number n) c.1 c.2 i.insn_there i.ref_there in
      all_get FitsConst c.0.file.pool (index_of insn) (constants.Integer n)
      (all_get IsSoundClass program.classes class c.0 sound.classes c.1).fits.pool.each loads.1

  names_words : NamesWords program
  names_words class method at insn (target.Number n) there = if_some IsWord (values.Int n) (number_named class method at insn n there)
  names_words class method at insn (target.Literal index) there = if_some IsWord (values.Lit index) tt
  names_words class method at insn (target.ClassName name) there = if_mapped IsWord values.Class (class_index program name) (λ index e. tt)
  names_words class method at insn target.None there = if_none IsWord
  names_words class method at insn (target.ApiMethod index) there = if_none IsWord
  names_words class method at insn (target.Builtin index) there = if_none IsWord
  names_words class method at insn (target.Method of index) there = if_none IsWord
  names_words class method at insn (target.Field of index) there = if_none IsWord
  names_words class method at insn (target.ApiField index) there = if_none IsWord

  -- ---- what the static fields begin with

  constant_word : (pool : List Const) (desc : List ℕ) (c : Const) → FitsConst c → IfThere IsWord (value_of_constant program pool desc c)
  constant_word pool desc (constants.Integer n) h =
      if_either IsWord (is_of_references desc) _ _ (if_none IsWord) (if_some IsWord (values.Int n) h)
  constant_word pool desc (constants.Str text) h =
      if_either IsWord (bytes_eq desc (codes "Ljava/lang/String;")) _ _
      (if_mapped IsWord (λ (t : List ℕ). values.Lit (place_of program.literals t)) (utf8_at pool text) (λ t e. tt)) (if_none IsWord)
  constant_word pool desc (constants.Utf8 t) h = if_none IsWord
  constant_word pool desc (constants.Float bits) h = if_none IsWord
  constant_word pool desc (constants.Long n) h = if_none IsWord
  constant_word pool desc (constants.Double bits) h = if_none IsWord
  constant_word pool desc (constants.Class name) h = if_none IsWord
  constant_word pool desc (constants.Field class name) h = if_none IsWord
  constant_word pool desc (constants.Method class name) h = if_none IsWord
  constant_word pool desc (constants.IMethod class name) h = if_none IsWord
  constant_word pool desc (constants.NameAndType name desc_at) h = if_none IsWord
  constant_word pool desc constants.Second h = if_none IsWord

  told_word : (file : ClassFile) → AllByRecursion FitsConst file.pool → (member : Member) → IfThere IsWord (value_told program file member)
  told_word file each member =
      if_then IsWord _ (slice_get (filter_map (constant_bytes file.pool) member.attrs) 0)
      (λ bytes e. if_then IsWord _ (two_bytes bytes)
      (λ index f. if_then IsWord _ (slice_get file.pool index)
      (λ c g. constant_word file.pool (desc_of file.pool member) c (all_get FitsConst file.pool index c each g))))

  starting_word : (file : ClassFile) → AllByRecursion FitsConst file.pool → (member : Member) → IsWord (starting_value program file member)
  starting_word file each member =
      let told : Option Value = cond (is_static member.flags) (value_told program file member) None in
      there_or IsWord (λ (v : Value). v) told (first_value (desc_of file.pool member)) (first_word (desc_of file.pool member))
      (λ v e. is_there IsWord told v
      (if_either IsWord (is_static member.flags) (value_told program file member) None (told_word file each member) (if_none IsWord)) e)

  class_words : (c : LinkedClass) → IsSoundClass c → AreWords (map (starting_value program c.file) c.file.fields)
  class_words c h = all_map IsWord (starting_value program c.file) c.file.fields (starting_word c.file h.fits.pool.each)

  -- ---- the law

  starts_in_range : AllInRange program (has_insns program sound) names_words each_short (start_of program) []
  starts_in_range = record {
    world = record {
      heap = all_append ObjectWords _ _ (all_map ObjectWords _ program.listing.fields (λ f. (tt, tt))) ((tt, small 0 (omega arith)), tt);
      statics =
          all_mapped IsSoundClass AreWords (λ (c : LinkedClass). map (starting_value program c.file) c.file.fields) program.classes
          class_words sound.classes;
    };
    threads = (rests_words program (initialisers program ++ (program.main_class, program.main_method) ∷ []), tt);
    seen = tt;
  }

  pub linked_sees_in_range : SeesInRange program
  linked_sees_in_range = sees_in_range program (has_insns program sound) names_words each_short starts_in_range

  pub linked_keeps_words : KeepsWords program
  linked_keeps_words = keeps_words program (has_insns program sound) names_words each_short starts_in_range
