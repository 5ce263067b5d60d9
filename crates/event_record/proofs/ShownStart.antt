-- What a linked program begins with and names can be written, and so can the lines of its runs.
use Rattle.std.proofs.Common.{◌≡◌, ℕ, zero, suc, ◌+◌, ◌<◌, Bool, List, [], ◌∷◌, ◌++◌, length, map, Option, Some, None, Ok, Err, refl, sym, ap, subst, cond, true, false, arith}
use Rattle.std.specs.Prelude.{◌&&◌, bytes_eq, codes, slice_get}
use Rattle.std.specs.List.{AllByRecursion, fold, filter_map, flat_map, cons_option}
use Rattle.std.proofs.lemmas.Bool.{and_parts}
use Rattle.mon_base.proofs.Lists.{position_below}
use Rattle.mon_base.specs.declared.method.MethodId.{MethodId}
use Rattle.class_codec.specs.declared.tree.ClassFile.{ClassFile}
use Rattle.class_codec.specs.declared.tree.Const.{Const}
use Rattle.class_codec.specs.declared.tree.Const.TheVariants as constants
use Rattle.class_codec.specs.declared.tree.Member.{Member}
use Rattle.class_codec.specs.Fits.{IsEncodable, FitsConst, IsTextByte}
use Rattle.class_codec.specs.Pool.{text_of, utf8_at}
use Rattle.insn_codec.specs.declared.insn.Insn.{Insn}
use Rattle.api_listing.specs.declared.descriptor.FieldType.{FieldType}
use Rattle.api_listing.specs.declared.types.ListedClass.{ListedClass}
use Rattle.api_listing.specs.Descriptor.{EncodesType, whole_type}
use Rattle.api_listing.specs.Fault.{Read}
use Rattle.api_listing.specs.Listing.{EncodesListing, is_known}
use Rattle.api_listing.proofs.DescriptorLaws.{method_again, type_answer_found}
use Rattle.bytecode_model.specs.declared.program.LinkedClass.{LinkedClass}
use Rattle.bytecode_model.specs.declared.program.Program.{Program}
use Rattle.bytecode_model.specs.declared.program.Target.TheVariants as target
use Rattle.bytecode_model.specs.Arrays.{is_array}
use Rattle.bytecode_model.specs.Classes.{classes_of}
use Rattle.bytecode_model.specs.Files.{unlinked}
use Rattle.bytecode_model.specs.Heads.{desc_of, head_of, is_static}
use Rattle.bytecode_model.specs.Operands.{place_of, strings_in, text_of_string, use_of}
use Rattle.bytecode_model.specs.SearchOrder.{Name, is_one_of, with_name}
use Rattle.bytecode_model.specs.Sound.{IsSound, IsSoundClass}
use Rattle.bytecode_model.specs.LinkedClasses.{AreLiterals, AreLinkedClasses}
use Rattle.bytecode_model.specs.Targets.{AreNamed, is_type, item_is_known, takes_array}
use Rattle.guest_heap.specs.declared.value.Value.{Value}
use Rattle.guest_heap.specs.declared.value.Value.TheVariants as values
use Rattle.guest_model.specs.Calls.{arity, name_at, types_of, types_read}
use Rattle.guest_model.specs.Enabled.{StepsAreEnabled}
use Rattle.guest_model.specs.Layout.{constant_bytes, first_value, is_of_references, starting_value, two_bytes, value_of_constant, value_told}
use Rattle.guest_model.specs.Places.{class_index}
use Rattle.guest_model.specs.Runs.{initialisers, inner, start_of}
use Rattle.guest_model.specs.ClosedPlaces.{IsAt}
use Rattle.guest_model.specs.Throwing.{bare_object}
use Rattle.guest_model.proofs.Insns.{has_insn}
use Rattle.guest_model.proofs.Options.{and_then_of, some_is, IfThere, if_none, if_some, if_either, if_then, if_mapped, is_there, there_or, all_get, all_append, all_map, all_mapped}
use Rattle.event_record.specs.declared.writing.Line.{Line}
use Rattle.event_record.specs.RunLines.{AreLinesOf, BringsBytes}
use Rattle.event_record.proofs.ClassNames.{ClassesNamed, class_named, known_named, listed_classes, listed_fields, strings_named, type_named}
use Rattle.event_record.proofs.ListingWords.{method_types}
use Rattle.event_record.proofs.Shown.{AreShown, FewArguments, IsShown, LiteralsAreBytes, ObjectNamed, ObjectShown, rests_shown}
use Rattle.event_record.proofs.ShownRuns.{IsNamedProgram, MachineShown, NamesNamed, NamesShown, first_shown, lines_written}
use Rattle.event_record.proofs.Unbroken.{each}
use Rattle.event_record.proofs.WrittenLines.{IsLineWritten, IsNamed}

-- ---- texts

abbrev IsBytes : List ℕ → Type 0
IsBytes text = AllByRecursion (λ (b : ℕ). b < 256) text

text_bytes : (pool : List Const) (o : Option Const) (text : List ℕ) → ((c : Const) → o ≡ Some c → FitsConst c) → text_of o ≡ Some text → IsBytes text
text_bytes pool None text fits e = absurd cc
text_bytes pool (Some (constants.Utf8 t)) text fits e = subst IsBytes (some_is t text e) (each IsTextByte (λ (b : ℕ). b < 256) (λ b is. omega (arith, is.1)) t (fits (constants.Utf8 t) refl).1)
text_bytes pool (Some (constants.Integer n)) text fits e = absurd cc
text_bytes pool (Some (constants.Float bits)) text fits e = absurd cc
text_bytes pool (Some (constants.Long n)) text fits e = absurd cc
text_bytes pool (Some (constants.Double bits)) text fits e = absurd cc
text_bytes pool (Some (constants.Class name)) text fits e = absurd cc
text_bytes pool (Some (constants.Str t)) text fits e = absurd cc
text_bytes pool (Some (constants.Field class name)) text fits e = absurd cc
text_bytes pool (Some (constants.Method class name)) text fits e = absurd cc
text_bytes pool (Some (constants.IMethod class name)) text fits e = absurd cc
text_bytes pool (Some (constants.NameAndType name desc)) text fits e = absurd cc
text_bytes pool (Some constants.Second) text fits e = absurd cc

utf8_bytes : (pool : List Const) (index : ℕ) → AllByRecursion FitsConst pool → IfThere IsBytes (utf8_at pool index)
unfolding IfThere utf8_at
utf8_bytes pool index each text e = text_bytes pool (slice_get pool index) text (λ c there. all_get FitsConst pool index c each there) e

string_bytes : (pool : List Const) → AllByRecursion FitsConst pool → (c : Const) → IfThere IsBytes (text_of_string pool c)
string_bytes pool each (constants.Str text) = utf8_bytes pool text each
string_bytes pool each (constants.Utf8 t) = if_none IsBytes
string_bytes pool each (constants.Integer n) = if_none IsBytes
string_bytes pool each (constants.Float bits) = if_none IsBytes
string_bytes pool each (constants.Long n) = if_none IsBytes
string_bytes pool each (constants.Double bits) = if_none IsBytes
string_bytes pool each (constants.Class name) = if_none IsBytes
string_bytes pool each (constants.Field class name) = if_none IsBytes
string_bytes pool each (constants.Method class name) = if_none IsBytes
string_bytes pool each (constants.IMethod class name) = if_none IsBytes
string_bytes pool each (constants.NameAndType name desc) = if_none IsBytes
string_bytes pool each constants.Second = if_none IsBytes

abbrev AreBytes : List (List ℕ) → Type 0
AreBytes texts = AllByRecursion IsBytes texts

one_more : (o : Option (List ℕ)) (texts : List (List ℕ)) → IfThere IsBytes o → AreBytes texts → AreBytes (cons_option o texts)
one_more None texts h all = all
one_more (Some text) texts h all = (is_there IsBytes (Some text) text h refl, all)

strings_bytes : (pool items : List Const) → AllByRecursion FitsConst pool → AreBytes (filter_map (text_of_string pool) items)
strings_bytes pool [] each = tt
strings_bytes pool (c ∷ others) each =
    one_more (text_of_string pool c) (filter_map (text_of_string pool) others) (string_bytes pool each c) (strings_bytes pool others each)

all_strings : (files : List ClassFile) → AllByRecursion IsEncodable files → AreBytes (flat_map strings_in files)
all_strings [] all = tt
all_strings (file ∷ files) all =
    all_append IsBytes (strings_in file) (flat_map strings_in files) (strings_bytes file.pool file.pool all.0.pool.each)
    (all_strings files all.1)

named_or : (b : Bool) (names : List (List ℕ)) (name : List ℕ) → AreBytes names → IsBytes name → AreBytes (cond b names (names ++ name ∷ []))
named_or true names name all h = all
named_or false names name all h = all_append IsBytes names (name ∷ []) all (h, tt)

each_once : (texts names : List (List ℕ)) → AreBytes names → AreBytes texts → AreBytes (fold with_name names texts)
each_once [] names have all = have
each_once (text ∷ texts) names have all =
    each_once texts (with_name names text) (named_or (is_one_of names text) names text have all.0) all.1

all_encode : (classes : List LinkedClass) → AllByRecursion IsSoundClass classes
    → AllByRecursion IsEncodable (map (λ (c : LinkedClass). c.file) classes)
all_encode classes all = all_mapped IsSoundClass IsEncodable (λ (c : LinkedClass). c.file) classes (λ c sound. sound.fits) all

-- ---- classes

name_at_named : (classes : List ListedClass) → ClassesNamed classes → (index : ℕ) → index < length classes → IsNamed (name_at classes index)
name_at_named [] all index less = let no : ⊥ = omega (arith, less) in absurd no
name_at_named (c ∷ classes) all zero less = all.0
name_at_named (c ∷ classes) all (suc index) less = name_at_named classes all.1 index (omega (arith, less))

-- the items of an array that is known
read_named : (known : List ListedClass) (text : List ℕ) (read : Read FieldType) → whole_type text ≡ read → item_is_known known read ≡ true → IsNamed text
read_named known text (Ok t) is e =
    let encodes : EncodesType text t = type_answer_found text (Ok t) is in
    subst IsNamed (sym encodes.encoded) (type_named t encodes.named)
read_named known text (Err fault) is e = absurd cc

type_text_named : (classes : List ListedClass) → ClassesNamed classes → (arrays : Bool) (text : List ℕ) → is_type classes arrays text ≡ true → IsNamed text
type_text_named classes all arrays text e = by (is_array text) refl where
  by : (b : Bool) → is_array text ≡ b → IsNamed text
  by true is =
      let known : (arrays && item_is_known classes (whole_type text)) ≡ true = rw is at e in
      read_named classes text (whole_type text) refl (and_parts arrays (item_is_known classes (whole_type text)) known).1
  by false is = let known : is_known classes text ≡ true = rw is at e in known_named classes all text known

heads_named : (classes : List LinkedClass) → AllByRecursion IsSoundClass classes
    → ((own : ℕ) (class : LinkedClass) → slice_get classes own ≡ Some class → IsNamed class.name)
    → ClassesNamed (map (λ (c : LinkedClass). head_of c.file) classes)
heads_named [] sound named = tt
heads_named (c ∷ classes) sound named =
    (subst IsNamed sound.0.name (named 0 c refl), heads_named classes sound.1 (λ own class there. named (suc own) class there))

module _ (program : Program) (text : List ℕ) (encodes : EncodesListing text program.listing) (sound : IsSound program) (standing : AreLinkedClasses program)
    (named : AreNamed program) (literals : AreLiterals program) where
  literals_bytes : AreBytes program.literals
  literals_bytes =
      subst AreBytes (sym literals.are)
      (each_once (flat_map strings_in (unlinked program)) [] tt (all_strings (unlinked program) (all_encode program.classes sound.classes)))

  each_bytes : LiteralsAreBytes program
  each_bytes index =
      there_or IsBytes (λ (text : List ℕ). text) (slice_get program.literals index) [] tt
      (λ text e. all_get IsBytes program.literals index text literals_bytes e)

  all_classes : ClassesNamed (classes_of program)
  all_classes =
      all_append (λ (c : ListedClass). IsNamed c.name) program.listing.classes (map (λ (c : LinkedClass). head_of c.file) program.classes)
      (listed_classes text program.listing encodes)
      (heads_named program.classes sound.classes (λ own class there. class_named class.name (standing own class there).named))

  few_arguments : FewArguments program
  few_arguments index m there =
      let t = method_types text program.listing encodes index m there in
      let read : types_of m.id.desc ≡ t.0 = ap types_read (method_again m.id.desc t.0 t.1) in
      let count : arity m.id.desc ≡ length t.0.arguments = ap (λ (types : _). length types.arguments) read in
      let most = t.1.places in
      omega (arith, count, most)

  -- ---- what is named

  class_is_named : (class method at : ℕ) (insn : Insn) (name : Name) → IsAt program class method at insn (target.ClassName name) → IsNamed name
  class_is_named class method at insn name there =
      let c = and_then_of (λ (c : LinkedClass). slice_get c.methods method) (slice_get program.classes class) there.of there.there in
      let i = has_insn there.of at insn (target.ClassName name) there.is in
      let takes = named class method at c.0 there.of insn (target.ClassName name) c.1 c.2 i.insn_there i.ref_there in
      type_text_named (classes_of program) all_classes (takes_array (use_of insn)) name takes.known

  names_named : NamesNamed program
  names_named class method at insn (target.ClassName name) there other e =
      subst IsNamed (some_is name other e) (class_is_named class method at insn name there)
  names_named class method at insn target.None there other e = absurd cc
  names_named class method at insn (target.ApiMethod index) there other e = absurd cc
  names_named class method at insn (target.Builtin index) there other e = absurd cc
  names_named class method at insn (target.Method of index) there other e = absurd cc
  names_named class method at insn (target.Field of index) there other e = absurd cc
  names_named class method at insn (target.ApiField index) there other e = absurd cc
  names_named class method at insn (target.Number n) there other e = absurd cc
  names_named class method at insn (target.Literal index) there other e = absurd cc

  names_shown : NamesShown program
  names_shown class method at insn (target.Number n) there = if_some (IsShown program) (values.Int n) tt
  names_shown class method at insn (target.Literal index) there = if_some (IsShown program) (values.Lit index) tt
  names_shown class method at insn (target.ClassName name) there =
      if_mapped (IsShown program) values.Class (class_index program name)
      (λ index e. let less : index < 0 + length (classes_of program) = position_below _ 0 (classes_of program) index e in
      name_at_named (classes_of program) all_classes index (omega (arith, less)))
  names_shown class method at insn target.None there = if_none (IsShown program)
  names_shown class method at insn (target.ApiMethod index) there = if_none (IsShown program)
  names_shown class method at insn (target.Builtin index) there = if_none (IsShown program)
  names_shown class method at insn (target.Method of index) there = if_none (IsShown program)
  names_shown class method at insn (target.Field of index) there = if_none (IsShown program)
  names_shown class method at insn (target.ApiField index) there = if_none (IsShown program)

  known : IsNamedProgram program
  known = record {
    shown = names_shown;
    named = names_named;
    literals = each_bytes;
    few = few_arguments;
    classes = listed_classes text program.listing encodes;
  }

  -- ---- what the static fields begin with

  constant_word : (pool : List Const) (desc : List ℕ) (c : Const) → FitsConst c → IfThere (IsShown program) (value_of_constant program pool desc c)
  constant_word pool desc (constants.Integer n) h =
      if_either (IsShown program) (is_of_references desc) _ _ (if_none (IsShown program)) (if_some (IsShown program) (values.Int n) tt)
  constant_word pool desc (constants.Str text) h =
      if_either (IsShown program) (bytes_eq desc (codes "Ljava/lang/String;")) _ _
      (if_mapped (IsShown program) (λ (t : List ℕ). values.Lit (place_of program.literals t)) (utf8_at pool text) (λ t e. tt)) (if_none (IsShown program))
  constant_word pool desc (constants.Utf8 t) h = if_none (IsShown program)
  constant_word pool desc (constants.Float bits) h = if_none (IsShown program)
  constant_word pool desc (constants.Long n) h = if_none (IsShown program)
  constant_word pool desc (constants.Double bits) h = if_none (IsShown program)
  constant_word pool desc (constants.Class name) h = if_none (IsShown program)
  constant_word pool desc (constants.Field class name) h = if_none (IsShown program)
  constant_word pool desc (constants.Method class name) h = if_none (IsShown program)
  constant_word pool desc (constants.IMethod class name) h = if_none (IsShown program)
  constant_word pool desc (constants.NameAndType name desc_at) h = if_none (IsShown program)
  constant_word pool desc constants.Second h = if_none (IsShown program)

  told_word : (file : ClassFile) → AllByRecursion FitsConst file.pool → (member : Member) → IfThere (IsShown program) (value_told program file member)
  told_word file each member =
      if_then (IsShown program) _ (slice_get (filter_map (constant_bytes file.pool) member.attrs) 0)
      (λ bytes e. if_then (IsShown program) _ (two_bytes bytes)
      (λ index f. if_then (IsShown program) _ (slice_get file.pool index)
      (λ c g. constant_word file.pool (desc_of file.pool member) c (all_get FitsConst file.pool index c each g))))

  starting_word : (file : ClassFile) → AllByRecursion FitsConst file.pool → (member : Member) → IsShown program (starting_value program file member)
  starting_word file each member =
      let told : Option Value = cond (is_static member.flags) (value_told program file member) None in
      there_or (IsShown program) (λ (v : Value). v) told (first_value (desc_of file.pool member)) (first_shown program (desc_of file.pool member))
      (λ v e. is_there (IsShown program) told v
      (if_either (IsShown program) (is_static member.flags) (value_told program file member) None (told_word file each member) (if_none (IsShown program))) e)

  class_shown : (c : LinkedClass) → IsSoundClass c → AreShown program (map (starting_value program c.file) c.file.fields)
  class_shown c h = all_map (IsShown program) (starting_value program c.file) c.file.fields (starting_word c.file h.fits.pool.each)

  -- ---- the law

  starts_shown : MachineShown program known (start_of program)
  starts_shown = record {
    world = record {
      heap = all_append (ObjectShown program) _ _ (all_map (ObjectShown program) _ program.listing.fields (λ f. (tt, tt))) (tt, tt);
      named =
          all_append ObjectNamed _ _
          (all_mapped (λ (f : MethodId). IsNamed (inner f.desc)) ObjectNamed (λ (f : MethodId). bare_object (inner f.desc)) program.listing.fields
          (λ f is. is) (listed_fields text program.listing encodes)) (strings_named, tt);
      statics =
          all_mapped IsSoundClass (AreShown program) (λ (c : LinkedClass). map (starting_value program c.file) c.file.fields) program.classes
          class_shown sound.classes;
    };
    threads = (rests_shown program (initialisers program ++ (program.main_class, program.main_method) ∷ []), tt);
  }

  pub run_written : StepsAreEnabled → (lines : List Line) → AreLinesOf program lines → AllByRecursion (λ (line : Line). BringsBytes line.step.choice) lines
      → AllByRecursion IsLineWritten lines
  run_written enabled lines are brings = lines_written program known enabled lines (start_of program) starts_shown are brings
