-- What the operand of an instruction names, where it links.
use Rattle.std.proofs.Common.{◌≡◌, ℕ, Bool, true, false, cond, not, ◌&&◌, List, [], Option, Some, None, Ok, refl, sym, ap, ap₂, subst, ◌∙◌}
use Rattle.std.specs.Prelude.{slice_get, ok_or, is_ok}
use Rattle.std.specs.Bool.{beq}
use Rattle.std.specs.Cmp.{booleans_Decides}
use Rattle.std.specs.List.{AllByRecursion}
use Rattle.std.specs.Option.{option_map_or}
use Rattle.mon_base.specs.declared.method.MethodId.{MethodId}
use Rattle.mon_base.specs.Reading.{◌>>=◌}
use Rattle.mon_base.proofs.Reading.{bind_ok, ok_or_ok}
use Rattle.class_codec.specs.declared.pool.ConstKind.TheVariants as kinds
use Rattle.class_codec.specs.declared.tree.ClassFile.{ClassFile}
use Rattle.class_codec.specs.declared.tree.Const.{Const}
use Rattle.class_codec.specs.declared.tree.Const.TheVariants as constants
use Rattle.class_codec.specs.Fits.{FitsPool, IsNamed}
use Rattle.class_codec.specs.Pool.{names, utf8_at, class_name_at, class_name_of, both, name_and_type_at, name_and_type_of, member_id, reference_of, reference_at}
use Rattle.insn_codec.specs.declared.insn.Insn.{Insn}
use Rattle.api_listing.specs.declared.types.ListedClass.{ListedClass}
use Rattle.api_listing.specs.declared.types.Listing.{Listing}
use Rattle.api_listing.specs.Descriptor.{method_type, whole_type}
use Rattle.bytecode_model.specs.declared.members.Found.{Found}
use Rattle.class_linking.specs.declared.operand_fault.OperandFault.TheVariants as operand
use Rattle.bytecode_model.specs.declared.operand.Use.{Use}
use Rattle.bytecode_model.specs.declared.operand.Use.TheVariants as uses
use Rattle.bytecode_model.specs.declared.program.LinkedClass.{LinkedClass}
use Rattle.bytecode_model.specs.declared.program.Program.{Program}
use Rattle.bytecode_model.specs.declared.program.Target.{Target}
use Rattle.bytecode_model.specs.declared.program.Target.TheVariants as target
use Rattle.bytecode_model.specs.Classes.{classes_of}
use Rattle.bytecode_model.specs.Heads.{all_classes, text_at}
use Rattle.bytecode_model.specs.Files.{unlinked}
use Rattle.bytecode_model.specs.Members.{Declared, methods_declared, fields_declared, method_of, field_of, in_class}
use Rattle.bytecode_model.specs.Operands.{use_of, index_of, is_api_field, known_in, id_at, literals_of, place_of}
use Rattle.class_linking.specs.Operands.{is_nothing, operand_linked, used, loaded, typed, field_used, called, call_linked, field_linked, field_fits, class_linked}
use Rattle.bytecode_model.specs.SearchOrder.{field_order, is_one_of, search_order}
use Rattle.bytecode_model.specs.Targets.{constant_of, method_constant, is_type, takes_class, takes_array, TakesClass, LoadsText, IsMethod, Calls, IsField, UsesField, Names}
use Rattle.class_linking.proofs.LinkedBodies.{ok_target, class_known}
use Rattle.class_linking.proofs.Constants.{named_one, text_there, is_pair}
use Rattle.class_linking.proofs.LinkedOperands.{class_there}
use Rattle.class_linking.proofs.LinkedTexts.{literal_there}
use Rattle.bytecode_model.proofs.Lists.{all_get, not_true}
use Rattle.class_linking.proofs.Nearest.{looked_up, near_said}

-- ---- constants

-- what a reference tells, where its indices name something
id_told : (class : Option (List ℕ)) (member : Option (List ℕ × List ℕ)) (text : List ℕ) (pair : List ℕ × List ℕ) → class ≡ Some text → member ≡ Some pair
    → member_id class member ≡ Some (record {
      class = option_map_or (λ (t : List ℕ). t) class [];
      name = option_map_or (λ (m : List ℕ × List ℕ). m.0) member [];
      desc = option_map_or (λ (m : List ℕ × List ℕ). m.1) member [];
    })
id_told None member text pair c m = absurd cc
id_told (Some class) None text pair c m = absurd cc
id_told (Some class) (Some member) text pair c m = refl

module _ (pool : List Const) (fits : FitsPool pool) where
  text_told : (i : ℕ) → names kinds.Utf8 pool i ≡ true → utf8_at pool i ≡ Some (text_at pool i)
  unfolding names utf8_at
  text_told i e =
      let t = text_there (slice_get pool i) e in
      t.1 ∙ ap Some (sym (ap (λ (o : Option (List ℕ)). option_map_or (λ (text : List ℕ). text) o []) t.1))

  class_told : (i name : ℕ) → slice_get pool i ≡ Some (constants.Class name) → class_name_at pool i ≡ Some (text_at pool name)
  unfolding class_name_at
  class_told i name there =
      let named : IsNamed pool (constants.Class name) = all_get (IsNamed pool) pool i (constants.Class name) fits.named there in
      ap (class_name_of pool) there ∙ text_told name named

  pair_told : (i : ℕ) → names kinds.NameAndType pool i ≡ true → (pair : List ℕ × List ℕ) × (name_and_type_at pool i ≡ Some pair)
  unfolding names name_and_type_at
  pair_told i e =
      let one = named_one kinds.NameAndType (slice_get pool i) e in
      let pair = is_pair one.0 one.1.1 in
      let there : slice_get pool i ≡ Some (constants.NameAndType pair.0 pair.1) = one.1.0 ∙ ap Some pair.2 in
      let named : IsNamed pool (constants.NameAndType pair.0 pair.1) = all_get (IsNamed pool) pool i (constants.NameAndType pair.0 pair.1) fits.named there in
      let both_told : both (utf8_at pool pair.0) (utf8_at pool pair.1) ≡ Some (text_at pool pair.0, text_at pool pair.1) = ap₂ both (text_told pair.0 named.0) (text_told pair.1 named.1) in
      ((text_at pool pair.0, text_at pool pair.1), ap (name_and_type_of pool) there ∙ both_told)

  reference_told : (i class member : ℕ) (c : Const) → slice_get pool i ≡ Some c → reference_of pool (Some c) ≡ member_id (class_name_at pool class) (name_and_type_at pool member)
      → names kinds.Class pool class ≡ true → names kinds.NameAndType pool member ≡ true → reference_at pool i ≡ Some (id_at pool class member)
  unfolding reference_at
  reference_told i class member c there is of_class of_pair =
      let text = class_there pool fits class of_class in
      let pair = pair_told member of_pair in
      ap (reference_of pool) there ∙ is ∙ id_told (class_name_at pool class) (name_and_type_at pool member) text.0 pair.0 text.1 pair.1

-- ---- the rows of calls and of fields

module _ (program : Program) (class : LinkedClass) (insn : Insn) where
  call_names : (ref : Target) → Calls program class insn ref → Names program class insn ref
  call_names (target.ApiMethod i) calls = calls
  call_names (target.Builtin i) calls = calls
  call_names (target.Method of index) calls = calls
  call_names ref calls = absurd calls.declared

  field_names : (ref : Target) → UsesField program class insn ref → Names program class insn ref
  field_names (target.ApiField i) field = field
  field_names (target.Field of index) field = field
  field_names ref field = absurd field.declared

-- ---- what instructions name

-- a declared method, and a declared field, of the program
abbrev pub IsMethodDeclared : Program → Declared → Type 0
IsMethodDeclared program d = IsMethod program d.1.target d.0 d.1.is_static

abbrev pub IsFieldDeclared : Program → Declared → Type 0
IsFieldDeclared program d = IsField program d.1.target d.0 d.1.is_static

-- What is known of the program and of the files that it is of.
pub record IsOf (files : List ClassFile) (listing : Listing) (program : Program) : Type 0 where
  pub listing_is : program.listing ≡ listing
  pub back : unlinked program ≡ files
  pub literals : program.literals ≡ literals_of files
  pub classes : classes_of program ≡ all_classes listing files
  pub methods : AllByRecursion (IsMethodDeclared program) (methods_declared files listing)
  pub fields : AllByRecursion (IsFieldDeclared program) (fields_declared files listing)

module _ (files : List ClassFile) (listing : Listing) (program : Program) (known : IsOf files listing program) where
  module _ (class : LinkedClass) (own : ℕ) (there : slice_get files own ≡ Some class.file) (fits : FitsPool class.file.pool) (insn : Insn) (ref : Target) where
    abbrev pool : List Const
    pool = class.file.pool

    abbrev Named : Type 0
    Named = Names program class insn ref

    -- ---- classes and what is loaded

    class_named : (arrays : Bool) (name : ℕ) → takes_class (use_of insn) ≡ true → takes_array (use_of insn) ≡ arrays → constant_of class insn ≡ Some (constants.Class name)
        → class_linked arrays (known_in files listing) (text_at pool name) ≡ Ok ref → Named
    class_named arrays name takes array constant e =
        let k = class_known files listing arrays (text_at pool name) ref e in
        let is : is_type (classes_of program) (takes_array (use_of insn)) (text_at pool name) ≡ true = ap₂ (λ (cs : List ListedClass) (b : Bool). is_type cs b (text_at pool name)) known.classes array ∙ k.1 in
        let row : TakesClass program class insn (text_at pool name) = record { takes = takes; told = class_told pool fits (index_of insn) name constant; known = is } in
        subst (Names program class insn) k.0 row

    text_named : (i : ℕ) → use_of insn ≡ uses.Load → constant_of class insn ≡ Some (constants.Str i) → target.Literal (place_of (literals_of files) (text_at pool i)) ≡ ref → Named
    text_named i loads constant is =
        let named : IsNamed pool (constants.Str i) = all_get (IsNamed pool) pool (index_of insn) (constants.Str i) fits.named constant in
        let told : utf8_at pool i ≡ Some (text_at pool i) = text_told pool fits i named in
        let at = literal_there files own class.file (index_of insn) (constants.Str i) (text_at pool i) there constant told in
        let row : LoadsText program class insn (place_of (literals_of files) (text_at pool i)) = record {
          loads = loads;
          index = i;
          constant = constant;
          text = text_at pool i;
          told = told;
          there = ap (λ (texts : List (List ℕ)). slice_get texts (place_of (literals_of files) (text_at pool i))) known.literals ∙ at;
        } in
        subst (Names program class insn) is row

    loaded_named : (c : Const) → constant_of class insn ≡ Some c → use_of insn ≡ uses.Load → loaded files listing pool c ≡ Ok ref → Named
    loaded_named (constants.Integer n) constant loads e = subst (Names program class insn) (ok_target (target.Number n) ref e) (loads, constant)
    loaded_named (constants.Str i) constant loads e = text_named i loads constant (ok_target _ ref e)
    loaded_named (constants.Class name) constant loads e = class_named false name (ap takes_class loads) (ap takes_array loads) constant e
    loaded_named c constant loads e = absurd cc

    typed_named : (arrays : Bool) (c : Const) → constant_of class insn ≡ Some c → takes_class (use_of insn) ≡ true → takes_array (use_of insn) ≡ arrays → typed files listing arrays pool c ≡ Ok ref → Named
    typed_named arrays (constants.Class name) constant takes array e = class_named arrays name takes array constant e
    typed_named arrays c constant takes array e = absurd cc

    -- ---- calls

    found_is : (found : Found) (static : Bool) → beq found.is_static static ≡ true → found ≡ record { target = found.target; is_static = static }
    found_is found static e =
        let made : Bool → Found = λ b. record { target = found.target; is_static = b } in
        ap made ((booleans_Decides found.is_static static).0 e)

    call_named : (static of_interface : Bool) (owner member : ℕ) (id : MethodId) → use_of insn ≡ uses.Call static of_interface → constant_of class insn ≡ Some (method_constant of_interface owner member) → reference_at pool (index_of insn) ≡ Some id → call_linked files listing static id ≡ Ok ref → Named
    call_named static of_interface owner member id calls constant refers e =
        let look = looked_up (is_ok (method_type id.desc)) (method_of files listing id) (λ found. beq found.is_static static) (operand.Missing id.name) ref e in
        let near = near_said (IsMethodDeclared program) (methods_declared files listing) id look.found (search_order (all_classes listing files) id.class) known.methods look.there in
        let same : look.found.is_static ≡ static = (booleans_Decides look.found.is_static static).0 look.fit in
        let row : Calls program class insn look.found.target = record {
          static = static;
          of_interface = of_interface;
          calls = calls;
          owner = owner;
          member = member;
          constant = constant;
          told = id;
          refers = refers;
          described = look.typed;
          nearest = ap₂ (λ (fs : List ClassFile) (l : Listing). method_of fs l id) known.back known.listing_is ∙ look.there ∙ ap Some (found_is look.found static look.fit);
          declaring = near.declaring;
          above = ap (λ (cs : List ListedClass). is_one_of (search_order cs id.class) near.declaring) known.classes ∙ near.above;
          declared = subst (IsMethod program look.found.target (in_class id near.declaring)) same near.said;
        } in
        call_names program class insn ref (subst (Calls program class insn) look.is row)

    called_named : (static of_interface : Bool) (c : Const) → constant_of class insn ≡ Some c → use_of insn ≡ uses.Call static of_interface → called files listing static of_interface pool c ≡ Ok ref → Named
    called_named static false (constants.Method of member) constant calls e =
        let named : IsNamed pool (constants.Method of member) = all_get (IsNamed pool) pool (index_of insn) (constants.Method of member) fits.named constant in
        call_named static false of member (id_at pool of member) calls constant (reference_told pool fits (index_of insn) of member (constants.Method of member) constant refl named.0 named.1) e
    called_named static true (constants.IMethod of member) constant calls e =
        let named : IsNamed pool (constants.IMethod of member) = all_get (IsNamed pool) pool (index_of insn) (constants.IMethod of member) fits.named constant in
        call_named static true of member (id_at pool of member) calls constant (reference_told pool fits (index_of insn) of member (constants.IMethod of member) constant refl named.0 named.1) e
    called_named static of_interface c constant calls e = absurd cc

    -- ---- fields

    fitting : (static writes : Bool) (found : Found) → field_fits static writes found ≡ true → (beq found.is_static static ≡ true) × ((writes && is_api_field found.target) ≡ false)
    fitting static writes found e = by (beq found.is_static static) e where
      by : (b : Bool) → (b && not (writes && is_api_field found.target)) ≡ true → (b ≡ true) × ((writes && is_api_field found.target) ≡ false)
      by true e = (refl, not_true (writes && is_api_field found.target) e)
      by false e = absurd cc

    field_named : (static writes : Bool) (owner member : ℕ) (id : MethodId) → use_of insn ≡ uses.Field static writes → constant_of class insn ≡ Some (constants.Field owner member) → reference_at pool (index_of insn) ≡ Some id → field_linked files listing static writes id ≡ Ok ref → Named
    field_named static writes owner member id accesses constant refers e =
        let look = looked_up (is_ok (whole_type id.desc)) (field_of files listing id) (field_fits static writes) (operand.Missing id.name) ref e in
        let near = near_said (IsFieldDeclared program) (fields_declared files listing) id look.found (field_order (all_classes listing files) id.class) known.fields look.there in
        let fitted = fitting static writes look.found look.fit in
        let same : look.found.is_static ≡ static = (booleans_Decides look.found.is_static static).0 fitted.0 in
        let row : UsesField program class insn look.found.target = record {
          static = static;
          writes = writes;
          accesses = accesses;
          owner = owner;
          member = member;
          constant = constant;
          told = id;
          refers = refers;
          described = look.typed;
          nearest = ap₂ (λ (fs : List ClassFile) (l : Listing). field_of fs l id) known.back known.listing_is ∙ look.there ∙ ap Some (found_is look.found static fitted.0);
          declaring = near.declaring;
          above = ap (λ (cs : List ListedClass). is_one_of (field_order cs id.class) near.declaring) known.classes ∙ near.above;
          declared = subst (IsField program look.found.target (in_class id near.declaring)) same near.said;
          unwritten = fitted.1;
        } in
        field_names program class insn ref (subst (UsesField program class insn) look.is row)

    field_used_named : (static writes : Bool) (c : Const) → constant_of class insn ≡ Some c → use_of insn ≡ uses.Field static writes → field_used files listing static writes pool c ≡ Ok ref → Named
    field_used_named static writes (constants.Field of member) constant accesses e =
        let named : IsNamed pool (constants.Field of member) = all_get (IsNamed pool) pool (index_of insn) (constants.Field of member) fits.named constant in
        field_named static writes of member (id_at pool of member) accesses constant (reference_told pool fits (index_of insn) of member (constants.Field of member) constant refl named.0 named.1) e
    field_used_named static writes c constant accesses e = absurd cc

    -- ---- an instruction

    used_named : (purpose : Use) (c : Const) → constant_of class insn ≡ Some c → use_of insn ≡ purpose → used files listing pool purpose c ≡ Ok ref → Named
    used_named uses.Nothing c constant is e = subst (Names program class insn) (ok_target target.None ref e) is
    used_named uses.Load c constant is e = loaded_named c constant is e
    used_named (uses.Field static writes) c constant is e = field_used_named static writes c constant is e
    used_named (uses.Call static of_interface) c constant is e = called_named static of_interface c constant is e
    used_named uses.New c constant is e = typed_named false c constant (ap takes_class is) (ap takes_array is) e
    used_named uses.Type c constant is e = typed_named true c constant (ap takes_class is) (ap takes_array is) e

    none_used : (purpose : Use) → is_nothing purpose ≡ true → purpose ≡ uses.Nothing
    none_used uses.Nothing e = refl
    none_used purpose e = absurd cc

    pub operand_named : operand_linked files listing pool insn ≡ Ok ref → Named
    operand_named e = by (is_nothing (use_of insn)) refl e where
      by : (b : Bool) → is_nothing (use_of insn) ≡ b → cond b (Ok target.None) (ok_or (slice_get pool (index_of insn)) operand.Wrong >>= used files listing pool (use_of insn)) ≡ Ok ref → Named
      by true none e = subst (Names program class insn) (ok_target target.None ref e) (none_used (use_of insn) none)
      by false some e =
          let c = bind_ok (ok_or (slice_get pool (index_of insn)) operand.Wrong) (used files listing pool (use_of insn)) ref e in
          let constant : constant_of class insn ≡ Some c.0 = ok_or_ok (slice_get pool (index_of insn)) operand.Wrong c.0 c.1 in
          used_named (use_of insn) c.0 constant refl c.2
