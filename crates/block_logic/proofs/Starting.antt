-- At the start nobody holds the lock, no value is it, and the policy's variables have their first values.
use Rattle.std.proofs.Common.{◌≡◌, ℕ, zero, suc, ◌+◌, ◌*◌, ℤ, Bool, true, false, List, [], ◌∷◌, ◌++◌, length, map, Option, Some, None, refl, sym, ap, subst, ◌∙◌, arith, inl, inr}
use Rattle.std.specs.Prelude.{◌==◌, ◌&&◌, bytes_eq, codes, if◌then◌else◌, option_and_then, option_map, slice_get, slice_index}
use Rattle.std.specs.List.{AllByRecursion, filter_map}
use Rattle.std.specs.Option.{option_map_or, option_or}
use Rattle.std.proofs.lemmas.Bool.{and_parts, cases_Bool, eqb-true}
use Rattle.std.proofs.lemmas.Bool.Decides.{Decides-int_eq}
use Rattle.std.proofs.lemmas.Option.{slice_get-map}
use Rattle.std.proofs.lemmas.Slice.Eq.{bytes_eq-Decides}
use Rattle.class_codec.specs.declared.tree.Attr.{Attr}
use Rattle.class_codec.specs.declared.tree.Attr.TheVariants as attributes
use Rattle.class_codec.specs.declared.tree.ClassFile.{ClassFile}
use Rattle.class_codec.specs.declared.tree.Const.{Const}
use Rattle.class_codec.specs.declared.tree.Const.TheVariants as constants
use Rattle.class_codec.specs.declared.tree.Member.{Member}
use Rattle.class_codec.specs.Pool.{utf8_at}
use Rattle.bytecode_model.specs.declared.program.LinkedClass.{LinkedClass}
use Rattle.bytecode_model.specs.declared.program.Program.{Program}
use Rattle.bytecode_model.specs.Heads.{desc_of, is_static, name_of, text_at}
use Rattle.bytecode_model.specs.Operands.{place_of}
use Rattle.block_logic.specs.Annotations.{Annotations}
use Rattle.conspec_tree.specs.declared.types.Var.{Var}
use Rattle.conspec_automaton.specs.declared.policy.Policy.{Policy}
use Rattle.conspec_automaton.specs.Next.{initial}
use Rattle.conspec_automaton.proofs.Ranges.{firsts_in_range}
use Rattle.guest_heap.specs.declared.thread.Thread.{Thread}
use Rattle.guest_heap.specs.declared.value.Value.{Value}
use Rattle.guest_heap.specs.declared.value.Value.TheVariants as values
use Rattle.guest_model.specs.Changes.{rests}
use Rattle.guest_model.specs.Finding.{Given}
use Rattle.guest_model.specs.Layout.{constant_bytes, first_value, is_of_references, starting_value, statics_of, two_bytes, value_of_constant, value_told}
use Rattle.guest_model.specs.Runs.{first_heap, initialisers}
use Rattle.guest_model.proofs.Options.{IfThere, all_append, all_map, if_either, if_mapped, if_none, if_some, if_then, is_there, map_of, some_is, there_or}
use Rattle.block_logic.specs.Agreement.{Clear}
use Rattle.block_logic.specs.Fitting.{AreOthers, IsClient, IsCleanObject, state_of}
use Rattle.block_logic.specs.Meaning.{AreClean, IsClean}
use Rattle.block_logic.specs.Obeying.{IsObeying}
use Rattle.block_logic.specs.State.{class_fault, field_name, field_type, has_no_more, has_none, is_field_of, is_first, names_first, state_at, tells_first, wrong_field}
use Rattle.block_logic.proofs.Steps.{StartsWell}

-- ---- no value is the lock

module _ (program : Program) where
  abbrev CleanIf : Option Value → Type 0
  CleanIf value = IfThere (IsClean program) value

  -- what a constant tells is a number or a text
  constant_clean : (pool : List Const) (desc : List ℕ) (constant : Const) → CleanIf (value_of_constant program pool desc constant)
  constant_clean pool desc (constants.Integer n) = if_either (IsClean program) (is_of_references desc) None (Some (values.Int n)) (if_none (IsClean program)) (if_some (IsClean program) (values.Int n) refl)
  constant_clean pool desc (constants.Str text) =
      if_either (IsClean program) (bytes_eq desc (codes "Ljava/lang/String;")) (option_map (λ (t : List ℕ). values.Lit (place_of program.literals t)) (utf8_at pool text)) None
      (if_mapped (IsClean program) (λ (t : List ℕ). values.Lit (place_of program.literals t)) (utf8_at pool text) (λ t e. refl)) (if_none (IsClean program))
  constant_clean pool desc other = if_none (IsClean program)

  told_clean : (file : ClassFile) (member : Member) → CleanIf (value_told program file member)
  told_clean file member =
      if_then (IsClean program) _ (slice_get (filter_map (constant_bytes file.pool) member.attrs) 0) (λ bytes b.
      if_then (IsClean program) _ (two_bytes bytes) (λ index i.
      if_then (IsClean program) _ (slice_get file.pool index) (λ constant c. constant_clean file.pool (desc_of file.pool member) constant)))

  first_clean : (desc : List ℕ) → IsClean program (first_value desc)
  first_clean desc =
      elim (cases_Bool (is_of_references desc)) [
        | inl holds ↦ rw holds refl
        | inr fails ↦ rw fails refl
      ]

  starting_clean : (file : ClassFile) (member : Member) → IsClean program (starting_value program file member)
  starting_clean file member =
      let told : Option Value = if is_static member.flags then value_told program file member else None in
      let clean : CleanIf told = if_either (IsClean program) (is_static member.flags) (value_told program file member) None (told_clean file member) (if_none (IsClean program)) in
      there_or (IsClean program) (λ (v : Value). v) told (first_value (desc_of file.pool member)) (first_clean (desc_of file.pool member))
      (λ v e. is_there (IsClean program) told v clean e)

  statics_clean : (class : ℕ) (fields : List Value) → slice_get (statics_of program) class ≡ Some fields → AreClean program fields
  statics_clean class fields e =
      let held : LinkedClass → List Value = λ (c : LinkedClass). map (starting_value program c.file) c.file.fields in
      let c = map_of held (slice_get program.classes class) fields (sym (slice_get-map held program.classes class) ∙ e) in
      subst (AreClean program) c.2 (all_map (IsClean program) (starting_value program c.0.file) c.0.file.fields (starting_clean c.0.file))

  heap_clean : AllByRecursion (IsCleanObject program) (first_heap program)
  heap_clean = all_append (IsCleanObject program) _ (_ ∷ []) (all_map (IsCleanObject program) _ program.listing.fields (λ f. (tt, refl))) (tt, tt)

-- ---- the policy's variables

-- a value that was made in two steps, where the other is none
there_or_none : {A B : Type 0} (f : A → Option B) (o : Option A) (d : B) → option_map_or f o (Some d) ≡ None → (x : A) × (o ≡ Some x) × (f x ≡ None)
there_or_none f None d e = absurd cc
there_or_none f (Some x) d e = (x, refl, e)

no_other : {A : Type 0} (first other : Option A) → option_or first other ≡ None → (first ≡ None) × (other ≡ None)
no_other None other e = (refl, e)
no_other (Some x) other e = absurd cc

passes_if : {A : Type 0} (b : Bool) (d : A) → (if b then None else Some d) ≡ None → b ≡ true
passes_if true d e = refl
passes_if false d e = absurd cc

if_wrong : {A : Type 0} (b : Bool) (later : Option A) (d : A) → (if b then later else Some d) ≡ None → (b ≡ true) × (later ≡ None)
if_wrong true later d e = (refl, e)
if_wrong false later d e = absurd cc

module _ (program : Program) (file : ClassFile) where
  abbrev pool : List Const
  pool = file.pool

  of_numbers : (var : Var) → is_of_references (field_type var) ≡ false
  of_numbers var =
      elim (cases_Bool var.is_bool) [
        | inl holds ↦ rw holds refl
        | inr fails ↦ rw fails refl
      ]

  -- the constant is a number, the variable's first
  first_is : (var : Var) (constant : Option Const) → is_first var constant ≡ true → constant ≡ Some (constants.Integer var.first)
  first_is var None e = absurd cc
  first_is var (Some (constants.Integer n)) e = ap (λ (m : ℤ). Some (constants.Integer m)) ((Decides-int_eq n var.first).0 e)
  first_is var (Some (constants.Utf8 text)) e = absurd cc
  first_is var (Some (constants.Float n)) e = absurd cc
  first_is var (Some (constants.Long n)) e = absurd cc
  first_is var (Some (constants.Double n)) e = absurd cc
  first_is var (Some (constants.Class n)) e = absurd cc
  first_is var (Some (constants.Str n)) e = absurd cc
  first_is var (Some (constants.Field c n)) e = absurd cc
  first_is var (Some (constants.Method c n)) e = absurd cc
  first_is var (Some (constants.IMethod c n)) e = absurd cc
  first_is var (Some (constants.NameAndType c n)) e = absurd cc
  first_is var (Some constants.Second) e = absurd cc

  -- the one attribute of the field tells it
  told_first : (var : Var) (attrs : List Attr) (desc : List ℕ) → tells_first pool var attrs ≡ true → desc ≡ field_type var
      → option_and_then (λ (bytes : List ℕ). option_and_then (λ (index : ℕ). option_and_then (value_of_constant program pool desc) (slice_get pool index)) (two_bytes bytes))
      (slice_get (filter_map (constant_bytes pool) attrs) 0) ≡ Some (values.Int var.first)
  told_first var [] desc tells is = absurd cc
  told_first var (attributes.Code code ∷ others) desc tells is = absurd cc
  told_first var (attributes.Other other ∷ (next ∷ others)) desc tells is = absurd cc
  told_first var (attributes.Other other ∷ []) desc tells is =
      let parts = and_parts (bytes_eq (text_at pool other.name) (codes "ConstantValue")) (names_first pool var other.bytes) tells in
      let index : ℕ = 256 * slice_index other.bytes 0 + slice_index other.bytes 1 in
      let names = and_parts (length other.bytes == 2) (is_first var (slice_get pool index)) parts.1 in
      let constant = first_is var (slice_get pool index) names.1 in
      let numbers : is_of_references desc ≡ false = ap is_of_references is ∙ of_numbers var in
      rw (parts.0, names.0, constant, numbers) refl

  first_held : (at : ℕ) (var : Var) (member : Member) → is_field_of pool at var member ≡ true → starting_value program file member ≡ values.Int var.first
  first_held at var member is =
      let flags = and_parts (member.flags == 0x0009) (bytes_eq (name_of pool member) (field_name at) && (bytes_eq (desc_of pool member) (field_type var) && tells_first pool var member.attrs)) is in
      let name = and_parts (bytes_eq (name_of pool member) (field_name at)) (bytes_eq (desc_of pool member) (field_type var) && tells_first pool var member.attrs) flags.1 in
      let desc = and_parts (bytes_eq (desc_of pool member) (field_type var)) (tells_first pool var member.attrs) name.1 in
      let nine : member.flags ≡ 9 = eqb-true member.flags 9 flags.0 in
      let static : is_static member.flags ≡ true = rw nine refl in
      let told = told_first var member.attrs (desc_of pool member) desc.1 ((bytes_eq-Decides (desc_of pool member) (field_type var)).0 desc.0) in
      rw (static, told) refl

  firsts_held : (at : ℕ) (vars : List Var) (fields : List Member) → wrong_field pool at vars fields ≡ None → length fields ≡ length vars
      → map (starting_value program file) fields ≡ map values.Int (map (λ (v : Var). v.first) vars)
  firsts_held at [] [] none many = refl
  firsts_held at [] (field ∷ fields) none many = absurd (omega (arith, many))
  firsts_held at (var ∷ vars) [] none many = absurd cc
  firsts_held at (var ∷ vars) (field ∷ fields) none many =
      let here = if_wrong (is_field_of pool at var field) (wrong_field pool (at + 1) vars fields) at none in
      rw (first_held at var field here.0, firsts_held (at + 1) vars fields here.1 (omega (arith, many))) refl

-- ---- the class that holds them

module _ (program : Program) (policy : Policy) (annotations : Annotations) (o : IsObeying program policy annotations) where
  abbrev state : ℕ
  state = state_of program policy annotations

  -- It is there, with a field for each variable and nothing else.
  record IsThere : Type 0 where
    pub class : LinkedClass
    pub there : slice_get program.classes state ≡ Some class
    pub fields : wrong_field class.file.pool 0 policy.vars class.file.fields ≡ None
    pub many : length class.file.fields ≡ length policy.vars

  is_there_it : IsThere
  is_there_it =
      let fault : ℕ → Option ℕ = λ (at : ℕ). option_map_or (class_fault policy.vars) (slice_get program.classes at) (Some (length policy.vars)) in
      let at = there_or_none fault (state_at program.classes) (length policy.vars) o.accepted.state in
      let c = there_or_none (class_fault policy.vars) (slice_get program.classes at.0) (length policy.vars) at.2 in
      let both = no_other (wrong_field c.0.file.pool 0 policy.vars c.0.file.fields) (if has_no_more policy.vars c.0 then None else Some (length policy.vars)) c.2 in
      let more = passes_if (has_no_more policy.vars c.0) (length policy.vars) both.1 in
      let flags = and_parts (c.0.file.flags == 0x0021) _ more in
      let fields = and_parts (bytes_eq c.0.parent (codes "java/lang/Object")) (has_none c.0.file.interfaces && (has_none c.0.methods && (length c.0.file.fields == length policy.vars))) flags.1 in
      let methods = and_parts (has_none c.0.file.interfaces) (has_none c.0.methods && (length c.0.file.fields == length policy.vars)) fields.1 in
      let many = and_parts (has_none c.0.methods) (length c.0.file.fields == length policy.vars) methods.1 in
      let is : state ≡ at.0 = ap (λ (found : Option ℕ). option_map_or (λ (i : ℕ). i) found (length program.classes)) at.1 in
      record {
        class = c.0;
        there = ap (slice_get program.classes) is ∙ c.1;
        fields = both.0;
        many = eqb-true (length c.0.file.fields) (length policy.vars) many.1;
      }

  variables_there : slice_get (statics_of program) state ≡ Some (map values.Int (initial policy))
  variables_there =
      let held : LinkedClass → List Value = λ (c : LinkedClass). map (starting_value program c.file) c.file.fields in
      let i = is_there_it in
      let are = firsts_held program i.class.file 0 policy.vars i.class.file.fields i.fields i.many in
      slice_get-map held program.classes state ∙ ap (option_map held) i.there ∙ ap (λ (fields : List Value). Some fields) are

  -- ---- the start

  one_thread : (begun : Thread) → IsClient program policy annotations begun → AreOthers program policy annotations (λ number. Unit {0}) (begun ∷ []) (Clear ∷ [])
  one_thread begun client zero thread part meant e is =
      inl (subst (IsClient program policy annotations) (some_is begun thread e) client, sym (some_is Clear part is))
  one_thread begun client (suc number) thread part meant e is = absurd cc

  -- a thread that begins methods does not hold the lock
  pub starts_well : ((to_begin : List Given) → IsClient program policy annotations (rests program to_begin)) → StartsWell program policy annotations
  starts_well rests_client =
      let to_begin : List Given = initialisers program ++ (program.main_class, program.main_method) ∷ [] in
      record {
        world = record { heap = heap_clean program; statics = λ class fields differ e. statics_clean program class fields e };
        fields = map values.Int (initial policy);
        there = variables_there;
        recorded = initial policy;
        ranged = firsts_in_range policy.maxint policy.vars o.good.vars;
        among = Clear ∷ [];
        each = refl;
        agree = refl;
        lock = inl (record { free = refl; variables = refl; threads = one_thread (rests program to_begin) (rests_client to_begin) });
      }
