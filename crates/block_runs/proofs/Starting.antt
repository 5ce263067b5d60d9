-- The static fields of a woven program start as those of its client, and after them those of conspec/State as the policy's first state.
use Rattle.std.proofs.Common.{◌≡◌, ◌∙◌, ◌≤◌, ◌<◌, ℕ, ◌+◌, ◌*◌, List, [], ◌∷◌, ◌++◌, length, map, Bool, true, false, cond, Option, Some, None, refl, ap, subst, arith, length-append, append_assoc}
use Rattle.std.specs.Prelude.{⊤, bytes_eq, codes, option_and_then, slice_get, slice_index}
use Rattle.std.specs.Int.{bytes_high_first}
use Rattle.std.specs.List.{AllByRecursion, cons_option, filter_map}
use Rattle.std.specs.Option.{option_map_or}
use Rattle.std.proofs.lemmas.List.{map-append}
use Rattle.class_codec.specs.declared.tree.Attr.{Attr}
use Rattle.class_codec.specs.declared.tree.Attr.TheVariants as attributes
use Rattle.class_codec.specs.declared.tree.ClassFile.{ClassFile}
use Rattle.class_codec.specs.declared.tree.Const.{Const}
use Rattle.class_codec.specs.declared.tree.Const.TheVariants as constants
use Rattle.class_codec.specs.declared.tree.Member.{Member}
use Rattle.class_codec.specs.Fits.{FitsAttr, FitsMember, IsNamed}
use Rattle.class_codec.specs.Pool.{utf8_at}
use Rattle.bytecode_model.specs.declared.program.LinkedClass.{LinkedClass}
use Rattle.bytecode_model.specs.declared.program.Method.{Method}
use Rattle.bytecode_model.specs.declared.program.Program.{Program}
use Rattle.bytecode_model.specs.Heads.{desc_of, is_static, text_at}
use Rattle.bytecode_model.specs.Sound.{IsSound, IsSoundClass}
use Rattle.cert_format.specs.declared.certificate.Mode.{Mode}
use Rattle.conspec_tree.specs.declared.types.Var.{Var}
use Rattle.conspec_automaton.specs.declared.policy.Policy.{Policy}
use Rattle.conspec_automaton.specs.Next.{initial}
use Rattle.conspec_automaton.specs.Sound.{IsPolicy}
use Rattle.offset_patch.specs.Entries.{variable_name}
use Rattle.offset_patch.specs.Plan.{Plan}
use Rattle.offset_patch.proofs.PoolFits.{utf8_on}
use Rattle.class_weaving.specs.Outcome.{Each, IsWoven, IsWovenClass}
use Rattle.class_weaving.specs.State.{field, fields_from, head, kind_text, state_file, values_from, variable_text}
use Rattle.class_weaving.proofs.Lists.{get_left, get_right}
use Rattle.block_template.specs.Blocks.{plan_of}
use Rattle.guest_heap.specs.declared.value.Value.{Value}
use Rattle.guest_heap.specs.declared.value.Value.TheVariants as values
use Rattle.guest_model.specs.Layout.{constant_bytes, first_value, is_of_references, starting_value, statics_of, two_bytes, value_of_constant, value_told}
use Rattle.guest_model.proofs.Options.{all_get}
use Rattle.block_runs.specs.WovenClients.{ConstantsAreThere, NamesConstant}
use Rattle.block_runs.proofs.Adding.{desc_same}

-- ---- the fields of conspec/State

-- The pool has the first value of each variable after its name; the first of them has this index.
abbrev HasValues : List Const → ℕ → List Var → Type 0
HasValues pool index [] = ⊤
HasValues pool index (var ∷ vars) =
    (slice_get pool (variable_text index + 1) ≡ Some (constants.Integer var.first)) × HasValues pool (index + 1) vars

values_stand : (front : List Const) (index : ℕ) (vars : List Var) → length front ≡ variable_text index
    → HasValues (front ++ values_from index vars) index vars
values_stand front index [] e = tt
values_stand front index (var ∷ vars) e =
    let name : Const = constants.Utf8 (variable_name index) in
    let value : Const = constants.Integer var.first in
    let rest : List Const = values_from (index + 1) vars in
    let same : (front ++ name ∷ value ∷ []) ++ rest ≡ front ++ name ∷ value ∷ rest = append_assoc front (name ∷ value ∷ []) rest in
    let count : length (front ++ name ∷ value ∷ []) ≡ variable_text (index + 1) = omega
    (arith, length-append front (name ∷ value ∷ []), e) in
    let at : variable_text index + 1 ≡ length front + 1 = omega (arith, e) in (
      ap (slice_get (front ++ name ∷ value ∷ rest)) at ∙ get_right front (name ∷ value ∷ rest) 1,
      subst (λ (p : List Const). HasValues p (index + 1) vars) same (values_stand (front ++ name ∷ value ∷ []) (index + 1) vars count),
    )

read_again : (n : ℕ) → n < 65536 → 256 * slice_index (bytes_high_first 2 n) 0 + slice_index (bytes_high_first 2 n) 1 ≡ n
read_again n small = omega (arith, small)

module _ (program : Program) (vars : List Var) where
  abbrev pool : List Const
  pool = head ++ values_from 0 vars

  value_text : text_at pool 5 ≡ codes "ConstantValue"
  unfolding utf8_at
  value_text = refl

  number_there : (is_bool : Bool) → is_of_references (text_at pool (kind_text is_bool)) ≡ false
  unfolding utf8_at
  number_there true = refl
  number_there false = refl

  told_first : (index : ℕ) (var : Var) → index < 16 → slice_get pool (variable_text index + 1) ≡ Some (constants.Integer var.first)
      → value_told program (state_file vars) (field index var) ≡ Some (values.Int var.first)
  told_first index var few there =
      let n : ℕ = variable_text index + 1 in
      let at = read_again n (omega (arith, few)) in
      let desc : List ℕ = text_at pool (kind_text var.is_bool) in
      let bytes : List ℕ = bytes_high_first 2 n in
      let first : slice_get (filter_map (constant_bytes pool) (field index var).attrs) 0 ≡ Some bytes =
      ap (λ (t : List ℕ). slice_get (cons_option (cond (bytes_eq t (codes "ConstantValue")) (Some bytes) None) []) 0) value_text in
      ap (option_and_then (λ (bs : List ℕ). option_and_then
      (λ (i : ℕ). option_and_then (value_of_constant program pool desc) (slice_get pool i)) (two_bytes bs))) first
      ∙ ap (λ (i : ℕ). option_and_then (value_of_constant program pool desc) (slice_get pool i)) at
      ∙ ap (option_and_then (value_of_constant program pool desc)) there
      ∙ ap (λ (b : Bool). cond b None (Some (values.Int var.first))) (number_there var.is_bool)

  starts_as : (index : ℕ) (var : Var) → index < 16 → slice_get pool (variable_text index + 1) ≡ Some (constants.Integer var.first)
      → starting_value program (state_file vars) (field index var) ≡ values.Int var.first
  starts_as index var few there =
      ap (λ (o : Option Value). option_map_or (λ (v : Value). v) o (first_value (desc_of pool (field index var))))
      (told_first index var few there)

  all_start : (index : ℕ) (some : List Var) → index + length some ≤ 16 → HasValues pool index some
      → map (starting_value program (state_file vars)) (fields_from index some) ≡ map values.Int (map (λ (v : Var). v.first) some)
  all_start index [] few has = refl
  all_start index (var ∷ some) few has =
      rw (starts_as index var (omega (arith, few)) has.0, all_start (index + 1) some (omega (arith, few)) has.1) refl

-- ---- the fields of the client

module _ (client woven : Program) (literals : woven.literals ≡ client.literals) (old more : List Const)
    (named : AllByRecursion (IsNamed old) old) where
  bytes_same : (attr : Attr) → FitsAttr old false attr → constant_bytes (old ++ more) attr ≡ constant_bytes old attr
  bytes_same (attributes.Code code) fits = refl
  bytes_same (attributes.Other other) fits =
      ap (λ (o : Option (List ℕ)). cond (bytes_eq (option_map_or (λ (text : List ℕ). text) o []) (codes "ConstantValue"))
      (Some other.bytes) None)
      (utf8_on old more other.name fits.1.name.named)

  all_bytes : (attrs : List Attr) → AllByRecursion (FitsAttr old false) attrs
      → filter_map (constant_bytes (old ++ more)) attrs ≡ filter_map (constant_bytes old) attrs
  all_bytes [] fits = refl
  all_bytes (attr ∷ attrs) fits = rw (bytes_same attr fits.0, all_bytes attrs fits.1) refl

  constant_same : (desc : List ℕ) (constant : Const) → IsNamed old constant
      → value_of_constant woven (old ++ more) desc constant ≡ value_of_constant client old desc constant
  constant_same desc (constants.Integer n) is = refl
  constant_same desc (constants.Str text) is = rw (utf8_on old more text is, literals) refl
  constant_same desc (constants.Utf8 text) is = refl
  constant_same desc (constants.Float n) is = refl
  constant_same desc (constants.Long n) is = refl
  constant_same desc (constants.Double n) is = refl
  constant_same desc (constants.Class n) is = refl
  constant_same desc (constants.Field c n) is = refl
  constant_same desc (constants.Method c n) is = refl
  constant_same desc (constants.IMethod c n) is = refl
  constant_same desc (constants.NameAndType c n) is = refl
  constant_same desc constants.Second is = refl

  there_same : (desc : List ℕ) (index : ℕ) → index < length old
      → option_and_then (value_of_constant woven (old ++ more) desc) (slice_get (old ++ more) index) ≡ option_and_then
      (value_of_constant client old desc) (slice_get old index)
  there_same desc index less =
      ap (option_and_then (value_of_constant woven (old ++ more) desc)) (get_left old more index less) ∙ by (slice_get old index) refl
    where
      by : (o : Option Const) → slice_get old index ≡ o
          → option_and_then (value_of_constant woven (old ++ more) desc) o ≡ option_and_then (value_of_constant client old desc) o
      by None e = refl
      by (Some constant) e = constant_same desc constant (all_get (IsNamed old) old index constant named e)

  told_by : (desc : List ℕ) (first : Option (List ℕ))
      → ((bytes : List ℕ) (index : ℕ) → first ≡ Some bytes → two_bytes bytes ≡ Some index → index < length old)
      → option_and_then (λ (bytes : List ℕ). option_and_then
      (λ (index : ℕ). option_and_then (value_of_constant woven (old ++ more) desc) (slice_get (old ++ more) index)) (two_bytes bytes)) first
      ≡ option_and_then (λ (bytes : List ℕ). option_and_then
      (λ (index : ℕ). option_and_then (value_of_constant client old desc) (slice_get old index)) (two_bytes bytes)) first
  told_by desc None inside = refl
  told_by desc (Some bytes) inside = by (two_bytes bytes) (λ index e. inside bytes index refl e)
    where
      by : (o : Option ℕ) → ((index : ℕ) → o ≡ Some index → index < length old)
          → option_and_then (λ (index : ℕ). option_and_then (value_of_constant woven (old ++ more) desc) (slice_get (old ++ more) index)) o
          ≡ option_and_then (λ (index : ℕ). option_and_then (value_of_constant client old desc) (slice_get old index)) o
      by None all = refl
      by (Some index) all = there_same desc index (all index refl)

  -- the value of a field of a class with this pool
  abbrev value_in : Program → List Const → List Const → List ℕ → Member → Value
  value_in program names from desc member =
      option_map_or (λ (v : Value). v)
      (cond (is_static member.flags)
      (option_and_then (λ (bytes : List ℕ). option_and_then
      (λ (index : ℕ). option_and_then (value_of_constant program from desc) (slice_get from index)) (two_bytes bytes))
      (slice_get (filter_map (constant_bytes names) member.attrs) 0)) None)
      (first_value desc)

  value_same : (member : Member) → FitsMember old false member → NamesConstant old member
      → value_in woven (old ++ more) (old ++ more) (desc_of (old ++ more) member) member ≡ value_in client old old
      (desc_of old member) member
  value_same member fits inside =
      ap (λ (desc : List ℕ). value_in woven (old ++ more) (old ++ more) desc member) (desc_same old more member fits.desc.named)
      ∙ ap (λ (bs : List (List ℕ)). option_map_or (λ (v : Value). v)
      (cond (is_static member.flags)
      (option_and_then (λ (bytes : List ℕ). option_and_then
      (λ (index : ℕ). option_and_then (value_of_constant woven (old ++ more) (desc_of old member)) (slice_get (old ++ more) index))
      (two_bytes bytes))
      (slice_get bs 0)) None) (first_value (desc_of old member))) (all_bytes member.attrs fits.attrs.each)
      ∙ ap (λ (o : Option Value). option_map_or (λ (v : Value). v) (cond (is_static member.flags) o None)
      (first_value (desc_of old member)))
      (told_by (desc_of old member) (slice_get (filter_map (constant_bytes old) member.attrs) 0) inside)

  fields_same : (fields : List Member) → AllByRecursion (FitsMember old false) fields → AllByRecursion (NamesConstant old) fields
      → map (λ (m : Member). value_in woven (old ++ more) (old ++ more) (desc_of (old ++ more) m) m) fields ≡ map
      (λ (m : Member). value_in client old old (desc_of old m) m) fields
  fields_same [] fits inside = refl
  fields_same (m ∷ fields) fits inside = rw (value_same m fits.0 inside.0, fields_same fields fits.1 inside.1) refl

module _ (plan : Plan) (client woven : Program) (literals : woven.literals ≡ client.literals) (state : ℕ) where
  abbrev held : Program → LinkedClass → List Value
  held program c = map (starting_value program c.file) c.file.fields

  class_same : (old new : LinkedClass) → IsSoundClass old → AllByRecursion (NamesConstant old.file.pool) old.file.fields
      → IsWovenClass plan state old new
      → held woven new ≡ held client old
  class_same old new ok inside w =
      ap (λ (f : ClassFile). map (starting_value woven f) f.fields) w.file
      ∙ ap (λ (pool : List Const). map
      (λ (m : Member). value_in client woven literals old.file.pool w.added ok.fits.pool.named woven pool pool
      (desc_of pool m) m) old.file.fields) w.pool
      ∙ fields_same client woven literals old.file.pool w.added ok.fits.pool.named old.file.fields ok.fits.fields.each inside

  classes_same : (olds news : List LinkedClass) → AllByRecursion IsSoundClass olds
      → AllByRecursion (λ (c : LinkedClass). AllByRecursion (NamesConstant c.file.pool) c.file.fields) olds
      → Each (IsWovenClass plan state) olds news
      → map (held woven) news ≡ map (held client) olds
  classes_same [] [] ok inside each = refl
  classes_same [] (new ∷ news) ok inside each = absurd each
  classes_same (old ∷ olds) [] ok inside each = absurd each
  classes_same (old ∷ olds) (new ∷ news) ok inside each =
      rw (class_same old new ok.0 inside.0 each.0, classes_same olds news ok.1 inside.1 each.1) refl

-- ---- all static fields

pub starts_first : (policy : Policy) (mode : Mode) (client woven : Program) → IsPolicy policy → IsSound client → ConstantsAreThere client
    → IsWoven client (plan_of policy mode) policy.vars woven → statics_of woven ≡ statics_of client ++ map values.Int (initial policy) ∷ []
starts_first policy mode client woven policy_is sound constants w =
    let plan = plan_of policy mode in
    let state : ℕ = length client.classes in
    let all : statics_of woven ≡ map (held plan client woven w.literals state woven) w.own
    ++ held plan client woven w.literals state woven w.state ∷ [] =
    ap (λ (cs : List LinkedClass). map (held plan client woven w.literals state woven) cs) w.are
    ∙ map-append (held plan client woven w.literals state woven) w.own (w.state ∷ []) in
    let olds : map (held plan client woven w.literals state woven) w.own ≡ statics_of client =
    classes_same plan client woven w.literals state client.classes w.own sound.classes constants w.classes in
    let firsts : held plan client woven w.literals state woven w.state ≡ map values.Int (initial policy) =
    ap (λ (f : ClassFile). map (starting_value woven f) f.fields) w.last.file
    ∙ all_start woven policy.vars 0 policy.vars (omega (arith, policy_is.few_vars)) (values_stand head 0 policy.vars refl) in
    all
    ∙ ap (λ (vs : List (List Value)). vs ++ held plan client woven w.literals state woven w.state ∷ []) olds
    ∙ ap (λ (vs : List Value). statics_of client ++ vs ∷ []) firsts
