-- The class conspec/State that weaving writes is the class of the policy's variables, and stands after the others.
use Rattle.std.proofs.Common.{◌≡◌, ◌≢◌, ℕ, suc, ◌+◌, ◌*◌, ◌<◌, ◌≤◌, Bool, true, false, cond, List, [], ◌∷◌, ◌++◌, length, Option, Some, None, refl, sym, ap, subst, ◌∙◌, inl, inr, arith, length-append, append_assoc}
use Rattle.std.specs.Prelude.{◌==◌, bytes_eq, codes, slice_get, slice_index, ⊤}
use Rattle.std.specs.Int.{bytes_high_first}
use Rattle.std.specs.List.{AllByRecursion, position_from}
use Rattle.std.specs.Option.{option_map_or, option_or}
use Rattle.std.proofs.lemmas.Bool.{and_from, cases_Bool, eq-eqb}
use Rattle.std.proofs.lemmas.Slice.Eq.{bytes_eq-Decides}
use Rattle.class_codec.specs.declared.tree.ClassFile.{ClassFile}
use Rattle.class_codec.specs.declared.tree.Const.{Const}
use Rattle.class_codec.specs.declared.tree.Const.TheVariants as constants
use Rattle.class_codec.specs.Pool.{class_name_at, text_of, utf8_at}
use Rattle.bytecode_model.specs.declared.program.LinkedClass.{LinkedClass}
use Rattle.bytecode_model.specs.Heads.{class_at, desc_of, name_of, text_at}
use Rattle.bytecode_model.specs.Sound.{IsSoundClass}
use Rattle.conspec_tree.specs.declared.types.Var.{Var}
use Rattle.conspec_automaton.specs.declared.policy.Policy.{Policy}
use Rattle.offset_patch.specs.Entries.{variable_name}
use Rattle.offset_patch.specs.Plan.{Plan}
use Rattle.class_weaving.specs.Outcome.{Each, IsState, IsWovenClass}
use Rattle.class_weaving.specs.State.{field, fields_from, head, kind_text, values_from, variable_text}
use Rattle.class_weaving.proofs.StateFits.{HasNames, names_stand}
use Rattle.block_logic.specs.Operands.{state_name}
use Rattle.block_logic.specs.State.{class_fault, field_name, field_type, has_no_more, has_none, is_field_of, is_first, names_first, state_at, state_fault, tells_first, wrong_field}
use Rattle.class_weaving.proofs.Lists.{get_right}
use Rattle.cert_maker.proofs.Same.{same_int}

-- ---- names

pub same_text : (text : List ℕ) → bytes_eq text text ≡ true
same_text text = (bytes_eq-Decides text text).1 refl

pub other_name : (name : List ℕ) → name ≢ state_name → bytes_eq name state_name ≡ false
other_name name differs =
    elim (cases_Bool (bytes_eq name state_name)) [
      | inl is ↦ absurd (differs ((bytes_eq-Decides name state_name).0 is))
      | inr fails ↦ fails
    ]

-- ---- the values of the variables

-- The pool has the first value of each variable after its name; the first of them has this index.
abbrev HasValues : List Const → ℕ → List Var → Type 0
HasValues pool index [] = ⊤
HasValues pool index (var ∷ vars) = (slice_get pool (variable_text index + 1) ≡ Some (constants.Integer var.first)) × HasValues pool (index + 1) vars

values_stand : (front : List Const) (index : ℕ) (vars : List Var) → length front ≡ variable_text index → HasValues (front ++ values_from index vars) index vars
values_stand front index [] e = tt
values_stand front index (var ∷ vars) e =
    let name : Const = constants.Utf8 (variable_name index) in
    let value : Const = constants.Integer var.first in
    let rest : List Const = values_from (index + 1) vars in
    let same : (front ++ name ∷ value ∷ []) ++ rest ≡ front ++ name ∷ value ∷ rest = append_assoc front (name ∷ value ∷ []) rest in
    let count : length (front ++ name ∷ value ∷ []) ≡ variable_text (index + 1) = omega (arith, length-append front (name ∷ value ∷ []), e) in
    let at : variable_text index + 1 ≡ length front + 1 = omega (arith, e) in (
      ap (slice_get (front ++ name ∷ value ∷ rest)) at ∙ get_right front (name ∷ value ∷ rest) 1,
      subst (λ (p : List Const). HasValues p (index + 1) vars) same (values_stand (front ++ name ∷ value ∷ []) (index + 1) vars count),
    )

two_bytes : (n : ℕ) → n < 65536 → 256 * slice_index (bytes_high_first 2 n) 0 + slice_index (bytes_high_first 2 n) 1 ≡ n
two_bytes n small = omega (arith, small)

-- ---- the fields

module _ (rest : List Const) where
  abbrev pool : List Const
  pool = head ++ rest

  value_text : text_at pool 5 ≡ codes "ConstantValue"
  unfolding utf8_at
  value_text = refl

  kind_is : (is_bool : Bool) → text_at pool (kind_text is_bool) ≡ cond is_bool (codes "Z") (codes "I")
  unfolding utf8_at
  kind_is true = refl
  kind_is false = refl

  name_is : (index : ℕ) → slice_get pool (variable_text index) ≡ Some (constants.Utf8 (variable_name index)) → text_at pool (variable_text index) ≡ variable_name index
  unfolding utf8_at
  name_is index e = ap (λ (o : Option Const). option_map_or (λ (text : List ℕ). text) (text_of o) []) e

  first_is : (index : ℕ) (var : Var) → index < 16 → slice_get pool (variable_text index + 1) ≡ Some (constants.Integer var.first)
      → names_first pool var (bytes_high_first 2 (variable_text index + 1)) ≡ true
  first_is index var few e =
      let at = two_bytes (variable_text index + 1) (omega (arith, few)) in
      and_from _ _ refl
      (ap (λ (i : ℕ). is_first var (slice_get pool i)) at ∙ ap (is_first var) e ∙ same_int var.first)

  -- It is the field of its variable.
  field_is : (index : ℕ) (var : Var) → index < 16 → slice_get pool (variable_text index) ≡ Some (constants.Utf8 (variable_name index))
      → slice_get pool (variable_text index + 1) ≡ Some (constants.Integer var.first) → is_field_of pool index var (field index var) ≡ true
  field_is index var few name value =
      let named : bytes_eq (name_of pool (field index var)) (field_name index) ≡ true =
      ap (λ (t : List ℕ). bytes_eq t (field_name index)) (name_is index name) ∙ same_text (field_name index) in
      let typed : bytes_eq (desc_of pool (field index var)) (field_type var) ≡ true =
      ap (λ (t : List ℕ). bytes_eq t (field_type var)) (kind_is var.is_bool) ∙ same_text (field_type var) in
      let canonical : tells_first pool var (field index var).attrs ≡ true =
      and_from _ _ (ap (λ (t : List ℕ). bytes_eq t (codes "ConstantValue")) value_text) (first_is index var few value) in
      and_from _ _ named (and_from _ _ typed canonical)

  none_wrong : (index : ℕ) (vars : List Var) → index + length vars ≤ 16 → HasNames pool index vars → HasValues pool index vars
      → wrong_field pool index vars (fields_from index vars) ≡ None
  none_wrong index [] few names values = refl
  none_wrong index (var ∷ vars) few names values =
      ap (λ (b : Bool). cond b (wrong_field pool (index + 1) vars (fields_from (index + 1) vars)) (Some index))
      (field_is index var (omega (arith, few)) names.0 values.0)
      ∙ none_wrong (index + 1) vars (omega (arith, few)) names.1 values.1

fields_count : (index : ℕ) (vars : List Var) → length (fields_from index vars) ≡ length vars
fields_count index [] = refl
fields_count index (var ∷ vars) = ap suc (fields_count (index + 1) vars)

-- ---- the class

parent_name : (rest : List Const) → class_at (head ++ rest) 4 ≡ codes "java/lang/Object"
unfolding class_name_at utf8_at
parent_name rest = refl

-- It is public, and a class and no interface, and has the fields of the variables and nothing else.
class_is : (vars : List Var) (class : LinkedClass) → length vars ≤ 16 → IsState vars class → IsSoundClass class → class_fault vars class ≡ None
class_is vars class few is sound =
    let fields : wrong_field class.file.pool 0 vars class.file.fields ≡ None =
    subst (λ (f : ClassFile). wrong_field f.pool 0 vars f.fields ≡ None) (sym is.file)
    (none_wrong (values_from 0 vars) 0 vars (omega (arith, few)) (names_stand vars) (values_stand head 0 vars refl)) in
    let parent : class.parent ≡ codes "java/lang/Object" =
    sound.parent ∙ ap (λ (f : ClassFile). class_at f.pool f.super_class) is.file ∙ parent_name (values_from 0 vars) in
    let no_more : has_no_more vars class ≡ true =
    and_from _ _ (ap (λ (f : ClassFile). f.flags == 0x0021) is.file)
    (and_from _ _ (ap (λ (t : List ℕ). bytes_eq t (codes "java/lang/Object")) parent)
    (and_from _ _ (ap (λ (f : ClassFile). has_none f.interfaces) is.file)
    (and_from _ _ (ap has_none is.methods)
    (ap (λ (f : ClassFile). length f.fields == length vars) is.file ∙ eq-eqb _ _ (fields_count 0 vars))))) in
    ap (λ (o : Option ℕ). option_or o (cond (has_no_more vars class) None (Some (length vars)))) fields
    ∙ ap (λ (b : Bool). cond b None (Some (length vars))) no_more

-- ---- its place

module _ (plan : Plan) (count : ℕ) where
  pub state_found : (olds news : List LinkedClass) (state : LinkedClass) (at : ℕ) → Each (IsWovenClass plan count) olds news
      → AllByRecursion (λ (c : LinkedClass). c.name ≢ state_name) olds → state.name ≡ state_name
      → position_from (λ (c : LinkedClass). bytes_eq c.name state_name) at (news ++ state ∷ []) ≡ Some (at + length olds)
  state_found [] [] state at each free is =
      let here : at ≡ at + 0 = omega arith in
      ap (λ (b : Bool). cond b (Some at) None) (ap (λ (t : List ℕ). bytes_eq t state_name) is ∙ same_text state_name) ∙ ap Some here
  state_found [] (x ∷ news) state at each free is = absurd each
  state_found (class ∷ olds) [] state at each free is = absurd each
  state_found (class ∷ olds) (x ∷ news) state at each free is =
      let other : bytes_eq x.name state_name ≡ false =
      ap (λ (t : List ℕ). bytes_eq t state_name) each.0.name ∙ other_name class.name free.0 in
      let later : at + 1 + length olds ≡ at + length (class ∷ olds) = omega arith in
      ap (λ (b : Bool). cond b (Some at) (position_from (λ (c : LinkedClass). bytes_eq c.name state_name) (at + 1) (news ++ state ∷ []))) other
      ∙ state_found olds news state (at + 1) each.1 free.1 is ∙ ap Some later

  last_there : (olds news : List LinkedClass) (state : LinkedClass) → Each (IsWovenClass plan count) olds news
      → slice_get (news ++ state ∷ []) (length olds) ≡ Some state
  last_there [] [] state each = refl
  last_there [] (x ∷ news) state each = absurd each
  last_there (class ∷ olds) [] state each = absurd each
  last_there (class ∷ olds) (x ∷ news) state each = last_there olds news state each.1

  -- The class of the policy's variables is as it has to be.
  pub state_right : (policy : Policy) (olds news : List LinkedClass) (state : LinkedClass) → length policy.vars ≤ 16
      → Each (IsWovenClass plan count) olds news → AllByRecursion (λ (c : LinkedClass). c.name ≢ state_name) olds → IsState policy.vars state
      → IsSoundClass state → state_fault (news ++ state ∷ []) policy ≡ None
  state_right policy olds news state few each free is sound =
      let found : state_at (news ++ state ∷ []) ≡ Some (length olds) =
      state_found olds news state 0 each free is.name ∙ (let at : 0 + length olds ≡ length olds = omega arith in ap Some at) in
      ap (λ (o : Option ℕ). option_map_or (λ (at : ℕ). option_map_or (class_fault policy.vars) (slice_get (news ++ state ∷ []) at) (Some (length policy.vars))) o (Some (length policy.vars))) found
      ∙ ap (λ (o : Option LinkedClass). option_map_or (class_fault policy.vars) o (Some (length policy.vars))) (last_there olds news state each)
      ∙ class_is policy.vars state few is sound
