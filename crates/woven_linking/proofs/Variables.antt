-- The fields of conspec/State: each is found by the name and the type of its variable.
use Rattle.std.proofs.Common.{◌≡◌, ℕ, zero, suc, ◌+◌, ◌<◌, ◌^◌, Bool, true, false, ◌&&◌, List, [], ◌∷◌, ◌++◌, Some, refl, ap, ◌∙◌, arith}
use Rattle.std.specs.Prelude.{bytes_eq, map, slice_get, if◌then◌else◌}
use Rattle.std.specs.Fmt.{decimal}
use Rattle.std.proofs.lemmas.Fmt.{decimal_injective}
use Rattle.std.proofs.lemmas.Slice.Eq.{bytes_eq-Decides}
use Rattle.class_codec.specs.declared.tree.Const.{Const}
use Rattle.class_codec.specs.Pool.{class_name_at, utf8_at}
use Rattle.bytecode_model.specs.declared.members.MemberKind.TheVariants as members
use Rattle.bytecode_model.specs.declared.program.Target.TheVariants as target
use Rattle.bytecode_model.specs.Heads.{text_at}
use Rattle.bytecode_model.specs.Members.{members_from, file_members, first_of}
use Rattle.conspec_tree.specs.declared.types.Var.{Var}
use Rattle.offset_patch.specs.Entries.{state_name, variable_name, variable_type}
use Rattle.class_weaving.specs.State.{head, values_from, variable_text, kind_text, fields_from, state_file}
use Rattle.class_weaving.proofs.StateFits.{HasNames, names_stand}
use Rattle.woven_linking.proofs.Above.{other_name}
use Rattle.class_weaving.proofs.Wanted.{name_told}

equal_if : (xs ys : List ℕ) → xs ≡ ys → bytes_eq xs ys ≡ true
equal_if xs ys e = (bytes_eq-Decides xs ys).1 e

rest_of : (a b : ℕ) (xs ys : List ℕ) → ◌≡◌ {A = List ℕ} (a ∷ xs) (b ∷ ys) → xs ≡ ys
rest_of a b xs ys e = cc

-- two variables have two names
names_differ : (i j : ℕ) → j < 2 ^ 64 → i < j → bytes_eq (variable_name i) (variable_name j) ≡ false
names_differ i j few less =
    other_name (variable_name i) (variable_name j) (λ e.
    let same : i ≡ j = decimal_injective i j (omega arith) few (rest_of 118 118 (decimal i) (decimal j) e) in
    absurd (omega (arith, less, same)))

-- whether the first of the fields, of this class, name and type, is the one that is looked for
abbrev is_it : List ℕ → List ℕ → List ℕ → List ℕ → Bool
is_it name desc name' desc' = bytes_eq state_name state_name && (bytes_eq name' name && bytes_eq desc' desc)

it_is : (name desc name' desc' : List ℕ) → name' ≡ name → desc' ≡ desc → is_it name desc name' desc' ≡ true
it_is name desc name' desc' a b = rw (equal_if name' name a, equal_if desc' desc b) refl

it_is_not : (name desc name' desc' : List ℕ) → bytes_eq name' name ≡ false → is_it name desc name' desc' ≡ false
it_is_not name desc name' desc' a = rw a refl

module _ (pool : List Const) (class : ℕ) (types : (is_bool : Bool) → text_at pool (kind_text is_bool) ≡ variable_type is_bool) where
  found_from : (index : ℕ) (left : List Var) (k var : ℕ) (is_bool : Bool) → var ≡ index + k → var < 2 ^ 64 → HasNames pool index left
      → slice_get (map (λ (v : Var). v.is_bool) left) k ≡ Some is_bool
      → first_of (members_from members.Field state_name pool class index (fields_from index left)) (record { class = state_name; name = variable_name var; desc = variable_type is_bool })
      ≡ Some (record { target = target.Field class var; is_static = true })
  found_from index [] k var is_bool at few names e = absurd cc
  found_from index (v ∷ left) zero var is_bool at few names e =
      let here : index ≡ var = omega (arith, at) in
      let kind : v.is_bool ≡ is_bool = cc in
      let name : text_at pool (variable_text index) ≡ variable_name var = name_told pool (variable_text index) (variable_name index) names.0 ∙ ap variable_name here in
      let desc : text_at pool (kind_text v.is_bool) ≡ variable_type is_bool = types v.is_bool ∙ ap variable_type kind in
      let later = first_of (members_from members.Field state_name pool class (index + 1) (fields_from (index + 1) left)) (record { class = state_name; name = variable_name var; desc = variable_type is_bool }) in
      ap (λ (b : Bool). if b then Some (record { target = target.Field class index; is_static = true }) else later)
      (it_is (variable_name var) (variable_type is_bool) (text_at pool (variable_text index)) (text_at pool (kind_text v.is_bool)) name desc)
      ∙ ap (λ (i : ℕ). Some (record { target = target.Field class i; is_static = true })) here
  found_from index (v ∷ left) (suc k) var is_bool at few names e =
      let other : bytes_eq (text_at pool (variable_text index)) (variable_name var) ≡ false =
      ap (λ (text : List ℕ). bytes_eq text (variable_name var)) (name_told pool (variable_text index) (variable_name index) names.0) ∙ names_differ index var few (omega (arith, at)) in
      let later = first_of (members_from members.Field state_name pool class (index + 1) (fields_from (index + 1) left)) (record { class = state_name; name = variable_name var; desc = variable_type is_bool }) in
      ap (λ (b : Bool). if b then Some (record { target = target.Field class index; is_static = true }) else later)
      (it_is_not (variable_name var) (variable_type is_bool) (text_at pool (variable_text index)) (text_at pool (kind_text v.is_bool)) other)
      ∙ found_from (index + 1) left k var is_bool (omega (arith, at)) few names.1 e

types_stand : (rest : List Const) (is_bool : Bool) → text_at (head ++ rest) (kind_text is_bool) ≡ variable_type is_bool
unfolding utf8_at
types_stand rest true = refl
types_stand rest false = refl

-- the field of a variable, where conspec/State is the class of this index
pub variable_found : (vars : List Var) (class var : ℕ) (is_bool : Bool) → var < 2 ^ 64 → slice_get (map (λ (v : Var). v.is_bool) vars) var ≡ Some is_bool
    → first_of (file_members members.Field class (state_file vars)) (record { class = state_name; name = variable_name var; desc = variable_type is_bool })
    ≡ Some (record { target = target.Field class var; is_static = true })
unfolding class_name_at utf8_at
variable_found vars class var is_bool few e =
    let values = values_from 0 vars in
    found_from (head ++ values) class (types_stand values) 0 vars var var is_bool (omega arith) few (names_stand vars) e
