-- The class file of conspec/State can be encoded, and where the names of its variables stand.
use Rattle.std.proofs.Common.{◌≡◌, ℕ, ◌+◌, ◌*◌, ◌<◌, ◌≤◌, Bool, true, false, List, [], ◌∷◌, ◌++◌, length, Some, refl, sym, ap, subst, ◌∙◌, FitsSigned, append_assoc, arith}
use Rattle.std.specs.Prelude.{codes, slice_get, ⊤}
use Rattle.std.specs.Int.{w32}
use Rattle.std.specs.List.{AllByRecursion}
use Rattle.std.proofs.lemmas.List.{length-append}
use Rattle.byteorder.specs.Numbers.{length-bytes_high_first}
use Rattle.class_codec.specs.declared.pool.ConstKind.TheVariants as kinds
use Rattle.class_codec.specs.declared.tree.Const.{Const}
use Rattle.class_codec.specs.declared.tree.Const.TheVariants as constants
use Rattle.class_codec.specs.Pool.{is_one_of, names}
use Rattle.class_codec.specs.Fits.{FitsConst, FitsMember, HasSeconds, IsNamed, IsEncodable}
use Rattle.conspec_tree.specs.declared.types.Var.{Var}
use Rattle.offset_patch.specs.Entries.{state_name, variable_name}
use Rattle.offset_patch.proofs.EntryFits as entries
use Rattle.class_weaving.specs.State.{head, values_from, variable_text, kind_text, field, fields_from, state_file}

-- ---- where the variables stand

-- The pool has the name of each variable at its place; the first of them has this index.
abbrev pub HasNames : List Const → ℕ → List Var → Type 0
HasNames pool index [] = ⊤
HasNames pool index (var ∷ vars) = (slice_get pool (variable_text index) ≡ Some (constants.Utf8 (variable_name index))) × HasNames pool (index + 1) vars

get_after : {X : Type 0} (xs : List X) (x : X) (ys : List X) → slice_get (xs ++ x ∷ ys) (length xs) ≡ Some x
get_after [] x ys = refl
get_after (z ∷ xs) x ys = get_after xs x ys

names_from : (front : List Const) (index : ℕ) (vars : List Var) → length front ≡ variable_text index → HasNames (front ++ values_from index vars) index vars
names_from front index [] e = tt
names_from front index (var ∷ vars) e =
    let name = constants.Utf8 (variable_name index) in
    let value = constants.Integer var.first in
    let rest = values_from (index + 1) vars in
    let same : (front ++ name ∷ value ∷ []) ++ rest ≡ front ++ name ∷ value ∷ rest = append_assoc front (name ∷ value ∷ []) rest in
    let count : length (front ++ name ∷ value ∷ []) ≡ variable_text (index + 1) = omega (arith, length-append front (name ∷ value ∷ []), e) in (
      ap (slice_get (front ++ name ∷ value ∷ rest)) (sym e) ∙ get_after front name (value ∷ rest),
      subst (λ (p : List Const). HasNames p (index + 1) vars) same (names_from (front ++ name ∷ value ∷ []) (index + 1) vars count),
    )

pub names_stand : (vars : List Var) → HasNames (head ++ values_from 0 vars) 0 vars
names_stand vars = names_from head 0 vars refl

-- ---- the pool

name_fits : (index : ℕ) → index < 16 → FitsConst (constants.Utf8 (variable_name index))
name_fits index few =
    let text = entries.variable_text index (omega arith) in
    (text.few, text.each)

values_fit : (index : ℕ) (vars : List Var) → index + length vars ≤ 16 → AllByRecursion (λ (v : Var). FitsSigned w32 v.first) vars → AllByRecursion FitsConst (values_from index vars)
values_fit index [] few h = tt
values_fit index (var ∷ vars) few h = (name_fits index (omega arith), (h.0, values_fit (index + 1) vars (omega arith) h.1))

values_count : (index : ℕ) (vars : List Var) → length (values_from index vars) ≡ 2 * length vars
values_count index [] = refl
values_count index (var ∷ vars) = omega (arith, values_count (index + 1) vars)

values_seconds : (index : ℕ) (vars : List Var) → HasSeconds false (values_from index vars)
values_seconds index [] = refl
values_seconds index (var ∷ vars) = (refl, (refl, values_seconds (index + 1) vars))

values_named : (pool : List Const) (index : ℕ) (vars : List Var) → AllByRecursion (IsNamed pool) (values_from index vars)
values_named pool index [] = tt
values_named pool index (var ∷ vars) = (tt, (tt, values_named pool (index + 1) vars))

-- after the constants that each such class has
module _ (rest : List Const) where
  head_fits : AllByRecursion FitsConst rest → AllByRecursion FitsConst (head ++ rest)
  head_fits h = (
    tt,
    (
      (omega arith, entries.text_bytes state_name refl),
      (
        omega arith,
        (
          (omega arith, entries.text_bytes (codes "java/lang/Object") refl),
          (
            omega arith,
            ((omega arith, entries.text_bytes (codes "ConstantValue") refl), ((omega arith, entries.text_bytes (codes "I") refl), ((omega arith, entries.text_bytes (codes "Z") refl), h))),
          ),
        ),
      ),
    ),
  )

  seconds : HasSeconds false rest → HasSeconds true (head ++ rest)
  seconds h = (refl, (refl, (refl, (refl, (refl, (refl, (refl, (refl, h))))))))

  named : AllByRecursion (IsNamed (head ++ rest)) rest → AllByRecursion (IsNamed (head ++ rest)) (head ++ rest)
  unfolding names
  named h = (tt, (tt, (refl, (tt, (refl, (tt, (tt, (tt, h))))))))

  -- ---- the fields

  kind_named : (is_bool : Bool) → names kinds.Utf8 (head ++ rest) (kind_text is_bool) ≡ true
  unfolding names
  kind_named true = refl
  kind_named false = refl

  kind_few : (is_bool : Bool) → kind_text is_bool < 8
  kind_few true = omega arith
  kind_few false = omega arith

  value_named : names kinds.Utf8 (head ++ rest) 5 ≡ true
  unfolding names
  value_named = refl

  this_named : names kinds.Class (head ++ rest) 2 ≡ true
  unfolding names
  this_named = refl

  super_named : names kinds.Class (head ++ rest) 4 ≡ true
  unfolding names
  super_named = refl

  name_named : (index : ℕ) → slice_get (head ++ rest) (variable_text index) ≡ Some (constants.Utf8 (variable_name index)) → names kinds.Utf8 (head ++ rest) (variable_text index) ≡ true
  unfolding names
  name_named index e = ap (is_one_of kinds.Utf8) e

  field_fits : (index : ℕ) (var : Var) → index < 16 → slice_get (head ++ rest) (variable_text index) ≡ Some (constants.Utf8 (variable_name index))
      → FitsMember (head ++ rest) false (field index var)
  field_fits index var few there =
      let kind = kind_few var.is_bool in
      record {
        flags = omega arith;
        name = record { fits = omega arith; named = name_named index there };
        desc = record { fits = omega (arith, kind); named = kind_named var.is_bool };
        attrs = record {
          count = omega arith;
          each = ((refl, record { name = record { fits = omega arith; named = value_named }; bytes = omega (arith, length-bytes_high_first 2 (variable_text index + 1)) }), tt);
        };
      }

  fields_fit : (index : ℕ) (vars : List Var) → index + length vars ≤ 16 → HasNames (head ++ rest) index vars → AllByRecursion (FitsMember (head ++ rest) false) (fields_from index vars)
  fields_fit index [] few h = tt
  fields_fit index (var ∷ vars) few h = (field_fits index var (omega arith) h.0, fields_fit (index + 1) vars (omega arith) h.1)

fields_count : (index : ℕ) (vars : List Var) → length (fields_from index vars) ≡ length vars
fields_count index [] = refl
fields_count index (var ∷ vars) = omega (arith, fields_count (index + 1) vars)

pub state_fits : (vars : List Var) → length vars ≤ 16 → AllByRecursion (λ (v : Var). FitsSigned w32 v.first) vars → IsEncodable (state_file vars)
state_fits vars few h =
    let values = values_from 0 vars in
    let count = values_count 0 vars in
    record {
      minor = omega arith;
      pool = record {
        count = omega (arith, count);
        each = head_fits values (values_fit 0 vars (omega arith) h);
        seconds = seconds values (values_seconds 0 vars);
        named = named values (values_named (head ++ values) 0 vars);
      };
      flags = omega arith;
      this_class = record { fits = omega arith; named = this_named values };
      super_class = record { fits = omega arith; named = super_named values };
      interfaces = record { count = omega arith; each = tt };
      fields = record { count = omega (arith, fields_count 0 vars); each = fields_fit values 0 vars (omega arith) (names_stand vars) };
      methods = record { count = omega arith; each = tt };
      attrs = record { count = omega arith; each = tt };
    }
