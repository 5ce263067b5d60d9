-- What is thrown: no other type stands for it for which it stands.
use Rattle.std.proofs.Common.{◌≡◌, ℕ, true, false, List, length, sym, ap, subst, ◌∙◌, inl, inr}
use Rattle.std.specs.Prelude.{bytes_eq}
use Rattle.std.proofs.lemmas.Bool.{false≢true}
use Rattle.api_listing.specs.BuiltIn.{object, throwable}
use Rattle.bytecode_model.specs.declared.program.Program.{Program}
use Rattle.bytecode_model.specs.Classes.{classes_of, is_below, is_interface}
use Rattle.cert_format.specs.declared.typing.VType.{VType}
use Rattle.cert_format.specs.declared.typing.VType.TheVariants as types
use Rattle.bytecode_model.specs.Arrays.{is_array}
use Rattle.bytecode_model.specs.Assigning.{class_fits, array_fits, name_fits, assignable}
use Rattle.bytecode_model.specs.Order.{IsInOrder}
use Rattle.bytecode_model.proofs.Upwards.{either_of}
use Rattle.type_lattice.proofs.Orders.{Fit, equal, top, interface, under, seen, array_first, array_second}
use Rattle.bytecode_model.proofs.Ending.{one_of_both, unnamed_up}

module _ (program : Program) (order : IsInOrder program) (class : List ℕ) (thrown : is_below program class throwable ≡ true) where
  abbrev fuel : ℕ
  fuel = length (classes_of program)

  no_array : is_array class ≡ true → ⊥
  no_array is = unnamed_up (classes_of program) fuel class throwable (order.no_arrays class is) thrown

  not_object : (name : List ℕ) → name ≡ object → is_below program name throwable ≡ true → ⊥
  not_object name e f =
      let one : throwable ≡ object = order.top throwable (subst (λ (x : List ℕ). is_below program x throwable ≡ true) e f) in
      let differs : false ≡ true = ap (λ (x : List ℕ). bytes_eq x object) one in
      false≢true differs

  no_interface : is_interface program class ≡ true → ⊥
  no_interface e =
      elim (order.interfaces class throwable e thrown) [
        | inl is ↦ false≢true (sym order.thrown ∙ subst (λ (x : List ℕ). is_interface program x ≡ true) (sym is) e)
        | inr is ↦ false≢true (ap (λ (x : List ℕ). bytes_eq x object) is)
      ]

  one_class : (other : List ℕ) → Fit program class other → Fit program other class → other ≡ class
  one_class other (equal e) g = sym e
  one_class other f (equal e) = e
  one_class other f (top e) = absurd (not_object class e thrown)
  one_class other f (interface e) = absurd (no_interface e)
  one_class other (top e) (under g h) = e ∙ sym (order.top class (subst (λ (x : List ℕ). is_below program x class ≡ true) e h))
  one_class other (interface e) (under g h) =
      elim (order.interfaces other class e h) [
        | inl is ↦ sym is
        | inr is ↦ absurd (not_object class is thrown)
      ]
  one_class other (under e f) (under g h) = sym (one_of_both (classes_of program) fuel class other (order.ends class) f h)

  one_name : (other : List ℕ) → name_fits program class other ≡ true → name_fits program other class ≡ true → other ≡ class
  one_name other e f =
      elim (either_of (class_fits program class other) (array_fits program class other) e) [
        | inl one ↦
            elim (either_of (class_fits program other class) (array_fits program other class) f) [
              | inl two ↦ one_class other (seen program class other one) (seen program other class two)
              | inr two ↦ absurd (no_array (array_second program order other class two))
            ]
        | inr one ↦ absurd (no_array (array_first program order class other one))
      ]

  one_type : (t : VType) → assignable program (types.Ref class) t ≡ true → assignable program t (types.Ref class) ≡ true → t ≡ types.Ref class
  one_type types.Top e f = absurd cc
  one_type types.Int e f = absurd cc
  one_type types.Null e f = absurd cc
  one_type (types.Ref other) e f = ap (λ (name : List ℕ). types.Ref name) (one_name other e f)
  one_type types.UninitThis e f = absurd cc
  one_type (types.Uninit i) e f = absurd cc

pub thrown_alone : (program : Program) → IsInOrder program → (class : List ℕ) (t : VType) → is_below program class throwable ≡ true
    → assignable program (types.Ref class) t ≡ true → assignable program t (types.Ref class) ≡ true → t ≡ types.Ref class
thrown_alone program order class t thrown e f = one_type program order class thrown t e f
