-- The place that is told where the rules fail is one of the program.
use Rattle.std.proofs.Common.{◌≡◌, ℕ, zero, suc, ◌+◌, ◌<◌, List, [], ◌∷◌, ◌⊎◌, length, drop, Option, Some, None, refl, sym, ap, subst, ◌∙◌, inl, inr, arith}
use Rattle.std.specs.Prelude.{slice_get, option_map}
use Rattle.std.specs.Option.{option_or}
use Rattle.std.proofs.lemmas.Bool.{cases_Bool}
use Rattle.cert_format.specs.declared.typing.Typing.{Typing}
use Rattle.bytecode_model.specs.declared.program.LinkedClass.{LinkedClass}
use Rattle.bytecode_model.specs.declared.program.Method.{Method}
use Rattle.bytecode_model.specs.declared.program.Program.{Program}
use Rattle.code_typing.specs.declared.fault.TypeFault.{TypeFault}
use Rattle.bytecode_model.specs.Rules.{Frames}
use Rattle.bytecode_model.specs.Layout.{has_code}
use Rattle.code_typing.specs.First.{first_row, method_fault, methods_fault, classes_fault, typing_fault}
use Rattle.bytecode_model.specs.Typed.{row_in, list_at}
use Rattle.type_infer.specs.Untyped.{HasPlace}

either_some : {A : Type 0} (a b : Option A) (f : A) → option_or a b ≡ Some f → (a ≡ Some f) ⊎ (b ≡ Some f)
either_some None b f e = inr e
either_some (Some x) b f e = inl e

some_one : {A : Type 0} (x y : A) → ◌≡◌ {A = Option A} (Some x) (Some y) → x ≡ y
some_one x y e = cc

-- ---- a method

row_there : (class method at : ℕ) (o : Option ℕ) (f : TypeFault) → option_map (λ (rule : ℕ). record { class = class; method = method; at = at; rule = rule }) o ≡ Some f
    → (f.class ≡ class) × (f.method ≡ method)
row_there class method at None f e = absurd cc
row_there class method at (Some rule) f e =
    let g : TypeFault = record { class = class; method = method; at = at; rule = rule } in
    let same : g ≡ f = some_one g f e in
    (ap (λ (x : TypeFault). x.class) (sym same), ap (λ (x : TypeFault). x.method) (sym same))

row_told : (row : ℕ → Option ℕ) (class method n at : ℕ) (f : TypeFault) → first_row row class method n at ≡ Some f → (f.class ≡ class) × (f.method ≡ method) × (0 < n)
row_told row class method zero at f e = absurd cc
row_told row class method (suc n) at f e =
    elim (either_some _ (first_row row class method n (at + 1)) f e) [
      | inl is ↦ let h = row_there class method at (row at) f is in (h.0, h.1, omega arith)
      | inr later ↦ let h = row_told row class method n (at + 1) f later in (h.0, h.1, omega arith)
    ]

-- ---- methods and classes

module _ (program : Program) where
  abbrev MethodAmong : ℕ → ℕ → List Method → TypeFault → Type 0
  MethodAmong own index methods f =
      (f.class ≡ own) × ((k : ℕ) × ((m : Method) × ((f.method ≡ index + k) × (slice_get methods k ≡ Some m) × (0 < length m.insns))))

  later_method : (own index : ℕ) (first : Method) (methods : List Method) (f : TypeFault) → MethodAmong own (index + 1) methods f → MethodAmong own index (first ∷ methods) f
  later_method own index first methods f (of, (k, (m, (at, there, some)))) = (of, (suc k, (m, (at ∙ omega arith, there, some))))

  method_told : (own : ℕ) (class : LinkedClass) (index : ℕ) (methods : List Method) (told : List Frames) (f : TypeFault) → methods_fault program own class index methods told ≡ Some f
      → MethodAmong own index methods f
  method_told own class index [] told f e = absurd cc
  method_told own class index (m ∷ methods) told f e =
      elim (cases_Bool (has_code m)) [
        | inl is ↦
            let h : option_or (method_fault program own class m (list_at told 0) index) (methods_fault program own class (index + 1) methods (drop 1 told)) ≡ Some f = rw is at e in
            elim (either_some _ _ f h) [
              | inl here ↦
                  let row = row_told (row_in program own class m (list_at told 0)) own index (length m.insns) 0 f here in
                  (row.0, (0, (m, (row.1 ∙ omega arith, refl, row.2))))
              | inr later ↦ later_method own index m methods f (method_told own class (index + 1) methods (drop 1 told) f later)
            ]
        | inr fails ↦
            let h : methods_fault program own class (index + 1) methods told ≡ Some f = rw fails at e in
            later_method own index m methods f (method_told own class (index + 1) methods told f h)
      ]

  abbrev ClassAmong : ℕ → List LinkedClass → TypeFault → Type 0
  ClassAmong own classes f =
      (k : ℕ) × ((c : LinkedClass) × ((f.class ≡ own + k) × (slice_get classes k ≡ Some c) × ((m : Method) × ((slice_get c.methods f.method ≡ Some m) × (0 < length m.insns)))))

  of_class : (own : ℕ) (class : LinkedClass) (classes : List LinkedClass) (f : TypeFault) → MethodAmong own 0 class.methods f → ClassAmong own (class ∷ classes) f
  of_class own class classes f (of, (k, (m, (at, there, some)))) =
      let place : f.method ≡ k = at ∙ omega arith in
      (0, (class, (of ∙ omega arith, refl, (m, (subst (λ (n : ℕ). slice_get class.methods n ≡ Some m) (sym place) there, some)))))

  later_class : (own : ℕ) (class : LinkedClass) (classes : List LinkedClass) (f : TypeFault) → ClassAmong (own + 1) classes f → ClassAmong own (class ∷ classes) f
  later_class own class classes f (k, (c, (at, there, of))) = (suc k, (c, (at ∙ omega arith, there, of)))

  class_told : (own : ℕ) (classes : List LinkedClass) (told : List (List Frames)) (f : TypeFault) → classes_fault program own classes told ≡ Some f → ClassAmong own classes f
  class_told own [] told f e = absurd cc
  class_told own (class ∷ classes) told f e =
      elim (either_some _ _ f e) [
        | inl here ↦ of_class own class classes f (method_told own class 0 class.methods (list_at told 0) f here)
        | inr later ↦ later_class own class classes f (class_told (own + 1) classes (drop 1 told) f later)
      ]

  in_program : (f : TypeFault) → ClassAmong 0 program.classes f → HasPlace program f
  in_program f (k, (c, (at, there, (m, (of, some))))) =
      let place : f.class ≡ k = at ∙ omega arith in
      (c, (m, (subst (λ (n : ℕ). slice_get program.classes n ≡ Some c) (sym place) there, of, some)))

  pub fault_placed : (typing : Typing) (f : TypeFault) → typing_fault program typing ≡ Some f → HasPlace program f
  fault_placed typing f e = in_program f (class_told 0 program.classes typing.frames f e)
