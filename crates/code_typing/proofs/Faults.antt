-- A program has no first place at which its typing fails exactly where it fails at none.
use Rattle.std.proofs.Common.{◌≡◌, ℕ, zero, suc, ◌+◌, ◌-◌, ◌<◌, true, false, List, [], ◌∷◌, length, take, drop, Option, Some, None, refl, sym, subst, inl, inr, arith}
use Rattle.std.specs.Prelude.{slice_get}
use Rattle.cert_format.specs.declared.typing.Typing.{Typing}
use Rattle.bytecode_model.specs.declared.program.LinkedClass.{LinkedClass}
use Rattle.bytecode_model.specs.declared.program.Method.{Method}
use Rattle.bytecode_model.specs.declared.program.Program.{Program}
use Rattle.bytecode_model.specs.Rules.{Frames}
use Rattle.bytecode_model.specs.Layout.{has_code, coded}
use Rattle.code_typing.specs.First.{first_row, method_fault, methods_fault, classes_fault, typing_fault}
use Rattle.bytecode_model.specs.Typed.{IsTyped, row_in, row_of_method, list_at, frames_in, frames_told}
use Rattle.std.proofs.lemmas.Bool.{cases_Bool, cases_lt, ltb-false}
use Rattle.std.proofs.lemmas.Option.{slice_get_past}
use Rattle.frame_types.proofs.Choices.{neither, both_none, map_none, some_is, and_then_none, of_both, of_other}

-- ---- a method

row_none : (row : ℕ → Option ℕ) (class method n at : ℕ) → first_row row class method n at ≡ None → (k : ℕ) → k < n → row (at + k) ≡ None
row_none row class method zero at e k less = absurd (omega arith)
row_none row class method (suc n) at e zero less =
    let h = neither _ (first_row row class method n (at + 1)) e in
    let same : at + 0 ≡ at = omega arith in
    rw same (map_none _ (row at) h.0)
row_none row class method (suc n) at e (suc k) less =
    let h = neither _ (first_row row class method n (at + 1)) e in
    let same : at + suc k ≡ (at + 1) + k = omega arith in
    rw same (row_none row class method n (at + 1) h.1 k (omega arith))

none_row : (row : ℕ → Option ℕ) (class method n at : ℕ) → ((k : ℕ) → row k ≡ None) → first_row row class method n at ≡ None
none_row row class method zero at h = refl
none_row row class method (suc n) at h = rw (h at) (none_row row class method n (at + 1) h)

-- with i of n rows after, the next one
pub row_more : (row : ℕ → Option ℕ) (class method n i : ℕ) → i < n → row i ≡ None → first_row row class method (n - i) i ≡ first_row row class method (n - (i + 1)) (i + 1)
row_more row class method n i less e =
    let k : n - i ≡ suc (n - (i + 1)) = omega arith in
    rw (k, e) refl

pub row_found : (row : ℕ → Option ℕ) (class method n i rule : ℕ) → i < n → row i ≡ Some rule
    → first_row row class method (n - i) i ≡ Some (record { class = class; method = method; at = i; rule = rule })
row_found row class method n i rule less e =
    let k : n - i ≡ suc (n - (i + 1)) = omega arith in
    rw (k, e) refl

-- No row of a method fails.
abbrev pub MethodTyped : Program → ℕ → LinkedClass → Method → Frames → Type 0
MethodTyped program own class m frames = (at : ℕ) → row_in program own class m frames at ≡ None

beyond : (program : Program) (own : ℕ) (class : LinkedClass) (m : Method) (frames : Frames) (at : ℕ) → slice_get m.insns at ≡ None → row_in program own class m frames at ≡ None
beyond program own class m frames at e = rw e refl

method_typed : (program : Program) (own : ℕ) (class : LinkedClass) (m : Method) (frames : Frames) (index : ℕ)
    → method_fault program own class m frames index ≡ None → MethodTyped program own class m frames
method_typed program own class m frames index e at =
    elim (cases_lt at (length m.insns)) [
      | inl less ↦
          let same : 0 + at ≡ at = omega arith in
          subst (λ (n : ℕ). row_in program own class m frames n ≡ None) same (row_none (row_in program own class m frames) own index (length m.insns) 0 e at less)
      | inr more ↦ beyond program own class m frames at (slice_get_past m.insns at more)
    ]

typed_method : (program : Program) (own : ℕ) (class : LinkedClass) (m : Method) (frames : Frames) (index : ℕ)
    → MethodTyped program own class m frames → method_fault program own class m frames index ≡ None
typed_method program own class m frames index h = none_row (row_in program own class m frames) own index (length m.insns) 0 h

-- ---- methods

after_at : {A : Type 0} (told : List (List A)) (i : ℕ) → list_at told (suc i) ≡ list_at (drop 1 told) i
after_at [] i = refl
after_at (x ∷ told) i = refl

-- the frames of a method after one with code, and after one without
with_code : (m : Method) (methods : List Method) (told : List Frames) (k : ℕ) → has_code m ≡ true → frames_in (m ∷ methods) told (suc k) ≡ frames_in methods (drop 1 told) k
with_code m methods told k e = rw e (after_at told (length (coded (take k methods))))

without_code : (m : Method) (methods : List Method) (told : List Frames) (k : ℕ) → has_code m ≡ false → frames_in (m ∷ methods) told (suc k) ≡ frames_in methods told k
without_code m methods told k e = rw e refl

-- A method without code has no row.
bare : (program : Program) (own : ℕ) (class : LinkedClass) (m : Method) (frames : Frames) → has_code m ≡ false → MethodTyped program own class m frames
bare program own class m frames e at = beyond program own class m frames at (slice_get_past m.insns at (omega (arith, ltb-false 0 (length m.insns) e)))

abbrev pub MethodsTyped : Program → ℕ → LinkedClass → List Method → List Frames → Type 0
MethodsTyped program own class methods told =
    (k : ℕ) (m : Method) → slice_get methods k ≡ Some m → MethodTyped program own class m (frames_in methods told k)

module _ (program : Program) (own : ℕ) (class : LinkedClass) where
  methods_typed : (methods : List Method) (told : List Frames) (index : ℕ) → methods_fault program own class index methods told ≡ None → MethodsTyped program own class methods told
  methods_typed [] told index e k n s = absurd cc
  methods_typed (m ∷ methods) told index e zero n s =
      let same = some_is m n s in
      elim (cases_Bool (has_code m)) [
        | inl coded' ↦
            let h = of_both (has_code m) _ _ _ e coded' in
            subst (λ (x : Method). MethodTyped program own class x (list_at told 0)) same (method_typed program own class m (list_at told 0) index h.0)
        | inr bare' ↦ subst (λ (x : Method). MethodTyped program own class x (list_at told 0)) same (bare program own class m (list_at told 0) bare')
      ]
  methods_typed (m ∷ methods) told index e (suc k) n s =
      elim (cases_Bool (has_code m)) [
        | inl coded' ↦
            let h = of_both (has_code m) _ _ _ e coded' in
            subst (λ (f : Frames). MethodTyped program own class n f) (sym (with_code m methods told k coded')) (methods_typed methods (drop 1 told) (index + 1) h.1 k n s)
        | inr bare' ↦
            let h = of_other (has_code m) _ _ e bare' in
            subst (λ (f : Frames). MethodTyped program own class n f) (sym (without_code m methods told k bare')) (methods_typed methods told (index + 1) h k n s)
      ]

  typed_methods : (methods : List Method) (told : List Frames) (index : ℕ) → MethodsTyped program own class methods told → methods_fault program own class index methods told ≡ None
  typed_methods [] told index h = refl
  typed_methods (m ∷ methods) told index h =
      elim (cases_Bool (has_code m)) [
        | inl coded' ↦
            rw coded'
            (both_none _ _ (typed_method program own class m (list_at told 0) index (h 0 m refl))
            (typed_methods methods (drop 1 told) (index + 1)
            (λ k n s. subst (λ (f : Frames). MethodTyped program own class n f) (with_code m methods told k coded') (h (suc k) n s))))
        | inr bare' ↦
            rw bare'
            (typed_methods methods told (index + 1)
            (λ k n s. subst (λ (f : Frames). MethodTyped program own class n f) (without_code m methods told k bare') (h (suc k) n s)))
      ]

-- ---- classes

abbrev pub ClassesTyped : Program → ℕ → List LinkedClass → List (List Frames) → Type 0
ClassesTyped program own classes told =
    (k : ℕ) (c : LinkedClass) → slice_get classes k ≡ Some c → MethodsTyped program (own + k) c c.methods (list_at told k)

module _ (program : Program) where
  classes_typed : (own : ℕ) (classes : List LinkedClass) (told : List (List Frames)) → classes_fault program own classes told ≡ None → ClassesTyped program own classes told
  classes_typed own [] told e k c s = absurd cc
  classes_typed own (first ∷ classes) told e zero c s =
      let h = neither _ _ e in
      let same = some_is first c s in
      let at : own + 0 ≡ own = omega arith in
      subst (λ (n : ℕ). MethodsTyped program n c c.methods (list_at told 0)) (sym at)
      (subst (λ (x : LinkedClass). MethodsTyped program own x x.methods (list_at told 0)) same (methods_typed program own first first.methods (list_at told 0) 0 h.0))
  classes_typed own (first ∷ classes) told e (suc k) c s =
      let h = neither _ _ e in
      let at : own + suc k ≡ (own + 1) + k = omega arith in
      subst (λ (n : ℕ). MethodsTyped program n c c.methods (list_at told (suc k))) (sym at)
      (subst (λ (f : List Frames). MethodsTyped program ((own + 1) + k) c c.methods f) (sym (after_at told k)) (classes_typed (own + 1) classes (drop 1 told) h.1 k c s))

  typed_classes : (own : ℕ) (classes : List LinkedClass) (told : List (List Frames)) → ClassesTyped program own classes told → classes_fault program own classes told ≡ None
  typed_classes own [] told h = refl
  typed_classes own (first ∷ classes) told h =
      let zero_at : own + 0 ≡ own = omega arith in
      both_none _ _ (typed_methods program own first first.methods (list_at told 0) 0 (subst (λ (n : ℕ). MethodsTyped program n first first.methods (list_at told 0)) zero_at (h 0 first refl)))
      (typed_classes (own + 1) classes (drop 1 told)
      (λ k c s.
      let at : own + suc k ≡ (own + 1) + k = omega arith in
      subst (λ (n : ℕ). MethodsTyped program n c c.methods (list_at (drop 1 told) k)) at
      (subst (λ (f : List Frames). MethodsTyped program (own + suc k) c c.methods f) (after_at told k) (h (suc k) c s))))

-- ---- a program

abbrev of_program : Program → Typing → ℕ → LinkedClass → Type 0
of_program program typing class c = MethodsTyped program class c c.methods (frames_told typing class)

pub typed_of : (program : Program) (typing : Typing) → typing_fault program typing ≡ None → IsTyped program typing
typed_of program typing e class method at =
    and_then_none (λ (c : LinkedClass). row_of_method program typing class c method at) (slice_get program.classes class)
    (λ c there.
    let same : 0 + class ≡ class = omega arith in
    let h : of_program program typing class c =
    subst (λ (n : ℕ). MethodsTyped program n c c.methods (frames_told typing class)) same (classes_typed program 0 program.classes typing.frames e class c there) in
    and_then_none (λ (m : Method). row_in program class c m (frames_in c.methods (frames_told typing class) method) at) (slice_get c.methods method)
    (λ m is. h method m is at))

pub none_of : (program : Program) (typing : Typing) → IsTyped program typing → typing_fault program typing ≡ None
none_of program typing h =
    typed_classes program 0 program.classes typing.frames
    (λ class c there.
    let same : 0 + class ≡ class = omega arith in
    subst (λ (n : ℕ). MethodsTyped program n c c.methods (frames_told typing class)) (sym same)
    (λ method m is at.
    let row = h class method at in
    let of_class : row_of_method program typing class c method at ≡ None = rw there at row in
    rw is at of_class))
