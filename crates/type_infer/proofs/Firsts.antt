-- The first method without a typing, and the least typing, where the frames that are told are solutions.
use Rattle.std.proofs.Common.{◌≡◌, ◌⊎◌, ℕ, zero, suc, ◌+◌, ◌<◌, ◌≤◌, true, false, List, [], ◌∷◌, length, take, drop, Option, Some, None, refl, sym, ap, subst, ◌∙◌, inl, inr, arith}
use Rattle.std.specs.Prelude.{slice_get, option_map}
use Rattle.std.specs.List.{AllByRecursion}
use Rattle.std.specs.Option.{option_or}
use Rattle.std.proofs.lemmas.Bool.{cases_Bool, ltb-true, ltb-false, lt-ltb}
use Rattle.cert_format.specs.declared.typing.Typing.{Typing}
use Rattle.bytecode_model.specs.declared.program.LinkedClass.{LinkedClass}
use Rattle.bytecode_model.specs.declared.program.Method.{Method}
use Rattle.bytecode_model.specs.declared.program.Program.{Program}
use Rattle.bytecode_model.specs.Sound.{IsSound, IsSoundClass, IsSoundMethod}
use Rattle.bytecode_model.specs.Order.{IsInOrder}
use Rattle.code_typing.specs.declared.fault.TypeFault.{TypeFault}
use Rattle.bytecode_model.specs.Rules.{Frames}
use Rattle.bytecode_model.specs.Layout.{has_code, coded}
use Rattle.code_typing.specs.First.{first_row, method_fault, methods_fault, classes_fault, typing_fault}
use Rattle.bytecode_model.specs.Typed.{IsTyped, row_in, list_at, frames_in, frames_told}
use Rattle.type_infer.specs.declared.fault.InferFault.{InferFault}
use Rattle.type_infer.specs.declared.fault.InferFault.TheVariants as faults
use Rattle.type_infer.specs.Solving.{IsSolved, MethodsAreSolved, ClassesAreSolved, scope_of}
use Rattle.type_infer.specs.Untyped.{AreMet, CanBeMet, CannotBeMet, CannotBeMetAt, AreMetBefore, HasPlace, FirstUntyped, IsTypable, IsUntypable, IsLeast}
use Rattle.type_infer.proofs.Lists.{all_at}

some_one : {A : Type 0} (x y : A) → ◌≡◌ {A = Option A} (Some x) (Some y) → x ≡ y
some_one x y e = cc

none_of : {A : Type 0} (a b : Option A) → option_or a b ≡ None → (a ≡ None) × (b ≡ None)
none_of None b e = (refl, e)
none_of (Some x) b e = absurd cc

first_of : {A : Type 0} (a b : Option A) (f : A) → option_or a b ≡ Some f → (a ≡ Some f) ⊎ ((a ≡ None) × (b ≡ Some f))
first_of None b f e = inr (refl, e)
first_of (Some x) b f e = inl e

-- ---- the rows of a method

fault_none : (class method at : ℕ) (o : Option ℕ) → option_map {U = TypeFault} (λ (rule : ℕ). record { class = class; method = method; at = at; rule = rule }) o ≡ None → o ≡ None
fault_none class method at None e = refl
fault_none class method at (Some rule) e = absurd cc

rows_none : (row : ℕ → Option ℕ) (class method n at : ℕ) → first_row row class method n at ≡ None → (k : ℕ) → k < n → row (at + k) ≡ None
rows_none row class method zero at e k h = absurd (omega arith)
rows_none row class method (suc n) at e zero h =
    let here = fault_none class method at (row at) (none_of _ (first_row row class method n (at + 1)) e).0 in
    subst (λ (i : ℕ). row i ≡ None) (omega arith) here
rows_none row class method (suc n) at e (suc k) h =
    let later = rows_none row class method n (at + 1) (none_of _ (first_row row class method n (at + 1)) e).1 k (omega arith) in
    subst (λ (i : ℕ). row i ≡ None) (omega arith) later

none_from : (row : ℕ → Option ℕ) (class method n at : ℕ) → ((k : ℕ) → k < n → row (at + k) ≡ None) → first_row row class method n at ≡ None
none_from row class method zero at h = refl
none_from row class method (suc n) at h =
    let here : row at ≡ None = subst (λ (i : ℕ). row i ≡ None) (omega arith) (h 0 (omega arith)) in
    let later = none_from row class method n (at + 1) (λ k within. subst (λ (i : ℕ). row i ≡ None) (omega arith) (h (suc k) (omega arith))) in
    rw here later

module _ (program : Program) (order : IsInOrder program) where
  -- ---- the methods of a class

  module _ (own : ℕ) (class : LinkedClass) where
    Can : Method → Type 0
    Can m = CanBeMet program own class m (length m.insns)

    met_from : (m : Method) (frames : Frames) (index : ℕ) → method_fault program own class m frames index ≡ None → AreMet program own class m (length m.insns) frames
    met_from m frames index e at within =
        subst (λ (i : ℕ). row_in program own class m frames i ≡ None) (omega arith) (rows_none (row_in program own class m frames) own index (length m.insns) 0 e at within)

    without_code : (m : Method) → has_code m ≡ false → CanBeMet program own class m (length m.insns)
    without_code m e =
        let none : length m.insns ≤ 0 = ltb-false 0 (length m.insns) e in
        ([], λ at within. absurd (omega arith))

    cannot_from : (m : Method) (frames : Frames) (index : ℕ) (f : TypeFault) → IsSoundMethod m → has_code m ≡ true → IsSolved (scope_of program own class m) (length m.insns) frames
        → method_fault program own class m frames index ≡ Some f → CannotBeMet program own class m (length m.insns)
    cannot_from m frames index f sound code solved e (above, met) =
        let some : 0 < length m.insns = ltb-true 0 (length m.insns) code in
        let s = solved above (record { ready = record { order = order; sound = sound }; some = some; met = met }) in
        let none = none_from (row_in program own class m frames) own index (length m.insns) 0 (λ k within. subst (λ (i : ℕ). row_in program own class m frames i ≡ None) (omega arith) (s.met k within)) in
        absurd cc

    here_or : (first : Method) (methods : List Method) (j : ℕ) (m : Method) → slice_get (first ∷ methods) j ≡ Some m → CanBeMet program own class first (length first.insns)
        → ((k : ℕ) (n : Method) → slice_get methods k ≡ Some n → CanBeMet program own class n (length n.insns)) → CanBeMet program own class m (length m.insns)
    here_or first methods zero m is here later = subst (λ (n : Method). CanBeMet program own class n (length n.insns)) (some_one first m is) here
    here_or first methods (suc j) m is here later = later j m is

    all_can : (methods : List Method) (told : List Frames) (index : ℕ) → methods_fault program own class index methods told ≡ None → (j : ℕ) (m : Method) → slice_get methods j ≡ Some m
        → CanBeMet program own class m (length m.insns)
    all_can [] told index e j m is = absurd cc
    all_can (first ∷ methods) told index e j m is =
        elim (cases_Bool (has_code first)) [
          | inl code ↦
              let h : option_or (method_fault program own class first (list_at told 0) index) (methods_fault program own class (index + 1) methods (drop 1 told)) ≡ None = rw code at e in
              let parts = none_of _ _ h in
              here_or first methods j m is (list_at told 0, met_from first (list_at told 0) index parts.0) (all_can methods (drop 1 told) (index + 1) parts.1)
          | inr none ↦
              let h : methods_fault program own class (index + 1) methods told ≡ None = rw none at e in
              here_or first methods j m is (without_code first none) (all_can methods told (index + 1) h)
        ]

    pub record FailsFirst (index : ℕ) (methods : List Method) (f : TypeFault) : Type 0 where
      pub class_is : f.class ≡ own
      pub place : ℕ
      pub at : f.method ≡ index + place
      pub method : Method
      pub there : slice_get methods place ≡ Some method
      pub cannot : CannotBeMet program own class method (length method.insns)
      pub earlier : (j : ℕ) (m : Method) → j < place → slice_get methods j ≡ Some m → CanBeMet program own class m (length m.insns)

    before_or : (first : Method) (methods : List Method) (place j : ℕ) (m : Method) → j < suc place → slice_get (first ∷ methods) j ≡ Some m → CanBeMet program own class first (length first.insns)
        → ((k : ℕ) (n : Method) → k < place → slice_get methods k ≡ Some n → CanBeMet program own class n (length n.insns)) → CanBeMet program own class m (length m.insns)
    before_or first methods place zero m within is here later = subst (λ (n : Method). CanBeMet program own class n (length n.insns)) (some_one first m is) here
    before_or first methods place (suc j) m within is here later = later j m (omega arith) is

    later_fails : (first : Method) (methods : List Method) (index : ℕ) (f : TypeFault) → CanBeMet program own class first (length first.insns) → FailsFirst (index + 1) methods f
        → FailsFirst index (first ∷ methods) f
    later_fails first methods index f here r = record {
      class_is = r.class_is;
      place = suc r.place;
      at = r.at ∙ omega arith;
      method = r.method;
      there = r.there;
      cannot = r.cannot;
      earlier = λ j m within is. before_or first methods r.place j m within is here r.earlier;
    }

    fault_place : (index at : ℕ) (o : Option ℕ) (f : TypeFault) → option_map {U = TypeFault} (λ (rule : ℕ). record { class = own; method = index; at = at; rule = rule }) o ≡ Some f
        → (f.class ≡ own) × (f.method ≡ index)
    fault_place index at None f e = absurd cc
    fault_place index at (Some rule) f e =
        let g : TypeFault = record { class = own; method = index; at = at; rule = rule } in
        let same : g ≡ f = some_one g f e in
        (ap (λ (x : TypeFault). x.class) (sym same), ap (λ (x : TypeFault). x.method) (sym same))

    row_place : (row : ℕ → Option ℕ) (index n at : ℕ) (f : TypeFault) → first_row row own index n at ≡ Some f → (f.class ≡ own) × (f.method ≡ index)
    row_place row index zero at f e = absurd cc
    row_place row index (suc n) at f e =
        elim (first_of _ (first_row row own index n (at + 1)) f e) [
          | inl is ↦ fault_place index at (row at) f is
          | inr (none, later) ↦ row_place row index n (at + 1) f later
        ]

    pub method_fails : (methods : List Method) (told : List Frames) (index : ℕ) (f : TypeFault) → AllByRecursion IsSoundMethod methods → MethodsAreSolved program own class methods told
        → methods_fault program own class index methods told ≡ Some f → FailsFirst index methods f
    method_fails [] told index f sound solved e = absurd cc
    method_fails (first ∷ methods) told index f sound solved e =
        elim (cases_Bool (has_code first)) [
          | inl code ↦
              let h : option_or (method_fault program own class first (list_at told 0) index) (methods_fault program own class (index + 1) methods (drop 1 told)) ≡ Some f = rw code at e in
              let s = solved.0 code in
              elim (first_of _ _ f h) [
                | inl fails ↦
                    let p = row_place (row_in program own class first (list_at told 0)) index (length first.insns) 0 f fails in
                    record {
                      class_is = p.0;
                      place = 0;
                      at = p.1 ∙ omega arith;
                      method = first;
                      there = refl;
                      cannot = cannot_from first (list_at told 0) index f sound.0 code s.0 fails;
                      earlier = λ j m within is. absurd (omega arith);
                    }
                | inr (none, later) ↦
                    later_fails first methods index f (list_at told 0, met_from first (list_at told 0) index none) (method_fails methods (drop 1 told) (index + 1) f sound.1 s.1 later)
              ]
          | inr none ↦
              let h : methods_fault program own class (index + 1) methods told ≡ Some f = rw none at e in
              later_fails first methods index f (without_code first none) (method_fails methods told (index + 1) f sound.1 (solved.1 none) h)
        ]

  -- ---- the classes

  abbrev CanBefore : ℕ → LinkedClass → Type 0
  CanBefore own class = (j : ℕ) (m : Method) → slice_get class.methods j ≡ Some m → CanBeMet program own class m (length m.insns)

  pub record ClassFails (own : ℕ) (classes : List LinkedClass) (f : TypeFault) : Type 0 where
    pub place : ℕ
    pub at : f.class ≡ own + place
    pub class : LinkedClass
    pub there : slice_get classes place ≡ Some class
    pub first : FailsFirst (own + place) class 0 class.methods f
    pub earlier : (k : ℕ) (c : LinkedClass) → k < place → slice_get classes k ≡ Some c → CanBefore (own + k) c

  class_before : (own : ℕ) (head : LinkedClass) (classes : List LinkedClass) (place k : ℕ) (c : LinkedClass) → k < suc place → slice_get (head ∷ classes) k ≡ Some c → CanBefore own head
      → ((i : ℕ) (d : LinkedClass) → i < place → slice_get classes i ≡ Some d → CanBefore (own + 1 + i) d) → CanBefore (own + k) c
  class_before own head classes place zero c within is here later =
      let same : head ≡ c = some_one head c is in
      subst (λ (n : ℕ). CanBefore n c) (omega arith) (subst (CanBefore own) same here)
  class_before own head classes place (suc k) c within is here later = subst (λ (n : ℕ). CanBefore n c) (omega arith) (later k c (omega arith) is)

  class_later : (own : ℕ) (head : LinkedClass) (classes : List LinkedClass) (f : TypeFault) → CanBefore own head → ClassFails (own + 1) classes f → ClassFails own (head ∷ classes) f
  class_later own head classes f here r = record {
    place = suc r.place;
    at = r.at ∙ omega arith;
    class = r.class;
    there = r.there;
    first = subst (λ (n : ℕ). FailsFirst n r.class 0 r.class.methods f) (omega arith) r.first;
    earlier = λ k c within is. class_before own head classes r.place k c within is here r.earlier;
  }

  class_fails : (own : ℕ) (classes : List LinkedClass) (told : List (List Frames)) (f : TypeFault) → AllByRecursion IsSoundClass classes → ClassesAreSolved program own classes told
      → classes_fault program own classes told ≡ Some f → ClassFails own classes f
  class_fails own [] told f sound solved e = absurd cc
  class_fails own (head ∷ classes) told f sound solved e =
      elim (first_of (methods_fault program own head 0 head.methods (list_at told 0)) (classes_fault program (own + 1) classes (drop 1 told)) f e) [
        | inl fails ↦
            let r = method_fails own head head.methods (list_at told 0) 0 f sound.0.methods solved.0 fails in
            record {
              place = 0;
              at = r.class_is ∙ omega arith;
              class = head;
              there = refl;
              first = subst (λ (n : ℕ). FailsFirst n head 0 head.methods f) (omega arith) r;
              earlier = λ k c within is. absurd (omega arith);
            }
        | inr (none, later) ↦
            class_later own head classes f (λ j m is. all_can own head head.methods (list_at told 0) 0 none j m is) (class_fails (own + 1) classes (drop 1 told) f sound.1 solved.1 later)
      ]

  -- ---- the program

  module _ (sound : IsSound program) (typing : Typing) (solved : ClassesAreSolved program 0 program.classes typing.frames) (f : TypeFault) (e : typing_fault program typing ≡ Some f) where
    fails : ClassFails 0 program.classes f
    fails = class_fails 0 program.classes typing.frames f sound.classes solved e

    class_at : (c : LinkedClass) → slice_get program.classes f.class ≡ Some c → fails.class ≡ c
    class_at c is =
        let at : f.class ≡ fails.place = fails.at ∙ omega arith in
        some_one fails.class c (sym fails.there ∙ subst (λ (n : ℕ). slice_get program.classes n ≡ Some c) at is)

    pub cannot_be_met : CannotBeMetAt program f
    cannot_be_met c m class there =
        let same = class_at c class in
        let at : f.method ≡ fails.first.place = fails.first.at ∙ omega arith in
        let here : slice_get fails.class.methods fails.first.place ≡ Some m =
        subst (λ (d : LinkedClass). slice_get d.methods fails.first.place ≡ Some m) (sym same) (subst (λ (n : ℕ). slice_get c.methods n ≡ Some m) at there) in
        let method : fails.first.method ≡ m = some_one fails.first.method m (sym fails.first.there ∙ here) in
        let cannot : CannotBeMet program (0 + fails.place) fails.class m (length m.insns) =
        subst (λ (n : Method). CannotBeMet program (0 + fails.place) fails.class n (length n.insns)) method fails.first.cannot in
        subst (λ (n : ℕ). CannotBeMet program n c m (length m.insns)) (sym fails.at) (subst (λ (d : LinkedClass). CannotBeMet program (0 + fails.place) d m (length m.insns)) same cannot)

    pub are_met_before : AreMetBefore program f.class f.method
    are_met_before own index c m class there before =
        elim before [
          | inl earlier ↦
              let within : own < fails.place = omega (arith, fails.at) in
              subst (λ (n : ℕ). CanBeMet program n c m (length m.insns)) (omega arith) (fails.earlier own c within class index m there)
          | inr (is, earlier) ↦
              let class' = subst (λ (n : ℕ). slice_get program.classes n ≡ Some c) is class in
              let same = class_at c class' in
              let there' : slice_get fails.class.methods index ≡ Some m = subst (λ (d : LinkedClass). slice_get d.methods index ≡ Some m) (sym same) there in
              let within : index < fails.first.place = omega (arith, fails.first.at) in
              let can = fails.first.earlier index m within there' in
              subst (λ (n : ℕ). CanBeMet program n c m (length m.insns)) (sym (is ∙ fails.at))
              (subst (λ (d : LinkedClass). CanBeMet program (0 + fails.place) d m (length m.insns)) same can)
        ]

  -- ---- typings

  pub typed_met : (other : Typing) → IsTyped program other → (class method : ℕ) (c : LinkedClass) (m : Method) → slice_get program.classes class ≡ Some c → slice_get c.methods method ≡ Some m
      → AreMet program class c m (length m.insns) (frames_in c.methods (frames_told other class) method)
  typed_met other typed class method c m is there at within = rw (is, there) at (typed class method at)

  pub untypable : (f : TypeFault) → CannotBeMetAt program f → (c : LinkedClass) (m : Method) → slice_get program.classes f.class ≡ Some c → slice_get c.methods f.method ≡ Some m → IsTypable program → ⊥
  untypable f cannot c m is there (other, typed) =
      cannot c m is there (frames_in c.methods (frames_told other f.class) f.method, typed_met other typed f.class f.method c m is there)

  pub untypable_at : (f : TypeFault) (g : InferFault) → HasPlace program f → CannotBeMetAt program f → FirstUntyped program g → IsUntypable program g
  untypable_at f (faults.Untyped class method at) (c, (m, (is, there, some))) cannot first = untypable f cannot c m is there
  untypable_at f faults.Memory placed cannot first = tt

  list_later : {A : Type 0} (lists : List (List A)) (k : ℕ) → list_at (drop 1 lists) k ≡ list_at lists (suc k)
  list_later [] k = refl
  list_later (x ∷ lists) k = refl

  class_solved : (own : ℕ) (classes : List LinkedClass) (told : List (List Frames)) (k : ℕ) (c : LinkedClass) → ClassesAreSolved program own classes told → slice_get classes k ≡ Some c
      → MethodsAreSolved program (own + k) c c.methods (list_at told k)
  class_solved own [] told k c s is = absurd cc
  class_solved own (head ∷ classes) told zero c s is =
      let same : head ≡ c = some_one head c is in
      subst (λ (n : ℕ). MethodsAreSolved program n c c.methods (list_at told 0)) (omega arith)
      (subst (λ (d : LinkedClass). MethodsAreSolved program own d d.methods (list_at told 0)) same s.0)
  class_solved own (head ∷ classes) told (suc k) c s is =
      let later = class_solved (own + 1) classes (drop 1 told) k c s.1 is in
      subst (λ (n : ℕ). MethodsAreSolved program n c c.methods (list_at told (suc k))) (omega arith)
      (subst (λ (l : List Frames). MethodsAreSolved program (own + 1 + k) c c.methods l) (list_later told k) later)

  method_solved : (own : ℕ) (class : LinkedClass) (methods : List Method) (told : List Frames) (k : ℕ) (m : Method) → MethodsAreSolved program own class methods told → slice_get methods k ≡ Some m
      → has_code m ≡ true → IsSolved (scope_of program own class m) (length m.insns) (list_at told (length (coded (take k methods))))
  method_solved own class [] told k m s is code = absurd cc
  method_solved own class (head ∷ methods) told zero m s is code =
      let same : head ≡ m = some_one head m is in
      let here = (s.0 (subst (λ (n : Method). has_code n ≡ true) (sym same) code)).0 in
      subst (λ (n : Method). IsSolved (scope_of program own class n) (length n.insns) (list_at told 0)) same here
  method_solved own class (head ∷ methods) told (suc k) m s is code =
      elim (cases_Bool (has_code head)) [
        | inl first ↦
            let later = method_solved own class methods (drop 1 told) k m (s.0 first).1 is code in
            rw first (subst (IsSolved (scope_of program own class m) (length m.insns)) (list_later told (length (coded (take k methods)))) later)
        | inr none ↦ rw none (method_solved own class methods told k m (s.1 none) is code)
      ]

  pub least : IsSound program → (typing : Typing) → ClassesAreSolved program 0 program.classes typing.frames → IsLeast program typing
  least sound typing solved class method at c m above frame is there met within has =
      let some : 0 < length m.insns = omega arith in
      let code : has_code m ≡ true = lt-ltb 0 (length m.insns) some in
      let methods_solved = subst (λ (n : ℕ). MethodsAreSolved program n c c.methods (frames_told typing class)) (omega arith)
      (class_solved 0 program.classes typing.frames class c solved is) in
      let s = method_solved class c c.methods (frames_told typing class) method m methods_solved there code in
      let method_sound = all_at IsSoundMethod c.methods method m (all_at IsSoundClass program.classes class c sound.classes is).methods there in
      (s above (record { ready = record { order = order; sound = method_sound }; some = some; met = met })).least at frame within has

-- ---- nothing is told of no methods and of no classes

pub no_methods : (program : Program) (own : ℕ) (class : LinkedClass) (methods : List Method) (told : List Frames) → length methods < 1 → MethodsAreSolved program own class methods told
no_methods program own class [] told h = tt
no_methods program own class (m ∷ methods) told h = absurd (omega arith)

pub no_classes : (program : Program) (own : ℕ) (classes : List LinkedClass) (told : List (List Frames)) → length classes < 1 → ClassesAreSolved program own classes told
no_classes program own [] told h = tt
no_classes program own (c ∷ classes) told h = absurd (omega arith)
