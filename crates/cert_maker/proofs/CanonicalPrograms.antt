-- The canonical frames of a program: where they stand, and that it is typed by them.
use Rattle.std.proofs.Common.{◌≡◌, ℕ, zero, suc, Bool, true, false, cond, List, [], ◌∷◌, length, map, take, drop, Option, Some, None, refl, sym, ap, ◌∙◌, arith}
use Rattle.std.specs.Prelude.{◌&&◌, nat_lt, is_some, option_and_then, slice_get}
use Rattle.std.specs.Option.{option_map_or}
use Rattle.std.proofs.lemmas.Bool.{lt-ltb}
use Rattle.cert_format.specs.declared.typing.FrameType.{FrameType}
use Rattle.cert_format.specs.declared.typing.Typing.{Typing}
use Rattle.insn_codec.specs.declared.insn.Insn.{Insn}
use Rattle.bytecode_model.specs.declared.program.LinkedClass.{LinkedClass}
use Rattle.bytecode_model.specs.declared.program.Method.{Method}
use Rattle.bytecode_model.specs.declared.program.Program.{Program}
use Rattle.bytecode_model.specs.Rules.{Frames, frame_of, row_failing}
use Rattle.bytecode_model.specs.Layout.{IsLaidOut, coded, has_code}
use Rattle.bytecode_model.specs.Typed.{IsTyped, frames_in, frames_told, list_at, place_at, reached, reached_in, row_in, row_of_method}
use Rattle.cert_maker.specs.CanonicalIsTyped.{CanonicalIsTyped}
use Rattle.cert_maker.specs.Canonical.{canonical_classes, canonical_frame, canonical_methods, canonical}
use Rattle.cert_maker.proofs.CanonicalMethods.{frame_map, told_met}

-- ---- where frames stand

list_later : {A : Type 0} (lists : List (List A)) (n : ℕ) → list_at (drop 1 lists) n ≡ list_at lists (suc n)
list_later [] n = refl
list_later (x ∷ lists) n = refl

-- those of a method with code
method_at : (methods : List Method) (canonical : List Frames) (index : ℕ) (method : Method) → slice_get methods index ≡ Some method → has_code method ≡ true
    → list_at (canonical_methods methods canonical) (length (coded (take index methods))) ≡ map (canonical_frame method) (list_at canonical (length (coded (take index methods))))
method_at [] canonical index method there code = absurd cc
method_at (m ∷ methods) canonical zero method there code =
    let same : m ≡ method = cc in
    let has : has_code m ≡ true = ap has_code same ∙ code in
    rw (has, same) refl
method_at (m ∷ methods) canonical (suc index) method there code = by (has_code m) refl (λ later. method_at methods later index method there code)
  where
    by : (b : Bool) → has_code m ≡ b
        → ((later : List Frames) → list_at (canonical_methods methods later) (length (coded (take index methods))) ≡ map (canonical_frame method) (list_at later (length (coded (take index methods)))))
        → list_at (canonical_methods (m ∷ methods) canonical) (length (coded (take (suc index) (m ∷ methods)))) ≡ map (canonical_frame method) (list_at canonical (length (coded (take (suc index) (m ∷ methods)))))
    by true has rest = rw has (rest (drop 1 canonical) ∙ ap (map (canonical_frame method)) (list_later canonical (length (coded (take index methods)))))
    by false has rest = rw has (rest canonical)

class_at : (classes : List LinkedClass) (canonical : List (List Frames)) (own : ℕ) (class : LinkedClass) → slice_get classes own ≡ Some class
    → list_at (canonical_classes classes canonical) own ≡ canonical_methods class.methods (list_at canonical own)
class_at [] canonical own class there = absurd cc
class_at (c ∷ classes) canonical zero class there =
    let same : c ≡ class = cc in
    ap (λ (x : LinkedClass). canonical_methods x.methods (list_at canonical 0)) same
class_at (c ∷ classes) canonical (suc own) class there = class_at classes (drop 1 canonical) own class there ∙ ap (canonical_methods class.methods) (list_later canonical own)

module _ (program : Program) (typing : Typing) where
  pub frames_are : (own index : ℕ) (class : LinkedClass) (method : Method) → slice_get program.classes own ≡ Some class → slice_get class.methods index ≡ Some method → has_code method ≡ true
      → frames_in class.methods (frames_told (canonical program typing) own) index ≡ map (canonical_frame method) (frames_in class.methods (frames_told typing own) index)
  frames_are own index class method class_there there code =
      ap (λ (frames : List Frames). list_at frames (length (coded (take index class.methods)))) (class_at program.classes typing.frames own class class_there)
      ∙ method_at class.methods (frames_told typing own) index method there code

-- ---- shapes

abbrev sizes : List Method → List ℕ
sizes methods = map (λ (m : Method). length m.insns) (coded methods)

map_long : {A B : Type 0} (f : A → B) (list : List A) → length (map f list) ≡ length list
map_long f [] = refl
map_long f (x ∷ list) = ap suc (map_long f list)

methods_shaped : (methods : List Method) (canonical : List Frames) → map length canonical ≡ sizes methods → map length (canonical_methods methods canonical) ≡ sizes methods
methods_shaped [] canonical e = refl
methods_shaped (m ∷ methods) canonical e = by (has_code m) refl canonical e (λ later. methods_shaped methods later) where
  by : (b : Bool) → has_code m ≡ b → (canonical : List Frames) → map length canonical ≡ sizes (m ∷ methods)
      → ((later : List Frames) → map length later ≡ sizes methods → map length (canonical_methods methods later) ≡ sizes methods) → map length (canonical_methods (m ∷ methods) canonical) ≡ sizes (m ∷ methods)
  by false has canonical e rest = rw has (rest canonical (e ∙ ap (λ (b : Bool). map (λ (x : Method). length x.insns) (cond b (m ∷ coded methods) (coded methods))) has))
  by true has [] e rest =
      let wrong : [] ≡ length m.insns ∷ sizes methods = e ∙ ap (λ (b : Bool). map (λ (x : Method). length x.insns) (cond b (m ∷ coded methods) (coded methods))) has in
      absurd cc
  by true has (frames ∷ canonical) e rest =
      let is : length frames ∷ map length canonical ≡ length m.insns ∷ sizes methods = e ∙ ap (λ (b : Bool). map (λ (x : Method). length x.insns) (cond b (m ∷ coded methods) (coded methods))) has in
      let first : length frames ≡ length m.insns = cc in
      let others : map length canonical ≡ sizes methods = cc in
      rw (has, map_long (canonical_frame m) frames, first, rest canonical others) refl

abbrev class_sizes : List LinkedClass → List (List ℕ)
class_sizes classes = map (λ (c : LinkedClass). sizes c.methods) classes

classes_shaped : (classes : List LinkedClass) (canonical : List (List Frames)) → map (map length) canonical ≡ class_sizes classes → map (map length) (canonical_classes classes canonical) ≡ class_sizes classes
classes_shaped [] canonical e = refl
classes_shaped (c ∷ classes) [] e = absurd cc
classes_shaped (c ∷ classes) (frames ∷ canonical) e =
    let first : map length frames ≡ sizes c.methods = cc in
    let others : map (map length) canonical ≡ class_sizes classes = cc in
    rw (methods_shaped c.methods frames first, classes_shaped classes canonical others) refl

-- how many frames a method with code has
method_long : (methods : List Method) (canonical : List Frames) (index : ℕ) (method : Method) → map length canonical ≡ sizes methods → slice_get methods index ≡ Some method → has_code method ≡ true
    → length (list_at canonical (length (coded (take index methods)))) ≡ length method.insns
method_long [] canonical index method e there code = absurd cc
method_long (m ∷ methods) canonical index method e there code = by (has_code m) refl canonical index e there (λ later i is here. method_long methods later i method is here code) where
  by : (b : Bool) → has_code m ≡ b → (canonical : List Frames) (index : ℕ) → map length canonical ≡ sizes (m ∷ methods) → slice_get (m ∷ methods) index ≡ Some method
      → ((later : List Frames) (i : ℕ) → map length later ≡ sizes methods → slice_get methods i ≡ Some method → length (list_at later (length (coded (take i methods)))) ≡ length method.insns)
      → length (list_at canonical (length (coded (take index (m ∷ methods))))) ≡ length method.insns
  by false has canonical zero e there rest =
      let same : m ≡ method = cc in
      let wrong : false ≡ true = sym has ∙ ap has_code same ∙ code in
      absurd cc
  by false has canonical (suc index) e there rest =
      let is : map length canonical ≡ sizes methods = e ∙ ap (λ (b : Bool). map (λ (x : Method). length x.insns) (cond b (m ∷ coded methods) (coded methods))) has in
      rw has (rest canonical index is there)
  by true has [] index e there rest =
      let wrong : [] ≡ length m.insns ∷ sizes methods = e ∙ ap (λ (b : Bool). map (λ (x : Method). length x.insns) (cond b (m ∷ coded methods) (coded methods))) has in
      absurd cc
  by true has (frames ∷ canonical) zero e there rest =
      let is : length frames ∷ map length canonical ≡ length m.insns ∷ sizes methods = e ∙ ap (λ (b : Bool). map (λ (x : Method). length x.insns) (cond b (m ∷ coded methods) (coded methods))) has in
      let same : m ≡ method = cc in
      let first : length frames ≡ length m.insns = cc in
      first ∙ ap (λ (x : Method). length x.insns) same
  by true has (frames ∷ canonical) (suc index) e there rest =
      let is : length frames ∷ map length canonical ≡ length m.insns ∷ sizes methods = e ∙ ap (λ (b : Bool). map (λ (x : Method). length x.insns) (cond b (m ∷ coded methods) (coded methods))) has in
      let others : map length canonical ≡ sizes methods = cc in
      rw has (rest canonical index others there)

class_long : (classes : List LinkedClass) (canonical : List (List Frames)) (own : ℕ) (class : LinkedClass) → map (map length) canonical ≡ class_sizes classes → slice_get classes own ≡ Some class
    → map length (list_at canonical own) ≡ sizes class.methods
class_long [] canonical own class e there = absurd cc
class_long (c ∷ classes) [] own class e there = absurd cc
class_long (c ∷ classes) (frames ∷ canonical) zero class e there =
    let same : c ≡ class = cc in
    let first : map length frames ≡ sizes c.methods = cc in
    first ∙ ap (λ (x : LinkedClass). sizes x.methods) same
class_long (c ∷ classes) (frames ∷ canonical) (suc own) class e there =
    let others : map (map length) canonical ≡ class_sizes classes = cc in
    class_long classes canonical own class others there

-- ---- the program

module _ (program : Program) (typing : Typing) (typed : IsTyped program typing) (shaped : IsLaidOut program typing.frames) where
  met : (own index : ℕ) (class : LinkedClass) (method : Method) → slice_get program.classes own ≡ Some class → slice_get class.methods index ≡ Some method
      → (at : ℕ) → row_in program own class method (frames_in class.methods (frames_told typing own) index) at ≡ None
  met own index class method class_there there at =
      sym (ap (option_and_then (λ (c : LinkedClass). row_of_method program typing own c index at)) class_there
      ∙ ap (option_and_then (λ (m : Method). row_in program own class m (frames_in class.methods (frames_told typing own) index) at)) there)
      ∙ typed own index at

  row_told : (own index : ℕ) (class : LinkedClass) (method : Method) → slice_get program.classes own ≡ Some class → slice_get class.methods index ≡ Some method
      → (at : ℕ) → row_in program own class method (frames_in class.methods (frames_told (canonical program typing) own) index) at ≡ None
  row_told own index class method class_there there at = by (has_code method) refl where
    no_insn : (insns : List Insn) → nat_lt 0 (length insns) ≡ false → slice_get insns at ≡ None
    no_insn [] e = refl
    no_insn (x ∷ insns) e =
        let some : nat_lt 0 (length (x ∷ insns)) ≡ true = lt-ltb 0 (length (x ∷ insns)) (omega arith) in
        let wrong : true ≡ false = sym some ∙ e in
        absurd cc

    by : (b : Bool) → has_code method ≡ b → row_in program own class method (frames_in class.methods (frames_told (canonical program typing) own) index) at ≡ None
    by false none =
        ap (option_and_then (λ (insn : Insn). row_failing (frames_in class.methods (frames_told (canonical program typing) own) index) (place_at program own class method at insn)
        (frame_of (frames_in class.methods (frames_told (canonical program typing) own) index) at))) (no_insn method.insns none)
    by true code =
        let long = method_long class.methods (frames_told typing own) index method (class_long program.classes typing.frames own class shaped class_there) there code in
        ap (λ (frames : Frames). row_in program own class method frames at) (frames_are program typing own index class method class_there there code)
        ∙ told_met program own class method (frames_in class.methods (frames_told typing own) index) long (met own index class method class_there there) at

  still_typed : IsTyped program (canonical program typing)
  still_typed own index at = by (slice_get program.classes own) refl where
    method_by : (class : LinkedClass) → slice_get program.classes own ≡ Some class → (o : Option Method) → slice_get class.methods index ≡ o
        → option_and_then (λ (m : Method). row_in program own class m (frames_in class.methods (frames_told (canonical program typing) own) index) at) o ≡ None
    method_by class class_there None is = refl
    method_by class class_there (Some method) is = row_told own index class method class_there is at

    by : (o : Option LinkedClass) → slice_get program.classes own ≡ o → option_and_then (λ (c : LinkedClass). row_of_method program (canonical program typing) own c index at) o ≡ None
    by None is = refl
    by (Some class) is = method_by class is (slice_get class.methods index) refl

  -- what has no frame has none
  no_frame : (method : Method) (o : Option FrameType) → is_some o ≡ false → is_some (canonical_frame method o) ≡ false
  no_frame method None e = refl
  no_frame method (Some f) e = absurd cc

  no_more : (own index at : ℕ) → reached program typing own index at ≡ false → reached program (canonical program typing) own index at ≡ false
  no_more own index at e = by (slice_get program.classes own) refl e where
    code_by : (class : LinkedClass) (method : Method) → slice_get program.classes own ≡ Some class → slice_get class.methods index ≡ Some method → (b : Bool) → has_code method ≡ b
        → (b && is_some (frame_of (frames_in class.methods (frames_told typing own) index) at)) ≡ false
        → (b && is_some (frame_of (frames_in class.methods (frames_told (canonical program typing) own) index) at)) ≡ false
    code_by class method class_there there false code e = refl
    code_by class method class_there there true code e =
        ap is_some (ap (λ (frames : Frames). frame_of frames at) (frames_are program typing own index class method class_there there code)
        ∙ frame_map (canonical_frame method) refl (frames_in class.methods (frames_told typing own) index) at)
        ∙ no_frame method (frame_of (frames_in class.methods (frames_told typing own) index) at) e

    method_by : (class : LinkedClass) → slice_get program.classes own ≡ Some class → (o : Option Method) → slice_get class.methods index ≡ o
        → option_map_or (λ (m : Method). has_code m && is_some (frame_of (frames_in class.methods (frames_told typing own) index) at)) o false ≡ false
        → option_map_or (λ (m : Method). has_code m && is_some (frame_of (frames_in class.methods (frames_told (canonical program typing) own) index) at)) o false ≡ false
    method_by class class_there None is e = refl
    method_by class class_there (Some method) is e = code_by class method class_there is (has_code method) refl e

    by : (o : Option LinkedClass) → slice_get program.classes own ≡ o → option_map_or (λ (c : LinkedClass). reached_in c.methods (frames_told typing own) index at) o false ≡ false
        → option_map_or (λ (c : LinkedClass). reached_in c.methods (frames_told (canonical program typing) own) index at) o false ≡ false
    by None is e = refl
    by (Some class) is e = method_by class is (slice_get class.methods index) refl e

pub canonical_is_typed : CanonicalIsTyped
canonical_is_typed program typing typed shaped = record {
  typed = still_typed program typing typed shaped;
  shaped = classes_shaped program.classes typing.frames shaped;
  reached = no_more program typing typed shaped;
}
