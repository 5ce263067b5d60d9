-- The notes of a certificate are of the program's shape, and which of them are a method's.
use Rattle.std.proofs.Common.{◌≡◌, ℕ, zero, suc, Bool, true, false, cond, List, [], ◌∷◌, ◌++◌, length, map, take, drop, Option, Some, refl, sym, ap, ◌∙◌, arith}
use Rattle.std.specs.Prelude.{nat_lt, slice_get}
use Rattle.std.specs.List.{AllByRecursion}
use Rattle.std.proofs.lemmas.Bool.{lt-ltb}
use Rattle.class_codec.specs.declared.tree.Const.{Const}
use Rattle.bytecode_model.specs.declared.program.LinkedClass.{LinkedClass}
use Rattle.bytecode_model.specs.declared.program.Method.{Method}
use Rattle.bytecode_model.specs.declared.program.Target.{Target}
use Rattle.bytecode_model.specs.Layout.{coded, has_code}
use Rattle.bytecode_model.specs.Sound.{IsSoundClass, IsSoundMethod}
use Rattle.bytecode_model.specs.Typed.{list_at}
use Rattle.cert_format.specs.declared.certificate.Mode.{Mode}
use Rattle.cert_format.specs.declared.typing.FrameType.{FrameType}
use Rattle.conspec_tree.specs.declared.types.Var.{Var}
use Rattle.conspec_automaton.specs.declared.policy.Policy.{Policy}
use Rattle.block_template.specs.Blocks.{plan_of}
use Rattle.class_weaving.specs.Outcome.{Each, IsState, IsWovenClass, IsWovenMethod}
use Rattle.cert_maker.specs.Noting.{class_notes, method_notes, notes_of, parts_notes}
use Rattle.block_template.proofs.Plans.{some}
use Rattle.class_weaving.proofs.Bodies.{made_long, same_length}
use Rattle.cert_maker.proofs.Body.{Body, typed_many, told_many, weaves}
use Rattle.class_weaving.proofs.Parts.{total}

abbrev Frames : Type 0
Frames = List (Option FrameType)

abbrev size : Method → ℕ
size m = length m.insns

-- how many instructions each method with code has
abbrev pub class_sizes : LinkedClass → List ℕ
class_sizes class = map size (coded class.methods)

-- ---- a method

module _ (b : Body) where
  some_total : (refs : List Target) → nat_lt 0 (length refs) ≡ nat_lt 0 (total (plan_of b.policy b.mode) b.method.max_locals refs)
  some_total [] = refl
  some_total (ref ∷ refs) =
      lt-ltb 0 (length (ref ∷ refs)) (omega arith)
      ∙ sym (lt-ltb 0 (total (plan_of b.policy b.mode) b.method.max_locals (ref ∷ refs)) (omega (arith, some b.policy b.mode b.method.max_locals ref)))

  -- A woven method has code exactly where the method has.
  pub code_stays : has_code b.method ≡ has_code b.made
  code_stays = ap (nat_lt 0) (sym (same_length (weaves b))) ∙ some_total b.method.refs ∙ ap (nat_lt 0) (sym (made_long (weaves b)))

  -- It has as many notes as instructions.
  notes_many : (frames : Frames) → length frames ≡ size b.made → length (method_notes b.policy b.mode b.method frames) ≡ size b.made
  notes_many frames e =
      typed_many b (parts_notes b.policy b.mode b.method.max_locals b.method.refs) frames (told_many b ∙ sym e) ∙ told_many b

-- ---- the methods of a class

module _ (policy : Policy) (mode : Mode) (state : ℕ) (pool : List Const) where
  body_of : (m x : Method) → IsWovenMethod (plan_of policy mode) state pool m x → IsSoundMethod m → Body
  body_of m x of sound = record { policy = policy; mode = mode; state = state; pool = pool; method = m; made = x; of_method = of; sound = sound }

  code_of : (m x : Method) → IsWovenMethod (plan_of policy mode) state pool m x → IsSoundMethod m → has_code m ≡ has_code x
  unfolding body_of
  code_of m x of sound = code_stays (body_of m x of sound)

  many_of : (m x : Method) → IsWovenMethod (plan_of policy mode) state pool m x → IsSoundMethod m → (frames : Frames) → length frames ≡ size x
      → length (method_notes policy mode m frames) ≡ size x
  unfolding body_of
  many_of m x of sound frames e = notes_many (body_of m x of sound) frames e

  methods_shaped : (olds news : List Method) → Each (IsWovenMethod (plan_of policy mode) state pool) olds news → AllByRecursion IsSoundMethod olds → (frames : List Frames) → map length frames ≡ map size (coded news)
      → map length (class_notes policy mode olds frames) ≡ map size (coded news)
  methods_shaped [] [] each sound frames e = refl
  methods_shaped [] (x ∷ news) each sound frames e = absurd each
  methods_shaped (m ∷ olds) [] each sound frames e = absurd each
  methods_shaped (m ∷ olds) (x ∷ news) each sound frames e = by (has_code m) refl frames e (methods_shaped olds news each.1 sound.1)
    where
      same_code : has_code m ≡ has_code x
      same_code = code_of m x each.0 sound.0

      by : (b : Bool) → has_code m ≡ b → (frames : List Frames) → map length frames ≡ map size (coded (x ∷ news))
          → ((later : List Frames) → map length later ≡ map size (coded news) → map length (class_notes policy mode olds later) ≡ map size (coded news))
          → map length (class_notes policy mode (m ∷ olds) frames) ≡ map size (coded (x ∷ news))
      by false none frames e later =
          let other : has_code x ≡ false = sym same_code ∙ none in
          let rest : map length frames ≡ map size (coded news) = e ∙ ap (λ (b : Bool). map size (cond b (x ∷ coded news) (coded news))) other in
          rw (none, other) (later frames rest)
      by true has [] e later =
          let other : has_code x ≡ true = sym same_code ∙ has in
          let no : ◌≡◌ {A = List ℕ} [] (size x ∷ map size (coded news)) = e ∙ ap (λ (b : Bool). map size (cond b (x ∷ coded news) (coded news))) other in
          absurd cc
      by true has (f ∷ frames) e later =
          let other : has_code x ≡ true = sym same_code ∙ has in
          let all : length f ∷ map length frames ≡ size x ∷ map size (coded news) = e ∙ ap (λ (b : Bool). map size (cond b (x ∷ coded news) (coded news))) other in
          let here : length f ≡ size x = cc in
          let rest : map length frames ≡ map size (coded news) = cc in
          let first : length (method_notes policy mode m f) ≡ size x = many_of m x each.0 sound.0 f here in
          let last = later frames rest in
          rw (has, other, first, last) refl

  -- As many methods with code stand before a method.
  pub coded_stay : (olds news : List Method) → Each (IsWovenMethod (plan_of policy mode) state pool) olds news → AllByRecursion IsSoundMethod olds → (index : ℕ)
      → length (coded (take index olds)) ≡ length (coded (take index news))
  coded_stay olds news each sound zero = refl
  coded_stay [] [] each sound (suc index) = refl
  coded_stay [] (x ∷ news) each sound (suc index) = absurd each
  coded_stay (m ∷ olds) [] each sound (suc index) = absurd each
  coded_stay (m ∷ olds) (x ∷ news) each sound (suc index) = by (has_code m) refl (coded_stay olds news each.1 sound.1 index)
    where
      by : (b : Bool) → has_code m ≡ b → length (coded (take index olds)) ≡ length (coded (take index news)) → length (coded (m ∷ take index olds)) ≡ length (coded (x ∷ take index news))
      by true has later =
          let other : has_code x ≡ true = sym (code_of m x each.0 sound.0) ∙ has in
          rw (has, other) (ap suc later)
      by false none later =
          let other : has_code x ≡ false = sym (code_of m x each.0 sound.0) ∙ none in
          rw (none, other) later

-- the method of an index has as many frames as instructions
pub frames_long : (frames : List Frames) (methods : List Method) (index : ℕ) (m : Method) → map length frames ≡ map size (coded methods) → slice_get methods index ≡ Some m → has_code m ≡ true
    → length (list_at frames (length (coded (take index methods)))) ≡ length m.insns
frames_long frames [] index m e there has = absurd cc
frames_long frames (x ∷ methods) zero m e there has =
    let same : x ≡ m = cc in
    let all : map length frames ≡ size m ∷ map size (coded methods) =
    e ∙ ap (λ (y : Method). map size (coded (y ∷ methods))) same ∙ ap (λ (b : Bool). map size (cond b (m ∷ coded methods) (coded methods))) has in
    first frames all
  where
    first : (frames : List Frames) → map length frames ≡ size m ∷ map size (coded methods) → length (list_at frames 0) ≡ size m
    first [] e = absurd cc
    first (f ∷ frames) e = cc
frames_long frames (x ∷ methods) (suc index) m e there has = by (has_code x) refl frames e (λ later rest. frames_long later methods index m rest there has)
  where
    by : (b : Bool) → has_code x ≡ b → (frames : List Frames) → map length frames ≡ map size (coded (x ∷ methods))
        → ((later : List Frames) → map length later ≡ map size (coded methods) → length (list_at later (length (coded (take index methods)))) ≡ length m.insns)
        → length (list_at frames (length (coded (x ∷ take index methods)))) ≡ length m.insns
    by false none frames e later = rw none (later frames (e ∙ ap (λ (b : Bool). map size (cond b (x ∷ coded methods) (coded methods))) none))
    by true some [] e later =
        let no : ◌≡◌ {A = List ℕ} [] (size x ∷ map size (coded methods)) = e ∙ ap (λ (b : Bool). map size (cond b (x ∷ coded methods) (coded methods))) some in
        absurd cc
    by true some (f ∷ frames) e later =
        let all : length f ∷ map length frames ≡ size x ∷ map size (coded methods) = e ∙ ap (λ (b : Bool). map size (cond b (x ∷ coded methods) (coded methods))) some in
        let rest : map length frames ≡ map size (coded methods) = cc in
        rw some (later frames rest)

after_is : {A : Type 0} (canonical : List (List A)) (k : ℕ) → list_at canonical (suc k) ≡ list_at (drop 1 canonical) k
after_is [] k = refl
after_is (f ∷ canonical) k = refl

module _ (policy : Policy) (mode : Mode) where
  -- the notes of the method of an index
  pub notes_there : (methods : List Method) (frames : List Frames) (index : ℕ) (m : Method) → slice_get methods index ≡ Some m → has_code m ≡ true
      → list_at (class_notes policy mode methods frames) (length (coded (take index methods)))
      ≡ method_notes policy mode m (list_at frames (length (coded (take index methods))))
  notes_there [] frames index m there has = absurd cc
  notes_there (x ∷ methods) frames zero m there has =
      let same : x ≡ m = cc in
      rw (same, has) refl
  notes_there (x ∷ methods) frames (suc index) m there has = by (has_code x) refl (λ later. notes_there methods later index m there has)
    where
      by : (b : Bool) → has_code x ≡ b
          → ((later : List Frames) → list_at (class_notes policy mode methods later) (length (coded (take index methods)))
          ≡ method_notes policy mode m (list_at later (length (coded (take index methods)))))
          → list_at (class_notes policy mode (x ∷ methods) frames) (length (coded (x ∷ take index methods)))
          ≡ method_notes policy mode m (list_at frames (length (coded (x ∷ take index methods))))
      by true some later = rw (some, after_is frames (length (coded (take index methods)))) (later (drop 1 frames))
      by false none later = rw none (later frames)

  -- the notes of the class of an index
  pub class_noted : (classes : List LinkedClass) (frames : List (List Frames)) (own : ℕ) (class : LinkedClass) → slice_get classes own ≡ Some class
      → list_at (notes_of policy mode classes frames) own ≡ class_notes policy mode class.methods (list_at frames own)
  class_noted [] frames own class there = absurd cc
  class_noted (x ∷ classes) frames zero class there =
      let same : x ≡ class = cc in
      rw same refl
  class_noted (x ∷ classes) frames (suc own) class there =
      class_noted classes (drop 1 frames) own class there ∙ ap (class_notes policy mode class.methods) (sym (after_is frames own))

  pub classes_shaped : (vars : List Var) (count : ℕ) (olds news : List LinkedClass) (state : LinkedClass) → IsState vars state
      → Each (IsWovenClass (plan_of policy mode) count) olds news → AllByRecursion IsSoundClass olds
      → (frames : List (List Frames)) → map (map length) frames ≡ map class_sizes (news ++ state ∷ [])
      → map (map length) (notes_of policy mode olds frames) ≡ map class_sizes (news ++ state ∷ [])
  classes_shaped vars count [] [] state is each sound frames e = ap (λ (methods : List Method). map size (coded methods) ∷ []) (sym is.methods)
  classes_shaped vars count [] (x ∷ news) state is each sound frames e = absurd each
  classes_shaped vars count (class ∷ olds) [] state is each sound frames e = absurd each
  classes_shaped vars count (class ∷ olds) (x ∷ news) state is each sound [] e = absurd cc
  classes_shaped vars count (class ∷ olds) (x ∷ news) state is each sound (f ∷ frames) e =
      let here : map length f ≡ class_sizes x = cc in
      let rest : map (map length) frames ≡ map class_sizes (news ++ state ∷ []) = cc in
      let first = methods_shaped policy mode count x.file.pool class.methods x.methods each.0.methods sound.0.methods f here in
      let last = classes_shaped vars count olds news state is each.1 sound.1 frames rest in
      rw (first, last) refl

-- the frames of the class of an index
pub class_typed : (frames : List (List Frames)) (classes : List LinkedClass) (own : ℕ) (class : LinkedClass) → map (map length) frames ≡ map class_sizes classes
    → slice_get classes own ≡ Some class → map length (list_at frames own) ≡ class_sizes class
class_typed [] [] own class e there = absurd cc
class_typed [] (x ∷ classes) own class e there = absurd cc
class_typed (f ∷ frames) [] own class e there = absurd cc
class_typed (f ∷ frames) (x ∷ classes) zero class e there =
    let same : x ≡ class = cc in
    let first : map length f ≡ class_sizes x = cc in
    first ∙ ap class_sizes same
class_typed (f ∷ frames) (x ∷ classes) (suc own) class e there =
    let rest : map (map length) frames ≡ map class_sizes classes = cc in
    class_typed frames classes own class rest there
