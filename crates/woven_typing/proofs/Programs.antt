-- What is woven of a typed program is typed.
use Rattle.std.proofs.Common.{◌≡◌, ℕ, zero, suc, ◌+◌, ◌<◌, Bool, true, false, cond, List, [], ◌∷◌, ◌++◌, drop, length, map, take, Some, refl, sym, ap, subst, ◌∙◌, inl, inr, arith}
use Rattle.std.specs.Prelude.{nat_lt, slice_get, ⊤}
use Rattle.std.specs.List.{AllByRecursion, Contains}
use Rattle.std.proofs.lemmas.Bool.{cases_Bool, ltb-true, lt-ltb}
use Rattle.std.proofs.lemmas.Bool.Decides.{nat_tests}
use Rattle.std.proofs.lemmas.List.Elements.{Contains-append_left, Contains-append_right}
use Rattle.std.proofs.lemmas.Option.{slice_get_within}
use Rattle.class_codec.specs.declared.tree.Const.{Const}
use Rattle.class_codec.specs.Pool.{reference_at}
use Rattle.cert_format.specs.declared.certificate.Mode.{Mode}
use Rattle.cert_format.specs.declared.typing.Typing.{Typing}
use Rattle.bytecode_model.specs.declared.program.LinkedClass.{LinkedClass}
use Rattle.bytecode_model.specs.declared.program.Method.{Method}
use Rattle.bytecode_model.specs.declared.program.Program.{Program}
use Rattle.bytecode_model.specs.Operands.{index_of}
use Rattle.bytecode_model.specs.Rules.{Frames}
use Rattle.bytecode_model.specs.Layout.{IsLaidOut, coded, has_code}
use Rattle.bytecode_model.specs.Sound.{IsSoundClass, IsSoundMethod}
use Rattle.bytecode_model.specs.Typed.{frames_in, frames_told, list_at}
use Rattle.bytecode_model.proofs.Lists.{all_get}
use Rattle.conspec_automaton.specs.declared.policy.Policy.{Policy}
use Rattle.offset_patch.specs.declared.block.PoolWant.{PoolWant}
use Rattle.offset_patch.specs.Entries.{IsThere, Placed, wanted, with_wants}
use Rattle.offset_patch.specs.Plan.{Plan}
use Rattle.offset_patch.proofs.EntryFits.{wants_grow}
use Rattle.offset_patch.proofs.Steady.{steady_wanted}
use Rattle.block_template.specs.Blocks.{plan_of}
use Rattle.class_weaving.specs.Outcome.{Each, IsWovenClass, IsWovenMethod, class_wants, wants_woven}
use Rattle.class_weaving.proofs.Wanted.{all_of}
use Rattle.woven_typing.specs.Framing.{classes_typed, client_of, frames_woven, methods_typed, typing_of}
use Rattle.woven_typing.specs.WovenTyping.{IsGiven}
use Rattle.class_weaving.proofs.Bodies.{end_is, made_long}
use Rattle.woven_typing.proofs.Body as of
use Rattle.woven_typing.proofs.Body.{Body}
use Rattle.woven_typing.proofs.Frames.{long}
use Rattle.woven_typing.proofs.Larger.{woven_larger}
use Rattle.class_weaving.proofs.Lists.{slice_there}
use Rattle.woven_typing.proofs.Longer.{reference_longer}

-- ---- what the blocks of a class name

pub all_there : (wants : List PoolWant) (pool : List Const) → AllByRecursion (IsThere (with_wants pool wants)) wants
all_there [] pool = tt
all_there (want ∷ others) pool =
    let steady = steady_wanted want in
    let one = (wanted want pool).0 in
    let more = wants_grow others one in
    let stays : wanted want (one ++ more.0) ≡ (one ++ more.0, (wanted want pool).1) = steady.stays one more.0 (wanted want pool).1 (steady.settles pool) in
    let there : (wanted want (one ++ more.0)).0 ≡ one ++ more.0 = ap (λ (z : Placed). z.0) stays in
    (record { same = subst (λ (p : List Const). (wanted want p).0 ≡ p) (sym more.1) there }, all_there others one)

pub of_class_wants : (plan : Plan) (methods : List Method) (index : ℕ) (m : Method) (want : PoolWant) → slice_get methods index ≡ Some m
    → Contains (wants_woven plan m) want → Contains (class_wants plan methods) want
of_class_wants plan [] index m want e has = absurd cc
of_class_wants plan (x ∷ methods) zero m want e has =
    let same : m ≡ x = cc in
    Contains-append_left (wants_woven plan x) (class_wants plan methods) want
    (subst (λ (y : Method). Contains (wants_woven plan y) want) same has)
of_class_wants plan (x ∷ methods) (suc index) m want e has =
    Contains-append_right (wants_woven plan x) (class_wants plan methods) want (of_class_wants plan methods index m want e has)

-- ---- items that belong together, by their index

abbrev pub EachFrom : {X Y : Type 0} → (ℕ → X → Y → Type 0) → ℕ → List X → List Y → Type 0
EachFrom Belong at [] [] = ⊤
EachFrom Belong at [] (y ∷ ys) = ⊥
EachFrom Belong at (x ∷ xs) [] = ⊥
EachFrom Belong at (x ∷ xs) (y ∷ ys) = Belong at x y × EachFrom Belong (at + 1) xs ys

each_from : {X Y : Type 0} (P : X → Y → Type 0) (Q : ℕ → X → Y → Type 0) (at : ℕ) (xs : List X) (ys : List Y) → Each P xs ys
    → ((i : ℕ) (x : X) (y : Y) → slice_get xs i ≡ Some x → slice_get ys i ≡ Some y → P x y → Q (at + i) x y) → EachFrom Q at xs ys
each_from P Q at [] [] each gives = tt
each_from P Q at [] (y ∷ ys) each gives = absurd each
each_from P Q at (x ∷ xs) [] each gives = absurd each
each_from {X = X} {Y = Y} P Q at (x ∷ xs) (y ∷ ys) each gives =
    let here : at + 0 ≡ at = omega arith in
    (subst (λ (n : ℕ). Q n x y) here (gives 0 x y refl refl each.0), each_from P Q (at + 1) xs ys each.1 next)
  where
    next : (i : ℕ) (u : X) (v : Y) → slice_get xs i ≡ Some u → slice_get ys i ≡ Some v → P u v → Q ((at + 1) + i) u v
    next i u v e f p =
        let following : at + suc i ≡ (at + 1) + i = omega arith in
        subst (λ (n : ℕ). Q n u v) following (gives (suc i) u v e f p)

each_there : {X Y : Type 0} (Q : ℕ → X → Y → Type 0) (at : ℕ) (xs : List X) (ys : List Y) (i : ℕ) (x : X) (y : Y) → EachFrom Q at xs ys
    → slice_get xs i ≡ Some x → slice_get ys i ≡ Some y → Q (at + i) x y
each_there Q at [] ys i x y each e f = absurd cc
each_there Q at (u ∷ xs) [] i x y each e f = absurd each
each_there {X = X} {Y = Y} Q at (u ∷ xs) (v ∷ ys) zero x y each e f =
    let one : u ≡ x = cc in
    let two : v ≡ y = cc in
    let here : at ≡ at + 0 = omega arith in
    subst (λ (n : ℕ). Q n x y) here (subst (λ (z : X). Q at z y) one (subst (λ (z : Y). Q at u z) two each.0))
each_there Q at (u ∷ xs) (v ∷ ys) (suc i) x y each e f =
    let next : (at + 1) + i ≡ at + suc i = omega arith in
    subst (λ (n : ℕ). Q n x y) next (each_there Q (at + 1) xs ys i x y each.1 e f)

-- ---- lists of lists

list_after : {A : Type 0} (lists : List (List A)) (n : ℕ) → list_at (drop 1 lists) n ≡ list_at lists (suc n)
list_after [] n = refl
list_after (x ∷ lists) n = refl

module _ (old new : Program) (policy : Policy) (mode : Mode) (g : IsGiven old new policy mode) where
  abbrev plan : Plan
  plan = plan_of policy mode

  -- ---- a method

  unfoldable pub body_of : (own index : ℕ) (class other : LinkedClass) (method made : Method) → slice_get old.classes own ≡ Some class
      → slice_get class.methods index ≡ Some method → IsWovenClass plan (length old.classes) class other
      → IsWovenMethod plan (length old.classes) other.file.pool method made → Body
  body_of own index class other method made e f of_class of_method =
      let sound_class : IsSoundClass class = all_get IsSoundClass old.classes own class g.sound.classes e in
      let sound_method : IsSoundMethod method = all_get IsSoundMethod class.methods index method sound_class.methods f in
      record {
        old = old;
        new = new;
        policy = policy;
        mode = mode;
        own = own;
        class = class;
        other = other;
        method = method;
        made = made;
        read = g.read;
        tells = g.tells;
        throws = g.throws;
        order = g.order;
        larger = woven_larger old new plan policy.vars g.woven;
        of_class = of_class;
        of_method = of_method;
        sound = sound_method;
        right = λ at insn ref x y. g.right own index at class method insn ref e f x y;
        references = λ at insn x.
            let r = slice_there method.refs at (omega (arith, sound_method.refs, slice_get_within method.insns at insn x)) in
            let operand = g.right own index at class method insn r.0 e f x r.1 in
            ap (λ (pool : List Const). reference_at pool (index_of insn)) of_class.pool
            ∙ reference_longer class.file.pool of_class.added sound_class.fits.pool (index_of insn) operand.constant;
        wanted = λ want has.
            subst (λ (pool : List Const). IsThere pool want) (sym of_class.wanted)
            (all_of (IsThere (with_wants class.file.pool (class_wants plan class.methods))) (class_wants plan class.methods) want
            (all_there (class_wants plan class.methods) class.file.pool) (of_class_wants plan class.methods index method want f has));
      }

  pub code_same : (b : Body) → has_code b.made ≡ has_code b.method
  code_same b =
      let end = end_is (of.weaves b) in
      elim (cases_Bool (nat_lt 0 (length b.method.insns))) [
        | inl is ↦
            let some : 0 < length b.method.insns = ltb-true _ _ is in
            lt-ltb 0 (length b.made.insns) (omega (arith, some, end, of.least b (of.n b) (omega arith))) ∙ sym is
        | inr fails ↦
            let none : length b.method.insns ≡ 0 = grind (arith, nat_tests) in
            let empty : length b.made.insns ≡ 0 = omega (arith, end, ap (of.front b) none) in
            ap (nat_lt 0) empty ∙ sym (ap (nat_lt 0) none)
      ]

  -- A method has code where the other has, and as many frames as it has instructions.
  pub record IsAlike (own : ℕ) (class : LinkedClass) (method made : Method) : Type 0 where
    pub code : has_code made ≡ has_code method
    pub many : (frames : Frames) → length frames ≡ length method.insns
        → length (frames_woven (client_of old policy mode own class method) frames) ≡ length made.insns

  method_alike : (own index : ℕ) (class other : LinkedClass) (method made : Method) → slice_get old.classes own ≡ Some class
      → slice_get class.methods index ≡ Some method → IsWovenClass plan (length old.classes) class other
      → IsWovenMethod plan (length old.classes) other.file.pool method made → IsAlike own class method made
  unfolding body_of
  method_alike own index class other method made e f of_class of_method =
      let b : Body = body_of own index class other method made e f of_class of_method in
      record { code = code_same b; many = λ frames told. long b frames told ∙ sym (made_long (of.weaves b)) }

  -- ---- a class

  abbrev AreAlike : ℕ → LinkedClass → LinkedClass → Type 0
  AreAlike own class other = EachFrom (λ (index : ℕ) (x y : Method). IsAlike own class x y) 0 class.methods other.methods

  class_alike : (own : ℕ) (class other : LinkedClass) → slice_get old.classes own ≡ Some class → IsWovenClass plan (length old.classes) class other
      → AreAlike own class other
  class_alike own class other e of_class =
      each_from (IsWovenMethod plan (length old.classes) other.file.pool) (λ (index : ℕ) (x y : Method). IsAlike own class x y) 0 class.methods
      other.methods of_class.methods (λ index x y f h of_method. method_alike own index class other x y e f of_class of_method)

  all_alike : EachFrom AreAlike 0 old.classes g.woven.own
  all_alike =
      each_from (IsWovenClass plan (length old.classes)) AreAlike 0 old.classes g.woven.own g.woven.classes
      (λ own class other e f of_class.
      let here : own ≡ 0 + own = omega arith in
      subst (λ (n : ℕ). AreAlike n class other) here (class_alike own class other e of_class))

  -- ---- frames of a method

  same_place : (own : ℕ) (class : LinkedClass) (index at : ℕ) (olds news : List Method)
      → EachFrom (λ (i : ℕ) (x y : Method). IsAlike own class x y) at olds news → length (coded (take index news)) ≡ length (coded (take index olds))
  same_place own class zero at olds news each = refl
  same_place own class (suc index) at [] [] each = refl
  same_place own class (suc index) at [] (y ∷ news) each = absurd each
  same_place own class (suc index) at (x ∷ olds) [] each = absurd each
  same_place own class (suc index) at (x ∷ olds) (y ∷ news) each =
      ap (λ (c : Bool). length (cond c (y ∷ coded (take index news)) (coded (take index news)))) each.0.code
      ∙ by (has_code x) (same_place own class index (at + 1) olds news each.1)
    where
      by : (c : Bool) → length (coded (take index news)) ≡ length (coded (take index olds))
          → length (cond c (y ∷ coded (take index news)) (coded (take index news))) ≡ length (cond c (x ∷ coded (take index olds)) (coded (take index olds)))
      by true e = ap suc e
      by false e = e

  method_at : (own : ℕ) (class : LinkedClass) (methods : List Method) (told : List Frames) (index : ℕ) (m : Method)
      → slice_get methods index ≡ Some m → has_code m ≡ true
      → list_at (methods_typed old policy mode own class methods told) (length (coded (take index methods)))
      ≡ frames_woven (client_of old policy mode own class m) (list_at told (length (coded (take index methods))))
  method_at own class [] told index m e code = absurd cc
  method_at own class (x ∷ methods) told zero m e code =
      let same : x ≡ m = cc in
      let first : has_code x ≡ true = ap has_code same ∙ code in
      ap (λ (c : Bool). list_at (cond c
      (frames_woven (client_of old policy mode own class x) (list_at told 0) ∷ methods_typed old policy mode own class methods (drop 1 told))
      (methods_typed old policy mode own class methods told)) 0) first
      ∙ ap (λ (y : Method). frames_woven (client_of old policy mode own class y) (list_at told 0)) same
  method_at own class (x ∷ methods) told (suc index) m e code = by (has_code x)
      (λ later. method_at own class methods later index m e code)
    where
      n : ℕ
      n = length (coded (take index methods))

      by : (c : Bool)
          → ((later : List Frames)
          → list_at (methods_typed old policy mode own class methods later) n ≡ frames_woven (client_of old policy mode own class m) (list_at later n))
          → list_at (cond c
          (frames_woven (client_of old policy mode own class x) (list_at told 0) ∷ methods_typed old policy mode own class methods (drop 1 told))
          (methods_typed old policy mode own class methods told)) (length (cond c (x ∷ coded (take index methods)) (coded (take index methods))))
          ≡ frames_woven (client_of old policy mode own class m)
          (list_at told (length (cond c (x ∷ coded (take index methods)) (coded (take index methods)))))
      by true there = there (drop 1 told) ∙ ap (frames_woven (client_of old policy mode own class m)) (list_after told n)
      by false there = there told

  class_at : (start : ℕ) (classes : List LinkedClass) (told : List (List Frames)) (own : ℕ) (class : LinkedClass)
      → slice_get classes own ≡ Some class
      → list_at (classes_typed old policy mode start classes told) own
      ≡ methods_typed old policy mode (start + own) class class.methods (list_at told own)
  class_at start [] told own class e = absurd cc
  class_at start (x ∷ classes) told zero class e =
      let same : x ≡ class = cc in
      let here : start ≡ start + 0 = omega arith in
      ap (λ (n : ℕ). methods_typed old policy mode n x x.methods (list_at told 0)) here
      ∙ ap (λ (c : LinkedClass). methods_typed old policy mode (start + 0) c c.methods (list_at told 0)) same
  class_at start (x ∷ classes) told (suc own) class e =
      let following : (start + 1) + own ≡ start + suc own = omega arith in
      class_at (start + 1) classes (drop 1 told) own class e
      ∙ ap (λ (n : ℕ). methods_typed old policy mode n class class.methods (list_at (drop 1 told) own)) following
      ∙ ap (methods_typed old policy mode (start + suc own) class class.methods) (list_after told own)

  -- The frames of a method of the woven program are those that are woven of the frames of the method that it was.
  pub frames_are : (typing : Typing) (own index : ℕ) (class other : LinkedClass) (method : Method) → slice_get old.classes own ≡ Some class
      → slice_get g.woven.own own ≡ Some other → slice_get class.methods index ≡ Some method → has_code method ≡ true
      → frames_in other.methods (frames_told (typing_of old policy mode typing) own) index
      ≡ frames_woven (client_of old policy mode own class method) (frames_in class.methods (frames_told typing own) index)
  frames_are typing own index class other method e f h code =
      let none : 0 + own ≡ own = omega arith in
      let each : AreAlike own class other =
      subst (λ (n : ℕ). AreAlike n class other) none (each_there AreAlike 0 old.classes g.woven.own own class other all_alike e f) in
      ap (list_at (frames_told (typing_of old policy mode typing) own)) (same_place own class index 0 class.methods other.methods each)
      ∙ ap (λ (told : List Frames). list_at told (length (coded (take index class.methods))))
      (class_at 0 old.classes typing.frames own class e
      ∙ ap (λ (n : ℕ). methods_typed old policy mode n class class.methods (list_at typing.frames own)) none)
      ∙ method_at own class class.methods (frames_told typing own) index method h code

  -- ---- the shape

  methods_shape : (own : ℕ) (class : LinkedClass) (at : ℕ) (olds news : List Method) (told : List Frames)
      → EachFrom (λ (i : ℕ) (x y : Method). IsAlike own class x y) at olds news
      → map length told ≡ map (λ (m : Method). length m.insns) (coded olds)
      → map length (methods_typed old policy mode own class olds told) ≡ map (λ (m : Method). length m.insns) (coded news)
  methods_shape own class at [] [] told each shape = refl
  methods_shape own class at [] (y ∷ news) told each shape = absurd each
  methods_shape own class at (x ∷ olds) [] told each shape = absurd each
  methods_shape own class at (x ∷ olds) (y ∷ news) told each shape =
      by (has_code x) shape each.0.many (λ later e. methods_shape own class (at + 1) olds news later each.1 e)
      ∙ ap (λ (c : Bool). map (λ (m : Method). length m.insns) (cond c (y ∷ coded news) (coded news))) (sym each.0.code)
    where
      Later : Type 0
      Later =
          (later : List Frames) → map length later ≡ map (λ (m : Method). length m.insns) (coded olds)
          → map length (methods_typed old policy mode own class olds later) ≡ map (λ (m : Method). length m.insns) (coded news)

      by : (c : Bool) → map length told ≡ map (λ (m : Method). length m.insns) (cond c (x ∷ coded olds) (coded olds))
          → ((frames : Frames) → length frames ≡ length x.insns
          → length (frames_woven (client_of old policy mode own class x) frames) ≡ length y.insns)
          → ((later : List Frames) → map length later ≡ map (λ (m : Method). length m.insns) (coded olds)
          → map length (methods_typed old policy mode own class olds later) ≡ map (λ (m : Method). length m.insns) (coded news))
          → map length (cond c
          (frames_woven (client_of old policy mode own class x) (list_at told 0) ∷ methods_typed old policy mode own class olds (drop 1 told))
          (methods_typed old policy mode own class olds told))
          ≡ map (λ (m : Method). length m.insns) (cond c (y ∷ coded news) (coded news))
      by true e many later = first told e
        where
          first : (told : List Frames) → map length told ≡ length x.insns ∷ map (λ (m : Method). length m.insns) (coded olds)
              → map length (frames_woven (client_of old policy mode own class x) (list_at told 0)
              ∷ methods_typed old policy mode own class olds (drop 1 told))
              ≡ length y.insns ∷ map (λ (m : Method). length m.insns) (coded news)
          first [] e = absurd cc
          first (fs ∷ told) e =
              let here : length fs ≡ length x.insns = cc in
              let rest : map length told ≡ map (λ (m : Method). length m.insns) (coded olds) = cc in
              rw (many fs here, later told rest) refl
      by false e many later = later told e

  classes_shape : (start : ℕ) (olds news : List LinkedClass) (told : List (List Frames)) (state : LinkedClass) → state.methods ≡ []
      → EachFrom AreAlike start olds news
      → map (map length) told ≡ map (λ (c : LinkedClass). map (λ (m : Method). length m.insns) (coded c.methods)) olds
      → map (map length) (classes_typed old policy mode start olds told)
      ≡ map (λ (c : LinkedClass). map (λ (m : Method). length m.insns) (coded c.methods)) (news ++ state ∷ [])
  classes_shape start [] [] told state none each shape =
      ap (λ (ms : List Method). map (λ (m : Method). length m.insns) (coded ms) ∷ []) (sym none)
  classes_shape start [] (y ∷ news) told state none each shape = absurd each
  classes_shape start (x ∷ olds) [] told state none each shape = absurd each
  classes_shape start (x ∷ olds) (y ∷ news) [] state none each shape = absurd cc
  classes_shape start (x ∷ olds) (y ∷ news) (t ∷ told) state none each shape =
      let here : map length t ≡ map (λ (m : Method). length m.insns) (coded x.methods) = cc in
      let rest : map (map length) told ≡ map (λ (c : LinkedClass). map (λ (m : Method). length m.insns) (coded c.methods)) olds = cc in
      rw (methods_shape start x 0 x.methods y.methods t each.0 here, classes_shape (start + 1) olds news told state none each.1 rest) refl

  pub shaped : (typing : Typing) → IsLaidOut old typing.frames → IsLaidOut new (typing_of old policy mode typing).frames
  shaped typing shape =
      classes_shape 0 old.classes g.woven.own typing.frames g.woven.state g.woven.last.methods all_alike shape
      ∙ ap (map (λ (c : LinkedClass). map (λ (m : Method). length m.insns) (coded c.methods))) (sym g.woven.are)
