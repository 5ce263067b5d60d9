-- The law: what is woven of a typed program is typed, and which of its instructions have a frame.
use Rattle.std.proofs.Common.{◌≡◌, ℕ, zero, suc, ◌+◌, ◌-◌, ◌<◌, ◌≤◌, Bool, true, false, cond, List, [], ◌∷◌, ◌++◌, length, map, take, Option, Some, None, is_some, refl, sym, ap, subst, ◌∙◌, inl, inr, arith}
use Rattle.std.specs.Prelude.{◌&&◌, nat_lt, option_and_then, option_map, slice_get}
use Rattle.std.specs.Option.{option_map_or}
use Rattle.std.proofs.lemmas.Bool.{cases_Bool, ltb-true, lt-ltb}
use Rattle.std.proofs.lemmas.Bool.Decides.{nat_tests}
use Rattle.std.proofs.lemmas.Option.{slice_get_past, slice_get_within}
use Rattle.cert_format.specs.declared.certificate.Mode.{Mode}
use Rattle.cert_format.specs.declared.typing.FrameType.{FrameType}
use Rattle.cert_format.specs.declared.typing.Typing.{Typing}
use Rattle.insn_codec.specs.declared.insn.Insn.{Insn}
use Rattle.bytecode_model.specs.declared.program.LinkedClass.{LinkedClass}
use Rattle.bytecode_model.specs.declared.program.Method.{Method}
use Rattle.bytecode_model.specs.declared.program.Program.{Program}
use Rattle.bytecode_model.specs.declared.program.Target.{Target}
use Rattle.bytecode_model.specs.declared.program.Target.TheVariants as target
use Rattle.bytecode_model.specs.Rules.{Frames, frame_of, row_failing}
use Rattle.bytecode_model.specs.Layout.{IsLaidOut, coded, has_code}
use Rattle.bytecode_model.specs.Typed.{IsTyped, frames_in, frames_told, list_at, place_at, reached, reached_in, row_in, row_of_method}
use Rattle.conspec_automaton.specs.declared.policy.Policy.{Policy}
use Rattle.conspec_automaton.specs.Next.{has_clauses}
use Rattle.block_template.specs.declared.item.Item.{Item}
use Rattle.block_template.specs.declared.item.Role.{Role}
use Rattle.block_template.specs.declared.item.Role.TheVariants as roles
use Rattle.block_template.specs.Blocks.{Clauses, clauses_of, has_block, plan_of}
use Rattle.block_template.specs.Frames.{Around, frame_at}
use Rattle.class_weaving.specs.Outcome.{IsWovenClass, IsWovenMethod}
use Rattle.woven_typing.specs.Framing.{around_of, client_of, front_in, frames_woven, item_typed, items_of, low, insn_place, typing_of}
use Rattle.woven_typing.specs.Renaming.{frame_renamed}
use Rattle.woven_typing.specs.WovenTyping.{BlocksAreReachedSo, BlocksAreTold, ClientsAreTold, IsGiven, IsInsnAt, IsToldAs, WovenIsTyped, front, is_reached, kept_frame}
use Rattle.class_weaving.proofs.Bodies.{fronts_are}
use Rattle.woven_typing.proofs.Body as of
use Rattle.woven_typing.proofs.Body.{Body}
use Rattle.woven_typing.proofs.Client.{Typed}
use Rattle.woven_typing.proofs.Frames as frames
use Rattle.class_weaving.proofs.Lists.{each_back, each_on, get_left, get_right, slice_there}
use Rattle.woven_typing.proofs.Programs.{body_of, code_same, frames_are, shaped}
use Rattle.woven_typing.proofs.Whole.{all_met}

-- ---- frames of a method

-- the frames of a method with code are as many as its instructions
pub told_count : (methods : List Method) (told : List Frames) (index : ℕ) (m : Method) → map length told ≡ map (λ (x : Method). length x.insns) (coded methods)
    → slice_get methods index ≡ Some m → 0 < length m.insns → length (frames_in methods told index) ≡ length m.insns
told_count [] told index m shape e some = absurd cc
told_count (x ∷ methods) told zero m shape e some =
    let same : x ≡ m = cc in
    first told (subst (λ (y : Method). map length told ≡ map (λ (z : Method). length z.insns) (coded (y ∷ methods))) same shape)
  where
    first : (told : List Frames) → map length told ≡ map (λ (z : Method). length z.insns) (coded (m ∷ methods)) → length (list_at told 0) ≡ length m.insns
    first told shape =
        let code : has_code m ≡ true = lt-ltb 0 (length m.insns) some in
        let is : map length told ≡ length m.insns ∷ map (λ (z : Method). length z.insns) (coded methods) =
        shape ∙ ap (λ (b : Bool). map (λ (z : Method). length z.insns) (cond b (m ∷ coded methods) (coded methods))) code in
        by told is
      where
        by : (told : List Frames) → map length told ≡ length m.insns ∷ map (λ (z : Method). length z.insns) (coded methods) → length (list_at told 0) ≡ length m.insns
        by [] is = absurd cc
        by (fs ∷ told) is = cc
told_count (x ∷ methods) told (suc index) m shape e some =
    elim (cases_Bool (has_code x)) [
      | inl code ↦
          let is : map length told ≡ length x.insns ∷ map (λ (z : Method). length z.insns) (coded methods) =
          shape ∙ ap (λ (b : Bool). map (λ (z : Method). length z.insns) (cond b (x ∷ coded methods) (coded methods))) code in
          let place : length (coded (x ∷ take index methods)) ≡ suc (length (coded (take index methods))) = ap (λ (b : Bool). length (cond b (x ∷ coded (take index methods)) (coded (take index methods)))) code in
          ap (λ (i : ℕ). length (list_at told i)) place ∙ following told is (λ later shape2. told_count methods later index m shape2 e some)
      | inr bare ↦
          let is : map length told ≡ map (λ (z : Method). length z.insns) (coded methods) =
          shape ∙ ap (λ (b : Bool). map (λ (z : Method). length z.insns) (cond b (x ∷ coded methods) (coded methods))) bare in
          let place : length (coded (x ∷ take index methods)) ≡ length (coded (take index methods)) = ap (λ (b : Bool). length (cond b (x ∷ coded (take index methods)) (coded (take index methods)))) bare in
          ap (λ (i : ℕ). length (list_at told i)) place ∙ told_count methods told index m is e some
    ]
  where
    following : (told : List Frames) → map length told ≡ length x.insns ∷ map (λ (z : Method). length z.insns) (coded methods)
        → ((later : List Frames) → map length later ≡ map (λ (z : Method). length z.insns) (coded methods) → length (list_at later (length (coded (take index methods)))) ≡ length m.insns)
        → length (list_at told (suc (length (coded (take index methods))))) ≡ length m.insns
    following [] is later = absurd cc
    following (fs ∷ told) is later = later told cc

-- the shape of what is told of a class
pub class_told : (classes : List LinkedClass) (told : List (List Frames)) (own : ℕ) (c : LinkedClass)
    → map (map length) told ≡ map (λ (class : LinkedClass). map (λ (m : Method). length m.insns) (coded class.methods)) classes → slice_get classes own ≡ Some c
    → map length (list_at told own) ≡ map (λ (m : Method). length m.insns) (coded c.methods)
class_told [] told own c shape e = absurd cc
class_told (x ∷ classes) [] own c shape e = absurd cc
class_told (x ∷ classes) (t ∷ told) zero c shape e =
    let same : x ≡ c = cc in
    let first : map length t ≡ map (λ (m : Method). length m.insns) (coded x.methods) = cc in
    subst (λ (y : LinkedClass). map length t ≡ map (λ (m : Method). length m.insns) (coded y.methods)) same first
class_told (x ∷ classes) (t ∷ told) (suc own) c shape e =
    let later : map (map length) told ≡ map (λ (class : LinkedClass). map (λ (m : Method). length m.insns) (coded class.methods)) classes = cc in
    class_told classes told own c later e

-- the rows of a typed program, method by method
rows_met : (program : Program) (typing : Typing) (own index : ℕ) (c : LinkedClass) (m : Method) → IsTyped program typing → slice_get program.classes own ≡ Some c
    → slice_get c.methods index ≡ Some m → (at : ℕ) → row_in program own c m (frames_in c.methods (frames_told typing own) index) at ≡ None
rows_met program typing own index c m typed e f at =
    sym (ap (option_and_then (λ (x : LinkedClass). row_of_method program typing own x index at)) e
    ∙ ap (option_and_then (λ (x : Method). row_in program own c x (frames_in c.methods (frames_told typing own) index) at)) f)
    ∙ typed own index at

-- ---- the law

module _ (old new : Program) (policy : Policy) (mode : Mode) (g : IsGiven old new policy mode) where
  -- A class of the woven program with a method is that of one of the old ones.
  record IsPair (own : ℕ) (other : LinkedClass) : Type 0 where
    class : LinkedClass
    there : slice_get old.classes own ≡ Some class
    here : slice_get g.woven.own own ≡ Some other
    woven : IsWovenClass (plan_of policy mode) (length old.classes) class other

  pair_of : (own index : ℕ) (other : LinkedClass) (made : Method) → slice_get new.classes own ≡ Some other
      → slice_get other.methods index ≡ Some made → IsPair own other
  pair_of own index other made e f =
      let at : slice_get (g.woven.own ++ g.woven.state ∷ []) own ≡ Some other = ap (λ (cs : List LinkedClass). slice_get cs own) (sym g.woven.are) ∙ e in
      elim (cases_Bool (nat_lt own (length g.woven.own))) [
        | inl is ↦
            let here : slice_get g.woven.own own ≡ Some other = sym (get_left g.woven.own (g.woven.state ∷ []) own (ltb-true _ _ is)) ∙ at in
            let h = each_back (IsWovenClass (plan_of policy mode) (length old.classes)) old.classes g.woven.own own other g.woven.classes here in
            record { class = h.0; there = h.1; here = here; woven = h.2 }
        | inr fails ↦
            let past : length g.woven.own ≤ own = grind (arith, nat_tests) in
            let last : own ≡ length g.woven.own + (own - length g.woven.own) = omega (arith, past) in
            let following : slice_get (g.woven.state ∷ []) (own - length g.woven.own) ≡ Some other =
            sym (get_right g.woven.own (g.woven.state ∷ []) (own - length g.woven.own))
            ∙ ap (slice_get (g.woven.own ++ g.woven.state ∷ [])) (sym last) ∙ at in
            let state : g.woven.state ≡ other = only g.woven.state other (own - length g.woven.own) following in
            let none : ◌≡◌ {A = Option Method} None (Some made) =
            ap (λ (ms : List Method). slice_get ms index) (sym g.woven.last.methods)
            ∙ ap (λ (c : LinkedClass). slice_get c.methods index) state ∙ f in
            absurd cc
      ]
    where
      only : (x y : LinkedClass) (i : ℕ) → slice_get (x ∷ []) i ≡ Some y → x ≡ y
      only x y zero e = cc
      only x y (suc i) e = absurd cc

  -- ---- the rows

  module _ (typing : Typing) (typed : IsTyped old typing) (shape : IsLaidOut old typing.frames) where
    abbrev made_typing : Typing
    made_typing = typing_of old policy mode typing

    method_row : (own index at : ℕ) (other : LinkedClass) (made : Method) → slice_get new.classes own ≡ Some other
        → slice_get other.methods index ≡ Some made → at < length made.insns
        → row_in new own other made (frames_in other.methods (frames_told made_typing own) index) at ≡ None
    unfolding body_of
    method_row own index at other made e f lt =
        let pair = pair_of own index other made e f in
        let back = each_back (IsWovenMethod (plan_of policy mode) (length old.classes) other.file.pool) pair.class.methods other.methods index made
        pair.woven.methods f in
        let body : Body = body_of old new policy mode g own index pair.class other back.0 made pair.there back.1 pair.woven back.2 in
        let code : has_code back.0 ≡ true = sym (code_same old new policy mode g body) ∙ lt-ltb 0 (length made.insns) (omega (arith, lt)) in
        let some : 0 < length back.0.insns = ltb-true _ _ code in
        let told : Frames = frames_in pair.class.methods (frames_told typing own) index in
        let many : length told ≡ length back.0.insns =
        told_count pair.class.methods (frames_told typing own) index back.0 (class_told old.classes typing.frames own pair.class shape pair.there) back.1 some in
        let t : Typed = record {
          body = body;
          frames = told;
          told = many;
          met = λ i less. rows_met old typing own index pair.class back.0 typed pair.there back.1 i;
        } in
        ap (λ (fs : Frames). row_in new own other made fs at)
        (frames_are old new policy mode g typing own index pair.class other back.0 pair.there pair.here back.1 code)
        ∙ all_met t at lt

    rows : IsTyped new made_typing
    rows own index at = by_class (slice_get new.classes own) refl
      where
        by_insn : (other : LinkedClass) (made : Method) → slice_get new.classes own ≡ Some other → slice_get other.methods index ≡ Some made
            → row_in new own other made (frames_in other.methods (frames_told made_typing own) index) at ≡ None
        by_insn other made e f =
            elim (cases_Bool (nat_lt at (length made.insns))) [
              | inl is ↦ method_row own index at other made e f (ltb-true _ _ is)
              | inr fails ↦
                  let past : length made.insns ≤ at = grind (arith, nat_tests) in
                  let fs : Frames = frames_in other.methods (frames_told made_typing own) index in
                  ap (option_and_then (λ (insn : Insn). row_failing fs (place_at new own other made at insn) (frame_of fs at)))
                  (slice_get_past made.insns at past)
            ]

        by_method : (other : LinkedClass) → slice_get new.classes own ≡ Some other → (o : Option Method) → slice_get other.methods index ≡ o
            → option_and_then (λ (m : Method). row_in new own other m (frames_in other.methods (frames_told made_typing own) index) at) o ≡ None
        by_method other e None f = refl
        by_method other e (Some made) f = by_insn other made e f

        by_class : (o : Option LinkedClass) → slice_get new.classes own ≡ o
            → option_and_then (λ (c : LinkedClass). row_of_method new made_typing own c index at) o ≡ None
        by_class None e = refl
        by_class (Some other) e = by_method other e (slice_get other.methods index) refl

pub woven_typed : WovenIsTyped
woven_typed old new policy mode typing g typed shape =
    record { typed = rows old new policy mode g typing typed shape; shaped = shaped old new policy mode g typing shape }

-- ---- which instructions have a frame

module _ (old new : Program) (policy : Policy) (mode : Mode) (typing : Typing) (g : IsGiven old new policy mode) (shape : IsLaidOut old typing.frames)
    (own index at : ℕ) (class : LinkedClass) (method : Method) (insn : Insn) (ref : Target)
    (there : IsInsnAt old own index at class method insn ref) where
  abbrev inside : at < length method.insns
  inside = slice_get_within method.insns at insn there.insn_there

  abbrev told : Frames
  told = frames_in class.methods (frames_told typing own) index

  told_many : length told ≡ length method.insns
  told_many =
      told_count class.methods (frames_told typing own) index method (class_told old.classes typing.frames own class shape there.class_there)
      there.method_there (omega (arith, inside))

  is_told : (k : ℕ) (frame : Option FrameType)
      → ((other : LinkedClass) (made : Method) (of_class : IsWovenClass (plan_of policy mode) (length old.classes) class other)
      → (of_method : IsWovenMethod (plan_of policy mode) (length old.classes) other.file.pool method made)
      → frame_of (frames_woven (client_of old policy mode own class method) told)
      (of.front (body_of old new policy mode g own index class other method made there.class_there there.method_there of_class of_method) at + k) ≡ frame)
      → IsToldAs new (typing_of old policy mode typing) own index (front policy mode method at + k) frame
  unfolding body_of
  is_told k frame typed_here =
      let own_class = each_on (IsWovenClass (plan_of policy mode) (length old.classes)) old.classes g.woven.own own class g.woven.classes there.class_there in
      let own_method = each_on (IsWovenMethod (plan_of policy mode) (length old.classes) own_class.0.file.pool) class.methods own_class.0.methods index
      method own_class.2.methods there.method_there in
      let other : LinkedClass = own_class.0 in
      let made : Method = own_method.0 in
      let b : Body = body_of old new policy mode g own index class other method made there.class_there there.method_there own_class.2 own_method.2 in
      let code : has_code method ≡ true = lt-ltb 0 (length method.insns) (omega (arith, inside)) in
      let new_there : slice_get new.classes own ≡ Some other =
      ap (λ (cs : List LinkedClass). slice_get cs own) g.woven.are
      ∙ get_left g.woven.own (g.woven.state ∷ []) own (slice_get_within g.woven.own own other own_class.1) ∙ own_class.1 in
      let is : frame_of (frames_in other.methods (frames_told (typing_of old policy mode typing) own) index) (front policy mode method at + k) ≡ frame =
      ap (λ (fs : Frames). frame_of fs (front policy mode method at + k))
      (frames_are old new policy mode g typing own index class other method there.class_there own_class.1 there.method_there code)
      ∙ ap (λ (n : ℕ). frame_of (frames_woven (client_of old policy mode own class method) told) (n + k)) (fronts_are (of.weaves b) at (omega (arith, inside)))
      ∙ typed_here other made own_class.2 own_method.2 in
      record {
        class = other;
        there = new_there;
        frame_is = is;
        reached =
            ap (λ (o : Option LinkedClass). option_map_or (λ (c : LinkedClass).
            reached_in c.methods (frames_told (typing_of old policy mode typing) own) index (front policy mode method at + k)) o false) new_there
            ∙ ap (λ (o : Option Method). option_map_or (λ (m : Method). has_code m
            && is_some (frame_of (frames_in other.methods (frames_told (typing_of old policy mode typing) own) index) (front policy mode method at + k)))
            o false) own_method.1
            ∙ ap (λ (c : Bool). c && is_some (frame_of (frames_in other.methods (frames_told (typing_of old policy mode typing) own) index)
            (front policy mode method at + k))) (code_same old new policy mode g b ∙ code)
            ∙ ap is_some is;
      }

  own_frame : (x : Option FrameType) × (slice_get told at ≡ Some x)
  own_frame = slice_there told at (omega (arith, told_many, inside))

  kept_is : low method.max_stack own_frame.0 ≡ kept_frame typing own class index method at
  kept_is = ap (low method.max_stack) (sym (ap frames.frame_or_none own_frame.1))

  -- one without a block
  client_told : has_block policy ref ≡ false
      → IsToldAs new (typing_of old policy mode typing) own index (front policy mode method at + 0)
      (option_map (frame_renamed (front_in (client_of old policy mode own class method))) (kept_frame typing own class index method at))
  unfolding body_of
  client_told bare =
      is_told 0 (option_map (frame_renamed (front_in (client_of old policy mode own class method))) (kept_frame typing own class index method at))
      (λ other made of_class of_method.
      let b : Body = body_of old new policy mode g own index class other method made there.class_there there.method_there of_class of_method in
      frames.frame_alone b told at insn ref own_frame.0 there.insn_there there.ref_there own_frame.1 bare (of.some b ref)
      ∙ ap (option_map (frame_renamed (front_in (client_of old policy mode own class method)))) kept_is)

-- one of a block
module _ (old new : Program) (policy : Policy) (mode : Mode) (typing : Typing) (g : IsGiven old new policy mode) (shape : IsLaidOut old typing.frames)
    (own index at : ℕ) (class : LinkedClass) (method : Method) (insn : Insn) (callee : ℕ)
    (there : IsInsnAt old own index at class method insn (target.ApiMethod callee)) (has : has_clauses policy callee ≡ true)
    (k : ℕ) (item : Item) (e : slice_get (items_of policy mode method.max_locals callee) k ≡ Some item) where
  abbrev its_frame : Option FrameType
  its_frame =
      item_typed (clauses_of policy callee) (front_in (client_of old policy mode own class method))
      (insn_place (client_of old policy mode own class method) at insn (target.ApiMethod callee)) (kept_frame typing own class index method at) item

  item_told : IsToldAs new (typing_of old policy mode typing) own index (front policy mode method at + k) its_frame
  unfolding body_of
  item_told =
      let x = own_frame old new policy mode typing g shape own index at class method insn (target.ApiMethod callee) there in
      is_told old new policy mode typing g shape own index at class method insn (target.ApiMethod callee) there k its_frame
      (λ other made of_class of_method.
      let b : Body = body_of old new policy mode g own index class other method made there.class_there there.method_there of_class of_method in
      frames.frame_item b (frames_in class.methods (frames_told typing own) index) at callee insn x.0 there.insn_there there.ref_there x.1 has k item e
      ∙ ap (λ (f : Option FrameType). item_typed (clauses_of policy callee) (front_in (client_of old policy mode own class method))
      (insn_place (client_of old policy mode own class method) at insn (target.ApiMethod callee)) f item)
      (kept_is old new policy mode typing g shape own index at class method insn (target.ApiMethod callee) there))

  reached_by : (these : Clauses) (near : Around) (role : Role) → is_some (frame_at these near role) ≡ is_reached role
  reached_by these near (roles.Save left) = refl
  reached_by these near (roles.Lock phase pushed) = refl
  reached_by these near (roles.Ask phase branch atom done) = refl
  reached_by these near (roles.Update phase branch update done) = refl
  reached_by these near (roles.Taken phase branch) = refl
  reached_by these near (roles.Stop phase done) = refl
  reached_by these near (roles.Unlock phase checked pushed) = refl
  reached_by these near (roles.Load n locked) = refl
  reached_by these near (roles.Call locked) = refl
  reached_by these near (roles.Keep locked) = refl
  reached_by these near roles.Give = refl
  reached_by these near roles.Leave = refl
  reached_by these near roles.Rethrow = refl
  reached_by these near roles.Unreached = refl

  some_by : (o : Option FrameType)
      → is_some (item_typed (clauses_of policy callee) (front_in (client_of old policy mode own class method))
      (insn_place (client_of old policy mode own class method) at insn (target.ApiMethod callee)) o item)
      ≡ (is_some o && is_reached item.role)
  some_by None = refl
  some_by (Some f) =
      reached_by (clauses_of policy callee)
      (around_of (front_in (client_of old policy mode own class method))
      (insn_place (client_of old policy mode own class method) at insn (target.ApiMethod callee)) f) item.role

  item_reached : reached new (typing_of old policy mode typing) own index (front policy mode method at + k)
      ≡ (is_some (kept_frame typing own class index method at) && is_reached item.role)
  item_reached = item_told.reached ∙ some_by (kept_frame typing own class index method at)

pub clients_told : ClientsAreTold
clients_told old new policy mode typing g shape own index at class method insn ref there bare =
    let here : front policy mode method at + 0 ≡ front policy mode method at = omega arith in
    subst (λ (n : ℕ). IsToldAs new (typing_of old policy mode typing) own index n
    (option_map (frame_renamed (front_in (client_of old policy mode own class method))) (kept_frame typing own class index method at))) here
    (client_told old new policy mode typing g shape own index at class method insn ref there bare)

pub blocks_told : BlocksAreTold
blocks_told old new policy mode typing g shape own index at class method insn callee there has k item e =
    item_told old new policy mode typing g shape own index at class method insn callee there has k item e

pub blocks_reached : BlocksAreReachedSo
blocks_reached old new policy mode typing g shape own index at class method insn callee there has k item e =
    item_reached old new policy mode typing g shape own index at class method insn callee there has k item e
