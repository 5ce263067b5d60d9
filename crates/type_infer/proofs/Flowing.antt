-- What flows from a frame that is below one at which the rules are met.
use Rattle.std.proofs.Common.{◌≡◌, ℕ, ◌≤◌, Bool, true, false, cond, List, [], ◌∷◌, length, Option, Some, None, refl, sym, ap, subst, ◌∙◌}
use Rattle.std.specs.Prelude.{Contains, not, ◌&&◌, ◌||◌, slice_get, option_map, option_and_then}
use Rattle.std.specs.List.{list_all}
use Rattle.std.specs.Option.{option_map_or}
use Rattle.std.proofs.lemmas.Bool.{and_from, and_parts, leb-true}
use Rattle.std.proofs.lemmas.List.Elements.{All-contains}
use Rattle.std.proofs.lemmas.List.Sums.{AllPass-from_list_all}
use Rattle.std.proofs.lemmas.Slice.Eq.{bytes_eq-Decides}
use Rattle.api_listing.specs.BuiltIn.{throwable}
use Rattle.cert_format.specs.declared.typing.FrameType.{FrameType}
use Rattle.cert_format.specs.declared.typing.VType.{VType}
use Rattle.cert_format.specs.declared.typing.VType.TheVariants as types
use Rattle.insn_codec.specs.declared.insn.Insn.{Insn}
use Rattle.insn_codec.specs.declared.shape.Heap.TheVariants as heap
use Rattle.insn_codec.specs.declared.shape.Shape.{Shape}
use Rattle.insn_codec.specs.declared.shape.Shape.TheVariants as shapes
use Rattle.insn_codec.specs.Control.{successors}
use Rattle.insn_codec.specs.Shapes.{shape_of}
use Rattle.bytecode_model.specs.declared.program.Handler.{Handler}
use Rattle.bytecode_model.specs.declared.program.Method.{Method}
use Rattle.bytecode_model.specs.declared.program.Program.{Program}
use Rattle.bytecode_model.specs.Classes.{is_below}
use Rattle.bytecode_model.specs.Assigning.{assignable}
use Rattle.bytecode_model.specs.Order.{IsInOrder}
use Rattle.bytecode_model.specs.Makes.{type_at}
use Rattle.code_typing.specs.Order.{IsFrameBelow, IsAloneMet, is_settled, is_settled_at, StackBelow}
use Rattle.bytecode_model.specs.InsnPlace.{InsnPlace}
use Rattle.bytecode_model.specs.Rules.{Frames, frame_of, covers, class_caught, local_caught, is_alone, is_handled, goes_well, catches_well, Successor, Caught, Depth, Operand, Local, Made, made_well, rule_failing, row_failing}
use Rattle.bytecode_model.specs.Typed.{place_at}
use Rattle.type_infer.specs.Laws.{Laws}
use Rattle.type_infer.specs.Solving.{Scope, place_of, RowIsMet, IsFound, Left, AreBelow, left_by, thrown_to}
use Rattle.type_infer.proofs.Below.{locals_below, left_over}

-- ---- a row that is met

pub contained : {A : Type 0} (p : A → Bool) (xs : List A) (x : A) → list_all p xs ≡ true → Contains xs x → p x ≡ true
contained p xs x h c = All-contains (λ y. p y ≡ true) xs x (AllPass-from_list_all p xs h) c

passed : {A : Type 0} (b : Bool) (x : A) (rest : Option A) → cond (not b) (Some x) rest ≡ None → (b ≡ true) × (rest ≡ None)
passed true x rest e = (refl, e)
passed false x rest e = absurd cc

after_entry : {A : Type 0} (b : Bool) (x : A) (rest : Option A) → cond b (Some x) rest ≡ None → rest ≡ None
after_entry true x rest e = absurd cc
after_entry false x rest e = e

pub record IsRowMet (frames : Frames) (place : InsnPlace) (frame : FrameType) : Type 0 where
  pub alone : IsAloneMet place frame
  pub successor : Successor frames place frame ≡ true
  pub caught : Caught frames place frame ≡ true

rules_met : (frames : Frames) (place : InsnPlace) (frame : FrameType) → rule_failing frames place frame ≡ None → IsRowMet frames place frame
rules_met frames place frame e =
    let depth = passed (Depth place frame) 2 _ e in
    let operand = passed (Operand place frame) 3 _ depth.1 in
    let local = passed (Local place frame) 4 _ operand.1 in
    let made = passed (Made place frame) 5 _ local.1 in
    let successor = passed (Successor frames place frame) 6 _ made.1 in
    let caught = passed (Caught frames place frame) 7 _ successor.1 in
    record { alone = record { depth = depth.0; operand = operand.0; local = local.0; made = made.0 }; successor = successor.0; caught = caught.0 }

pub insn_there : {A B : Type 0} (f : A → B) (o : Option A) (y : B) → option_map f o ≡ Some y → (x : A) × (o ≡ Some x) × (f x ≡ y)
insn_there f None y e = absurd cc
insn_there f (Some x) y e = (x, refl, cc)

pub row_of : (scope : Scope) (frames : Frames) (at : ℕ) (place : InsnPlace) → RowIsMet scope frames at → place_of scope at ≡ Some place → row_failing frames place (frame_of frames at) ≡ None
row_of scope frames at place row there =
    let h = insn_there _ (slice_get scope.method.insns at) place there in
    let insn = h.0 in
    let e : option_and_then (λ (i : Insn). row_failing frames (place_at scope.program scope.own scope.class scope.method at i) (frame_of frames at)) (Some insn) ≡ None = rw h.1 at row in
    subst (λ (p : InsnPlace). row_failing frames p (frame_of frames at) ≡ None) h.2 e

pub row_met : (scope : Scope) (frames : Frames) (at : ℕ) (place : InsnPlace) (frame : FrameType) → RowIsMet scope frames at → place_of scope at ≡ Some place → frame_of frames at ≡ Some frame
    → IsRowMet frames place frame
row_met scope frames at place frame row there e =
    let h : row_failing frames place (Some frame) ≡ None = ap (row_failing frames place) (sym e) ∙ row_of scope frames at place row there in
    rules_met frames place frame (after_entry _ 1 _ h)

made_settled : (place : InsnPlace) (frame : FrameType) (shape : Shape) → made_well place frame shape ≡ true → is_settled_at place frame shape ≡ true
made_settled place frame (shapes.Heap heap.New) h = h
made_settled place frame (shapes.Heap (heap.Return None)) h = h
made_settled place frame other h = refl

pub some_one : {A : Type 0} (x y : A) → ◌≡◌ {A = Option A} (Some x) (Some y) → x ≡ y
some_one x y e = cc

-- ---- what a frame takes

alone_is : (class : List ℕ) (stack : List VType) → is_alone class stack ≡ true → stack ≡ types.Ref class ∷ []
alone_is class [] h = absurd cc
alone_is class (types.Ref name ∷ []) h = ap (λ (n : List ℕ). types.Ref n ∷ []) ((bytes_eq-Decides name class).0 h)
alone_is class (types.Top ∷ []) h = absurd cc
alone_is class (types.Int ∷ []) h = absurd cc
alone_is class (types.Null ∷ []) h = absurd cc
alone_is class (types.UninitThis ∷ []) h = absurd cc
alone_is class (types.Uninit i ∷ []) h = absurd cc
alone_is class (t ∷ u ∷ stack) h = absurd cc

pub goes_below : (place : InsnPlace) (frame to : FrameType) → goes_well place frame to ≡ true → AreBelow place.program (left_by place frame) to
goes_below place frame to h =
    let parts = and_parts _ _ h in
    record { operands = parts.0; locals = locals_below place.program _ to.locals parts.1 }

pub record IsCaughtBy (place : InsnPlace) (frame : FrameType) (handler : Handler) (to : FrameType) : Type 0 where
  pub stack : to.stack ≡ types.Ref (class_caught handler) ∷ []
  pub below : AreBelow place.program (thrown_to handler place frame) to

pub catches_below : (place : InsnPlace) (frame : FrameType) (handler : Handler) (to : FrameType) → ((t : VType) → assignable place.program t t ≡ true) → catches_well place frame handler to ≡ true
    → IsCaughtBy place frame handler to
catches_below place frame handler to reflexive h =
    let parts = and_parts _ _ h in
    let stack = alone_is (class_caught handler) to.stack parts.0 in
    let operands : StackBelow place.program (types.Ref (class_caught handler) ∷ []) to.stack =
    subst (λ (s : List VType). StackBelow place.program (types.Ref (class_caught handler) ∷ []) s) (sym stack) (and_from _ _ (reflexive (types.Ref (class_caught handler))) refl) in
    record { stack = stack; below = record { operands = operands; locals = locals_below place.program _ to.locals parts.1 } }

-- ---- a frame that is found

-- It is below one at which the rules are met, and meets those that ask nothing of other instructions.
pub record IsUnder (scope : Scope) (above : Frames) (at : ℕ) (place : InsnPlace) (low : FrameType) : Type 0 where
  pub high : FrameType
  pub there : frame_of above at ≡ Some high
  pub row : IsRowMet above place high
  pub below : IsFrameBelow scope.program low high
  pub alone : IsAloneMet place low

pub place_is : (scope : Scope) (at : ℕ) (place : InsnPlace) → place_of scope at ≡ Some place → (place.program ≡ scope.program) × (place.method ≡ scope.method) × (place.at ≡ at)
place_is scope at place there =
    let h = insn_there _ (slice_get scope.method.insns at) place there in
    (ap (λ (p : InsnPlace). p.program) (sym h.2), ap (λ (p : InsnPlace). p.method) (sym h.2), ap (λ (p : InsnPlace). p.at) (sym h.2))

module _ (scope : Scope) (laws : Laws scope.program) (above : Frames) where
  pub is_under : (at : ℕ) (place : InsnPlace) (low : FrameType) → RowIsMet scope above at → place_of scope at ≡ Some place → IsFound scope above at low → IsUnder scope above at place low
  is_under at place low row there f =
      let same : f.place ≡ place = some_one f.place place (sym f.placed ∙ there) in
      let program = place_is scope at place there in
      let met = row_met scope above at place f.high row there f.there in
      let settled : is_settled f.place f.high ≡ true =
      subst (λ (p : InsnPlace). is_settled p f.high ≡ true) (sym same) (made_settled place f.high (shape_of place.insn) met.alone.made) in
      let below = f.below f.high (laws.itself f.high) settled in
      let here : IsFrameBelow place.program low f.high = subst (λ (p : Program). IsFrameBelow p low f.high) (sym program.0) below in
      let order = subst IsInOrder (sym program.0) laws.order in
      let kept = subst (λ (p : InsnPlace). is_settled p low ≡ true) same f.settled in
      let within = subst (λ (m : Method). length low.locals ≤ m.max_locals) (sym program.1) f.within in
      record { high = f.high; there = f.there; row = met; below = below; alone = laws.alone place order low f.high here met.alone kept within }

  -- ---- what it leaves and throws

  frame_there : (f : FrameType → Bool) (o : Option FrameType) → option_map_or f o false ≡ true → (frame : FrameType) × ((o ≡ Some frame) × (f frame ≡ true))
  frame_there f None e = absurd cc
  frame_there f (Some frame) e = (frame, (refl, e))

  -- It may stand in the place of the frame above to which it goes.
  pub record Fits (to : ℕ) (left : Left) : Type 0 where
    pub high : FrameType
    pub there : frame_of above to ≡ Some high
    pub below : AreBelow scope.program left high

  pub left_fits : (at : ℕ) (place : InsnPlace) (low : FrameType) → place_of scope at ≡ Some place → IsUnder scope above at place low → (to : ℕ) → Contains (successors at place.insn) to
      → Fits to (left_by place low)
  left_fits at place low there u to c =
      let p = place_is scope at place there in
      let c' : Contains (successors place.at place.insn) to = subst (λ (n : ℕ). Contains (successors n place.insn) to) (sym p.2) c in
      let h = frame_there (goes_well place u.high) (frame_of above to) (contained _ (successors place.at place.insn) to u.row.successor c') in
      let order = subst IsInOrder (sym p.0) laws.order in
      let here : IsFrameBelow place.program low u.high = subst (λ (q : Program). IsFrameBelow q low u.high) (sym p.0) u.below in
      let left = laws.left place order low u.high here u.row.alone in
      let transitive = subst (λ (q : Program). (t v w : VType) → assignable q t v ≡ true → assignable q v w ≡ true → assignable q t w ≡ true) (sym p.0) laws.transitive in
      let all = left_over place.program transitive (left_by place low) (left_by place u.high) h.0 left.stack left.locals (goes_below place u.high h.0 h.1.1) in
      record { high = h.0; there = h.1.0; below = subst (λ (q : Program). AreBelow q (left_by place low) h.0) p.0 all }

  handled : (covered roomy below there : Bool) → (not covered || (roomy && (below && there))) ≡ true → covered ≡ true → (roomy ≡ true) × (below ≡ true) × (there ≡ true)
  handled true true true true h c = (refl, refl, refl)
  handled true true true false h c = absurd cc
  handled true true false there h c = absurd cc
  handled true false below there h c = absurd cc
  handled false roomy below there h c = absurd cc

  -- The handler has room for what is thrown there, which may stand in the place of its frame above.
  pub record IsThrown (place : InsnPlace) (low : FrameType) (handler : Handler) : Type 0 where
    pub room : 1 ≤ place.method.max_stack
    pub class : is_below scope.program (class_caught handler) throwable ≡ true
    pub high : FrameType
    pub there : frame_of above handler.at ≡ Some high
    pub stack : high.stack ≡ types.Ref (class_caught handler) ∷ []
    pub below : AreBelow scope.program (thrown_to handler place low) high

  pub thrown_fits : (at : ℕ) (place : InsnPlace) (low : FrameType) → place_of scope at ≡ Some place → IsUnder scope above at place low → (handler : Handler) → Contains scope.method.handlers handler
      → covers at handler ≡ true → IsThrown place low handler
  thrown_fits at place low there u handler c covered =
      let p = place_is scope at place there in
      let c' : Contains place.method.handlers handler = subst (λ (m : Method). Contains m.handlers handler) (sym p.1) c in
      let covered' : covers place.at handler ≡ true = subst (λ (n : ℕ). covers n handler ≡ true) (sym p.2) covered in
      let h = handled _ _ _ _ (contained (is_handled above place u.high) place.method.handlers handler u.row.caught c') covered' in
      let f = frame_there (catches_well place u.high handler) (frame_of above handler.at) h.2 in
      let order = subst IsInOrder (sym p.0) laws.order in
      let here : IsFrameBelow place.program low u.high = subst (λ (q : Program). IsFrameBelow q low u.high) (sym p.0) u.below in
      let thrown = laws.thrown place order low u.high here in
      let transitive = subst (λ (q : Program). (t v w : VType) → assignable q t v ≡ true → assignable q v w ≡ true → assignable q t w ≡ true) (sym p.0) laws.transitive in
      let reflexive = subst (λ (q : Program). (t : VType) → assignable q t t ≡ true) (sym p.0) laws.reflexive in
      let caught = catches_below place u.high handler f.0 reflexive f.1.1 in
      let all : AreBelow place.program (thrown_to handler place low) f.0 =
      record {
        operands = caught.below.operands;
        locals = λ j. transitive (local_caught low.locals j) (local_caught u.high.locals j) (type_at f.0.locals j) (thrown j) (caught.below.locals j);
      } in
      record {
        room = leb-true 1 place.method.max_stack h.0;
        class = subst (λ (q : Program). is_below q (class_caught handler) throwable ≡ true) p.0 h.1;
        high = f.0;
        there = f.1.0;
        stack = caught.stack;
        below = subst (λ (q : Program). AreBelow q (thrown_to handler place low) f.0) p.0 all;
      }
