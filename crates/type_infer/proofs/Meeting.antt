-- Where nothing is left to be looked at, the frames that are found meet the rules.
use Rattle.std.proofs.Common.{◌≡◌, ℕ, suc, ◌<◌, Bool, true, false, cond, List, [], ◌∷◌, length, Option, Some, None, refl, sym, ap, subst, ◌∙◌, inl, inr, arith}
use Rattle.std.specs.Prelude.{Contains, not, ◌&&◌, ◌||◌, ◌==◌, nat_le, slice_get, option_map, option_and_then}
use Rattle.std.specs.List.{list_all}
use Rattle.std.specs.Option.{option_map_or}
use Rattle.std.proofs.lemmas.Bool.{cases_Bool, and_from, le-leb}
use Rattle.std.proofs.lemmas.Bool.Decides.{Decides-eqb}
use Rattle.std.proofs.lemmas.Slice.Eq.{bytes_eq-Decides}
use Rattle.api_listing.specs.BuiltIn.{throwable}
use Rattle.cert_format.specs.declared.typing.FrameType.{FrameType}
use Rattle.cert_format.specs.declared.typing.VType.{VType}
use Rattle.cert_format.specs.declared.typing.VType.TheVariants as types
use Rattle.insn_codec.specs.declared.insn.Insn.{Insn}
use Rattle.insn_codec.specs.declared.shape.Heap.TheVariants as heap
use Rattle.insn_codec.specs.declared.shape.Shape.{Shape}
use Rattle.insn_codec.specs.declared.shape.Shape.TheVariants as shapes
use Rattle.insn_codec.specs.Control.{successors}
use Rattle.insn_codec.specs.Shapes.{shape_of}
use Rattle.bytecode_model.specs.declared.program.Handler.{Handler}
use Rattle.bytecode_model.specs.declared.program.Method.{Method}
use Rattle.bytecode_model.specs.declared.program.Program.{Program}
use Rattle.bytecode_model.specs.Classes.{is_below}
use Rattle.bytecode_model.specs.Makes.{type_at}
use Rattle.code_typing.specs.Order.{IsFrameBelow, is_settled_at, StackBelow}
use Rattle.bytecode_model.specs.InsnPlace.{InsnPlace, is_maker}
use Rattle.bytecode_model.specs.Rules.{Frames, frame_of, covers, class_caught, entry_locals, is_alone, goes_well, catches_well, Successor, Caught, Entry, rule_failing, row_failing}
use Rattle.bytecode_model.specs.Typed.{place_at}
use Rattle.type_infer.specs.Laws.{Laws}
use Rattle.type_infer.specs.Solving.{Scope, State, place_of, is_marked, AreBelow, HasCome, Holds, IsMetBy, IsSolution, begun, left_by, thrown_to}
use Rattle.type_infer.proofs.Below.{locals_fit_below, stack_at, stack_height}
use Rattle.type_infer.proofs.Flowing.{IsUnder, is_under, thrown_fits, place_is, some_one}
use Rattle.type_infer.proofs.Solutions.{entered}

-- ---- tests

all_from : {A : Type 0} (p : A → Bool) (xs : List A) → ((x : A) → Contains xs x → p x ≡ true) → list_all p xs ≡ true
all_from p [] h = refl
all_from p (x ∷ xs) h = and_from _ _ (h x (0, omega arith, refl)) (all_from p xs (λ y (k, within, is). h y (suc k, omega arith, is)))

unfailing : (a b c d e f : Bool) → a ≡ true → b ≡ true → c ≡ true → d ≡ true → e ≡ true → f ≡ true
    → cond {A = Option ℕ} (not a) (Some 2) (cond (not b) (Some 3) (cond (not c) (Some 4) (cond (not d) (Some 5) (cond (not e) (Some 6) (cond (not f) (Some 7) None))))) ≡ None
unfailing a b c d e f ha hb hc hd he hf = rw (ha, hb, hc, hd, he, hf) refl

not_first : (b : Bool) (rest : Option ℕ) → b ≡ true → rest ≡ None → cond (not b) (Some 1) rest ≡ None
not_first true rest e h = h
not_first false rest e h = absurd cc

handled_from : (covered roomy below there : Bool) → (covered ≡ true → (roomy ≡ true) × (below ≡ true) × (there ≡ true)) → (not covered || (roomy && (below && there))) ≡ true
handled_from false roomy below there h = refl
handled_from true roomy below there h =
    let p = h refl in
    and_from roomy _ p.0 (and_from below there p.1 p.2)

there_from : (f : FrameType → Bool) (o : Option FrameType) (frame : FrameType) → o ≡ Some frame → f frame ≡ true → option_map_or f o false ≡ true
there_from f o frame e h = ap (λ (x : Option FrameType). option_map_or f x false) e ∙ h

one_operand : (class : List ℕ) (stack : List VType) → length stack ≡ 1 → type_at stack 0 ≡ types.Ref class → is_alone class stack ≡ true
one_operand class [] n e = absurd (omega arith)
one_operand class (t ∷ []) n e = ap (λ (u : VType). is_alone class (u ∷ [])) e ∙ (bytes_eq-Decides class class).1 refl
one_operand class (t ∷ u ∷ stack) n e = absurd (omega arith)

-- a frame of Top but for what is thrown has no object
thrown_settled : (place : InsnPlace) (class : List ℕ) (shape : Shape) → is_settled_at place (record { locals = []; stack = types.Ref class ∷ [] }) shape ≡ true
thrown_settled place class (shapes.Heap heap.New) = refl
thrown_settled place class (shapes.Heap (heap.Return None)) =
    elim (cases_Bool (is_maker place.method)) [
      | inl maker ↦ rw maker refl
      | inr other ↦ rw other refl
    ]
thrown_settled place class other = refl

module _ (scope : Scope) (laws : Laws scope.program) (limit : ℕ) (above : Frames) (met : IsMetBy scope limit above) (state : State) (h : Holds scope limit above state)
    (over : (at : ℕ) → at < limit → is_marked state.marks at ≡ false) where
  module _ (at : ℕ) (within : at < limit) (place : InsnPlace) (there : place_of scope at ≡ Some place) (low : FrameType) (is : frame_of state.frames at ≡ Some low) where
    under : IsUnder scope above at place low
    under = is_under scope laws above at place low (met.met at within) there (h.found.found at low is)

    p : (place.program ≡ scope.program) × (place.method ≡ scope.method) × (place.at ≡ at)
    p = place_is scope at place there

    follows : Successor state.frames place low ≡ true
    follows =
        all_from _ (successors place.at place.insn)
        (λ to c.
        let c' = subst (λ (n : ℕ). Contains (successors n place.insn) to) p.2 c in
        let come = (h.done at within).goes place there to c' (over at within) place low there is in
        let below = subst (λ (q : Program). AreBelow q (left_by place low) come.frame) (sym p.0) come.below in
        there_from (goes_well place low) (frame_of state.frames to) come.frame come.there
        (and_from _ _ below.operands (locals_fit_below place.program _ come.frame.locals below.locals)))

    -- what is thrown stands alone
    stands_alone : (handler : Handler) (c : Contains scope.method.handlers handler) (covered : covers at handler ≡ true) (come : HasCome scope.program state.frames handler.at (thrown_to handler place low))
        → is_alone (class_caught handler) come.frame.stack ≡ true
    stands_alone handler c covered come =
        let t = thrown_fits scope laws above at place low there under handler c covered in
        let f = h.found.found handler.at come.frame come.there in
        let class = class_caught handler in
        let top : FrameType = record { locals = []; stack = types.Ref class ∷ [] } in
        let same : f.high ≡ t.high = some_one f.high t.high (sym f.there ∙ t.there) in
        let stack : f.high.stack ≡ types.Ref class ∷ [] = ap (λ (g : FrameType). g.stack) same ∙ t.stack in
        let higher : IsFrameBelow scope.program f.high top =
        record { stack = subst (λ (s : List VType). StackBelow scope.program s (types.Ref class ∷ [])) (sym stack) ((laws.itself top).stack); locals = λ j. refl } in
        let below = f.below top higher (thrown_settled f.place class (shape_of f.place.insn)) in
        let up = stack_at scope.program come.frame.stack top.stack below.stack 0 in
        let down = stack_at scope.program (types.Ref class ∷ []) come.frame.stack come.below.operands 0 in
        one_operand class come.frame.stack (stack_height scope.program come.frame.stack top.stack below.stack) (laws.thrown_alone class (type_at come.frame.stack 0) t.class down up)

    catches : Caught state.frames place low ≡ true
    catches =
        all_from _ place.method.handlers
        (λ handler c.
        handled_from (covers place.at handler) (nat_le 1 place.method.max_stack) (is_below place.program (class_caught handler) throwable) _
        (λ covered.
        let c' = subst (λ (m : Method). Contains m.handlers handler) p.1 c in
        let covered' = subst (λ (n : ℕ). covers n handler ≡ true) p.2 covered in
        let t = thrown_fits scope laws above at place low there under handler c' covered' in
        let come = (h.done at within).throws handler c' covered' (over at within) place low there is in
        let locals = subst (λ (q : Program). AreBelow q (thrown_to handler place low) come.frame) (sym p.0) come.below in (
          le-leb 1 place.method.max_stack t.room,
          subst (λ (q : Program). is_below q (class_caught handler) throwable ≡ true) (sym p.0) t.class,
          there_from (catches_well place low handler) (frame_of state.frames handler.at) come.frame come.there
              (and_from _ _ (stands_alone handler c' covered' come) (locals_fit_below place.program _ come.frame.locals locals.locals)),
        )))

    rules : rule_failing state.frames place low ≡ None
    rules = unfailing _ _ _ _ _ _ under.alone.depth under.alone.operand under.alone.local under.alone.made follows catches

    entry : at ≡ 0 → Entry place low ≡ true
    entry first =
        let there' = subst (λ (n : ℕ). place_of scope n ≡ Some place) first there in
        let e = entered scope laws limit above place met there' in
        let come = h.begun place there' in
        let same : come.frame ≡ low = some_one come.frame low (sym come.there ∙ subst (λ (n : ℕ). frame_of state.frames n ≡ Some low) first is) in
        let below = subst (λ (q : Program). AreBelow q (begun place) low) (sym p.0) (subst (AreBelow scope.program (begun place)) same come.below) in
        let empty : length low.stack ≡ 0 = sym (stack_height place.program [] low.stack below.operands) in
        and_from _ _ (le-leb (length (entry_locals place)) place.method.max_locals e.within)
        (and_from _ _ (locals_fit_below place.program _ low.locals below.locals) ((Decides-eqb (length low.stack) 0).1 empty))

    pub row : row_failing state.frames place (Some low) ≡ None
    row =
        elim (cases_Bool (place.at == 0)) [
          | inl first ↦
              let zero_at : at ≡ 0 = sym p.2 ∙ (Decides-eqb place.at 0).0 first in
              rw first (not_first (Entry place low) (rule_failing state.frames place low) (entry zero_at) rules)
          | inr later ↦ rw later rules
        ]

  unreached : (at : ℕ) (place : InsnPlace) → place_of scope at ≡ Some place → frame_of state.frames at ≡ None → row_failing state.frames place None ≡ None
  unreached at place there none =
      elim (cases_Bool (place.at == 0)) [
        | inl first ↦
            let zero_at : at ≡ 0 = sym (place_is scope at place there).2 ∙ (Decides-eqb place.at 0).0 first in
            let come = h.begun place (subst (λ (n : ℕ). place_of scope n ≡ Some place) zero_at there) in
            let no = subst (λ (n : ℕ). frame_of state.frames n ≡ None) zero_at none in
            let yes = come.there in
            absurd cc
        | inr later ↦ rw later refl
      ]

  frame_row : (at : ℕ) → at < limit → (place : InsnPlace) → place_of scope at ≡ Some place → (o : Option FrameType) → frame_of state.frames at ≡ o → row_failing state.frames place o ≡ None
  frame_row at within place there None is = unreached at place there is
  frame_row at within place there (Some low) is = row at within place there low is

  insn_row : (at : ℕ) → at < limit → (insn : Option Insn) → slice_get scope.method.insns at ≡ insn
      → option_and_then (λ (i : Insn). row_failing state.frames (place_at scope.program scope.own scope.class scope.method at i) (frame_of state.frames at)) insn ≡ None
  insn_row at within None is = refl
  insn_row at within (Some insn) is =
      let place = place_at scope.program scope.own scope.class scope.method at insn in
      let there : place_of scope at ≡ Some place = ap (option_map (λ (i : Insn). place_at scope.program scope.own scope.class scope.method at i)) is in
      frame_row at within place there (frame_of state.frames at) refl

  place_for : (at : ℕ) (low : FrameType) → frame_of state.frames at ≡ Some low → (place : InsnPlace) × (place_of scope at ≡ Some place)
  place_for at low is = let f = h.found.found at low is in (f.place, f.placed)

  pub solution : IsSolution scope limit above state.frames
  solution = record {
    met = λ at within. insn_row at within (slice_get scope.method.insns at) refl;
    least = λ at low within is.
        let q = place_for at low is in
        let u = under at within q.0 q.1 low is in
        (u.high, (u.there, u.below));
  }
