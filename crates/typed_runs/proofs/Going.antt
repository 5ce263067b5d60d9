-- Frames that go on within their method: what they hold fits the types that are told of where they go.
use Rattle.std.proofs.Common.{◌≡◌, ℕ, zero, suc, ◌+◌, ◌-◌, ◌≤◌, Bool, true, false, cond, List, [], ◌∷◌, ◌++◌, length, map, reverse, Some, refl, sym, ap, subst, ◌∙◌, arith}
use Rattle.std.specs.Prelude.{IsTrue, not, ◌&&◌, nat_le, nat_lt}
use Rattle.std.specs.List.{Contains, range_with_len}
use Rattle.std.proofs.lemmas.Bool.{and_parts, le-ltb, leb-true}
use Rattle.std.proofs.lemmas.List.{length-reverse, reverse-append, take-append-drop}
use Rattle.cert_format.specs.declared.typing.FrameType.{FrameType}
use Rattle.cert_format.specs.declared.typing.Typing.{Typing}
use Rattle.cert_format.specs.declared.typing.VType.{VType}
use Rattle.insn_codec.specs.declared.shape.Heap.{Heap}
use Rattle.insn_codec.specs.declared.shape.Shape.{Shape}
use Rattle.insn_codec.specs.declared.shape.Shape.TheVariants as shapes
use Rattle.insn_codec.specs.Control.{next_of, successors}
use Rattle.insn_codec.specs.Effect.{Moved, effect}
use Rattle.insn_codec.specs.Following.{Paired}
use Rattle.insn_codec.specs.Opcodes.{goes_on}
use Rattle.insn_codec.specs.Shapes.{shape_of}
use Rattle.insn_codec.specs.Encoding.{opcode_of}
use Rattle.insn_codec.specs.Table.{ends, is_heap}
use Rattle.insn_codec.proofs.Following.{follows}
use Rattle.insn_codec.proofs.Table.{goes_on_alike, goes_to_successor}
use Rattle.bytecode_model.specs.declared.program.LinkedClass.{LinkedClass}
use Rattle.bytecode_model.specs.declared.program.Method.{Method}
use Rattle.bytecode_model.specs.declared.program.Program.{Program}
use Rattle.bytecode_model.specs.Assigning.{assignable}
use Rattle.bytecode_model.specs.Described.{result_type}
use Rattle.bytecode_model.specs.Makes.{type_at, stores, changed, changed_by, local_after, topmost, below, yields, stack_after}
use Rattle.bytecode_model.specs.Order.{IsInOrder}
use Rattle.bytecode_model.specs.InsnPlace.{InsnPlace}
use Rattle.bytecode_model.specs.Rules.{goes_well, locals_fit, stack_fits, taken, Depth, Operand, Local}
use Rattle.bytecode_model.specs.Wants.{takes}
use Rattle.frame_types.specs.Moving.{padded, types_moved}
use Rattle.frame_types.proofs.Moving.{effect_typed}
use Rattle.guest_heap.specs.declared.frame.Frame.{Frame}
use Rattle.guest_heap.specs.declared.object.Object.{Object}
use Rattle.guest_heap.specs.declared.value.Value.{Value}
use Rattle.guest_frames.specs.Stepping.{fitted, moved_to, frame_stepped}
use Rattle.guest_frames.specs.Values.{values_moved, values_seen}
use Rattle.typed_runs.specs.Fitting.{fits_type}
use Rattle.typed_runs.specs.Frames.{AreRunning, AreWaiting, IsReady, Stands, stands_at}
use Rattle.typed_runs.specs.Programs.{IsTypedProgram}
use Rattle.typed_runs.proofs.Pairs.{AllWiden, Widens, map_widens, paired_append, paired_length, places_widen, reverse_widens, widened}
use Rattle.typed_runs.proofs.Rows.{goes_to, is_insn, moved_stands, rules}
use Rattle.typed_runs.proofs.Types.{fits_changed, respects, type_fits_over}

-- ---- locals and operands of these types

-- The locals are of these types, and the operands of these, which stand from the bottom.
pub record HoldTypes (program : Program) (heap : List Object) (class : LinkedClass) (method : Method) (from : ℕ → VType) (stack : List VType)
    (locals items : List Value) : Type 0 where
  pub locals_hold : Paired (fits_type program heap class method) locals (padded method.max_locals from)
  pub items_hold : Paired (fits_type program heap class method) items (reverse stack)

-- the types of locals and operands after an instruction
abbrev pub locals_following : InsnPlace → FrameType → ℕ → VType
locals_following place type = local_after place type.locals (taken place type)

abbrev pub stack_following : InsnPlace → FrameType → List VType
stack_following place type = stack_after place type.locals (length (takes place)) type.stack

module _ (program : Program) (order : IsInOrder program) (heap : List Object) (class : LinkedClass) (method : Method) where
  abbrev of : Value → VType → Bool
  of v t = fits_type program heap class method v t

  stack_widens : (ts us : List VType) → stack_fits program ts us ≡ true → AllWiden of ts us
  stack_widens [] [] e = tt
  stack_widens [] (u ∷ us) e = absurd cc
  stack_widens (t ∷ ts) [] e = absurd cc
  stack_widens (t ∷ ts) (u ∷ us) e =
      let a = and_parts (assignable program t u) (stack_fits program ts us) e in
      (λ v h. type_fits_over program order heap class method v t u a.0 h, stack_widens ts us a.1)

  fit_from : (from : ℕ → VType) (to : List VType) (k j : ℕ) → locals_fit program from k to ≡ true → assignable program (from (k + j)) (type_at to j) ≡ true
  fit_from from [] k j e = refl
  fit_from from (t ∷ to) k zero e =
      let a = and_parts (assignable program (from k) t) (locals_fit program from (k + 1) to) e in
      let same : k ≡ k + zero = omega arith in
      subst (λ (n : ℕ). assignable program (from n) t ≡ true) same a.0
  fit_from from (t ∷ to) k (suc j) e =
      let a = and_parts (assignable program (from k) t) (locals_fit program from (k + 1) to) e in
      let same : k + 1 + j ≡ k + suc j = omega arith in
      subst (λ (n : ℕ). assignable program (from n) (type_at to j) ≡ true) same (fit_from from to (k + 1) j a.1)

  pub locals_widen : (from : ℕ → VType) (to : List VType) → locals_fit program from 0 to ≡ true → (j : ℕ) → Widens of (from j) (type_at to j)
  locals_widen from to e j v h =
      let same : 0 + j ≡ j = omega arith in
      type_fits_over program order heap class method v (from j) (type_at to j)
      (subst (λ (n : ℕ). assignable program (from n) (type_at to j) ≡ true) same (fit_from from to 0 j e)) h

  -- what fits what an instruction leaves fits the frame type where control goes
  pub hold_there : (place : InsnPlace) (type to : FrameType) (locals items : List Value) → place.program ≡ program → goes_well place type to ≡ true
      → HoldTypes program heap class method (locals_following place type) (stack_following place type) locals items
      → HoldTypes program heap class method (type_at to.locals) to.stack locals items
  hold_there place type to locals items same e h =
      let left = stack_following place type in
      let from = locals_following place type in
      let well : (stack_fits program left to.stack && locals_fit program from 0 to.locals) ≡ true =
      subst (λ (p : Program). (stack_fits p left to.stack && locals_fit p from 0 to.locals) ≡ true) same e in
      let a = and_parts (stack_fits program left to.stack) (locals_fit program from 0 to.locals) well in
      record {
        locals_hold =
            widened of locals (padded method.max_locals from) _ (places_widen of from (type_at to.locals) (range_with_len 0 method.max_locals)
            (locals_widen from to.locals a.1)) h.locals_hold;
        items_hold = widened of items _ _ (reverse_widens of left to.stack (stack_widens left to.stack a.0)) h.items_hold;
      }

-- ---- what instructions leave

-- the operands, those that are taken on top
pub split_stack : (n : ℕ) (stack : List VType) → reverse stack ≡ reverse (topmost n stack) ++ reverse (below n stack)
split_stack n stack = ap reverse (sym (take-append-drop (length stack - n) stack)) ∙ reverse-append (below n stack) (topmost n stack)

module _ (program : Program) (heap : List Object) (place : InsnPlace) (type : FrameType) where
  abbrev fits_here : Value → VType → Bool
  fits_here v t = fits_type program heap place.class place.method v t

  -- one that works on its frame alone
  pub alone_holds : (locals items : List Value) → is_heap (shape_of place.insn) ≡ false
      → IsTrue (Depth place type) → IsTrue (Operand place type) → IsTrue (Local place type)
      → HoldTypes program heap place.class place.method (type_at type.locals) type.stack locals items
      → (m : Moved Value) × (effect values_moved (shape_of place.insn) locals items ≡ Some m)
      × HoldTypes program heap place.class place.method (locals_following place type) (stack_following place type) m.0 m.1
  alone_holds locals items alone depth operand local h =
      let l = follows values_moved types_moved fits_here (respects program heap place.class place.method) (shape_of place.insn) locals items _ _ _
      h.locals_hold h.items_hold (effect_typed place type alone depth operand local) in
      (l.0, l.1, record { locals_hold = l.2; items_hold = l.3 })

  module _ (what : Heap) (shape : shape_of place.insn ≡ shapes.Heap what) where
    kept : (t : VType) → Widens fits_here t (changed place (taken place type) t)
    kept t v h =
        subst (λ (s : Shape). fits_here v (changed_by place (taken place type) s t) ≡ true) (sym shape)
        (fits_changed program place heap (taken place type) what v t h)

    stays : (j : ℕ) → Widens fits_here (type_at type.locals j) (locals_following place type j)
    stays j v h =
        subst (λ (s : Shape). fits_here v (cond (stores s j) (type_at (taken place type) 0) (changed_by place (taken place type) s (type_at type.locals j))) ≡ true)
        (sym shape) (fits_changed program place heap (taken place type) what v (type_at type.locals j) h)

    -- one that does more leaves the locals
    pub locals_stay : (locals : List Value) → Paired fits_here locals (padded place.method.max_locals (type_at type.locals))
        → Paired fits_here locals (padded place.method.max_locals (locals_following place type))
    locals_stay locals p =
        widened fits_here locals _ _ (places_widen fits_here (type_at type.locals) (locals_following place type) (range_with_len 0 place.method.max_locals) stays) p

    -- and the operands that it does not take
    pub heap_holds : (locals items pushed : List Value) → Paired fits_here locals (padded place.method.max_locals (type_at type.locals))
        → Paired fits_here items (reverse (below (length (takes place)) type.stack))
        → Paired fits_here pushed (reverse (yields place type.locals (taken place type)))
        → HoldTypes program heap place.class place.method (locals_following place type) (stack_following place type) locals (pushed ++ items)
    heap_holds locals items pushed p q r =
        let n = length (takes place) in
        let stack = map (changed place (taken place type)) (below n type.stack) in
        let beneath : Paired fits_here items (reverse stack) =
        widened fits_here items (reverse (below n type.stack)) (reverse stack)
        (reverse_widens fits_here (below n type.stack) stack (map_widens fits_here (changed place (taken place type)) (below n type.stack) kept)) q in
        record {
          locals_hold = locals_stay locals p;
          items_hold =
              subst (λ (ts : List VType). Paired fits_here (pushed ++ items) ts) (sym (reverse-append stack (yields place type.locals (taken place type))))
              (paired_append fits_here pushed items (reverse (yields place type.locals (taken place type))) (reverse stack) r beneath);
        }

-- ---- a frame that goes on

fitted_there : (frame : Frame) (at : ℕ) (locals items : List Value) → length items ≤ frame.stack.size
    → fitted frame at locals items ≡ Some (moved_to frame at locals items)
fitted_there frame at locals items fit =
    let not_more : nat_lt frame.stack.size (length items) ≡ false = le-ltb frame.stack.size (length items) fit in
    rw not_more refl

module _ (program : Program) (typing : Typing) (ok : IsTypedProgram program typing) (heap : List Object) (frame : Frame) (s : Stands program typing frame) where
  abbrev pub AfterInsn : List Value → List Value → Type 0
  AfterInsn locals items = HoldTypes program heap s.class s.method (locals_following (stands_at s) s.type) (stack_following (stands_at s) s.type) locals items

  -- what the instruction leaves is at most the stack's size
  pub after_fits : length (stack_following (stands_at s) s.type) ≤ frame.stack.size
  after_fits =
      let d = and_parts (nat_le (length (takes (stands_at s))) (length s.type.stack)) _ (rules program typing ok frame s).depth in
      omega (arith, leb-true (length (stack_following (stands_at s) s.type)) s.method.max_stack d.1, s.size)

  pub enough_taken : length (takes (stands_at s)) ≤ length s.type.stack
  enough_taken =
      let d = and_parts (nat_le (length (takes (stands_at s))) (length s.type.stack)) _ (rules program typing ok frame s).depth in
      leb-true (length (takes (stands_at s))) (length s.type.stack) d.0

  items_fit : (locals items : List Value) → AfterInsn locals items → length items ≤ frame.stack.size
  items_fit locals items h =
      let many = paired_length (fits_type program heap s.class s.method) items (reverse (stack_following (stands_at s) s.type)) h.items_hold in
      omega (arith, many, length-reverse (stack_following (stands_at s) s.type), after_fits)

  -- The frame can go where control goes.
  pub went : (to : ℕ) (locals items : List Value) → AfterInsn locals items → fitted frame to locals items ≡ Some (moved_to frame to locals items)
  went to locals items h = fitted_there frame to locals items (items_fit locals items h)

  -- and it runs there, in front of those that wait for what its method gives
  pub runs_at : (to : ℕ) (locals items : List Value) (under : List Frame) → Contains (successors frame.at s.insn) to → AfterInsn locals items
      → AreWaiting program typing heap (result_type s.method.desc) under → AreRunning program typing heap (moved_to frame to locals items ∷ under)
  runs_at to locals items under has h waiting =
      let g = goes_to program typing ok frame s to has in
      let there = hold_there program ok.links.order heap s.class s.method (stands_at s) s.type g.type locals items refl g.takes h in (
        record {
          stands = moved_stands s to g.type g.insn g.told g.next locals items;
          locals = there.locals_hold;
          operands = there.items_hold;
          room = items_fit locals items h;
        },
        waiting,
      )

  -- control goes on after an instruction that does not end
  pub next_is : ends (shape_of s.insn) ≡ false → Contains (successors frame.at s.insn) (frame.at + 1)
  next_is stays =
      let goes : goes_on (opcode_of s.insn) ≡ true = goes_on_alike s.insn (is_insn program typing ok frame s) ∙ ap not stays in
      rw goes (0, omega arith, refl)

  pub runs_after : (items : List Value) (under : List Frame) → ends (shape_of s.insn) ≡ false → AfterInsn frame.locals items
      → AreWaiting program typing heap (result_type s.method.desc) under
      → AreRunning program typing heap (moved_to frame (frame.at + 1) frame.locals items ∷ under)
  runs_after items under stays h waiting = runs_at (frame.at + 1) frame.locals items under (next_is stays) h waiting

-- ---- an instruction that works on its frame alone

module _ (program : Program) (typing : Typing) (ok : IsTypedProgram program typing) (heap : List Object) (frame : Frame) (r : IsReady program typing heap frame) where
  -- The frame makes its step, and runs on.
  pub steps_alone : is_heap (shape_of r.stands.insn) ≡ false
      → (f : Frame) × (frame_stepped r.stands.insn frame ≡ Some f)
      × ((under : List Frame) → AreWaiting program typing heap (result_type r.stands.method.desc) under → AreRunning program typing heap (f ∷ under))
  steps_alone alone =
      let s = r.stands in
      let met = rules program typing ok frame s in
      let m = alone_holds program heap (stands_at s) s.type frame.locals frame.stack.items alone met.depth met.operand met.local
      (record { locals_hold = r.locals; items_hold = r.operands }) in
      let to = next_of values_seen s.insn frame.at frame.stack.items in
      let is : frame_stepped s.insn frame ≡ Some (moved_to frame to m.0.0 m.0.1) = rw m.1 (went program typing ok heap frame s to m.0.0 m.0.1 m.2) in (
        moved_to frame to m.0.0 m.0.1,
        is,
        λ under waiting. runs_at program typing ok heap frame s to m.0.0 m.0.1 under
            (goes_to_successor values_seen s.insn frame.at frame.stack.items (is_insn program typing ok frame s) alone) m.2 waiting,
      )
