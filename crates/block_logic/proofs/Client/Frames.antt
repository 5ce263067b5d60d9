-- Frames of the client's code: where control goes from them the client's code goes on, and a frame that begins begins there.
use Rattle.std.proofs.Common.{◌≡◌, ℕ, ◌+◌, Bool, true, false, cond, List, ◌∷◌, Some, None, refl, sym, ap, subst, ◌∙◌, inr}
use Rattle.std.specs.Prelude.{Contains, is_some, not}
use Rattle.std.proofs.lemmas.Option.{cond_some}
use Rattle.block_logic.specs.Annotations.{Annotations}
use Rattle.cert_format.specs.declared.note.Note.{Note}
use Rattle.cert_format.specs.declared.note.Note.TheVariants as notes
use Rattle.insn_codec.specs.declared.insn.Insn.{Insn}
use Rattle.insn_codec.specs.declared.shape.Heap.{Heap}
use Rattle.insn_codec.specs.declared.shape.Heap.TheVariants as heap
use Rattle.insn_codec.specs.declared.shape.How.{How}
use Rattle.insn_codec.specs.declared.shape.Shape.{Shape}
use Rattle.insn_codec.specs.declared.shape.Shape.TheVariants as shapes
use Rattle.insn_codec.specs.Control.{jump_targets}
use Rattle.insn_codec.specs.Fits.{IsInsn}
use Rattle.insn_codec.specs.Opcodes.{goes_on}
use Rattle.insn_codec.specs.Shapes.{shape_of}
use Rattle.insn_codec.specs.Encoding.{opcode_of}
use Rattle.insn_codec.specs.Table.{ends}
use Rattle.insn_codec.proofs.Table.{goes_on_alike}
use Rattle.bytecode_model.specs.declared.program.Handler.{Handler}
use Rattle.bytecode_model.specs.declared.program.Method.{Method}
use Rattle.bytecode_model.specs.declared.program.Program.{Program}
use Rattle.bytecode_model.specs.declared.program.Target.{Target}
use Rattle.bytecode_model.specs.SearchOrder.{Name}
use Rattle.conspec_automaton.specs.declared.policy.Policy.{Policy}
use Rattle.guest_heap.specs.declared.frame.Frame.{Frame}
use Rattle.guest_frames.specs.Stepping.{moved_to}
use Rattle.guest_heap.specs.declared.value.Value.{Value}
use Rattle.guest_model.specs.Places.{insn_at, insn_in, method_at}
use Rattle.guest_model.specs.Throwing.{handler_of}
use Rattle.guest_model.proofs.Options.{and_then_of}
use Rattle.block_logic.specs.Accepted.{rules_of}
use Rattle.block_logic.specs.Fitting.{AreBelow, AreClientFrames}
use Rattle.block_logic.specs.Meaning.{AreClean, IsBelow, IsFrame, note_at, note_of}
use Rattle.block_logic.specs.Obeying.{IsObeying}
use Rattle.block_logic.specs.Operands.{calls, pushes_state, variable_named}
use Rattle.block_logic.specs.Rows.{Asked, Open, Row, Taking, Rules, free_row, leads}
use Rattle.block_logic.specs.Weakening.{is_open}
use Rattle.block_logic.proofs.Ruled.{BeginsOpen, LeadsTo, OpensFree, RulesHold}

-- ---- shapes

call_of : (what : Heap) → calls (shapes.Heap what) ≡ true → (how : How) × (shapes.Heap what ≡ shapes.Heap (heap.Call how))
call_of (heap.Call how) e = (how, refl)
call_of other e = absurd cc

call_shape : (shape : Shape) → calls shape ≡ true → (how : How) × (shape ≡ shapes.Heap (heap.Call how))
call_shape (shapes.Heap what) e = call_of what e
call_shape other e = absurd cc

-- control goes on after a call, which pushes no constant
call_stays : (shape : Shape) → calls shape ≡ true → ends shape ≡ false
call_stays shape e = ap ends (call_shape shape e).1

call_pushes : (shape : Shape) (ref : Target) → calls shape ≡ true → pushes_state shape ref ≡ false
call_pushes shape ref e = ap (λ (s : Shape). pushes_state s ref) (call_shape shape e).1

-- ---- the row of the client

abbrev open_row : Row
open_row = record { past = Open; jump = Open; thrown = Open }

row_open : (rules : Rules) (shape : Shape) (ref : Target) (r : Row) → pushes_state shape ref ≡ false → free_row rules shape ref ≡ Some r → r ≡ open_row
row_open rules shape ref r apart e = by (pushes_state shape ref) apart e where
  by : (b : Bool) → b ≡ false → cond b (leads Taking) (cond (not (is_some (variable_named rules.state ref))) (Some open_row) None) ≡ Some r → r ≡ open_row
  by true f e = absurd cc
  by false f e = sym (cond_some (not (is_some (variable_named rules.state ref))) open_row r e).1

module _ (program : Program) (policy : Policy) (annotations : Annotations) where
  -- ---- frames

  -- The instruction has a note that is in no block.
  abbrev pub FreeAt : Frame → ℕ → Type 0
  FreeAt frame at = (note : Note) × (note_at program annotations frame.class frame.method at ≡ Some note) × (is_open annotations.held policy note ≡ true)

  -- what it means, where no lock is among the operands
  pub opens_free : OpensFree program policy annotations
  opens_free frame notes.Free is clean = clean
  opens_free frame (notes.Taking site) is clean = absurd cc
  opens_free frame (notes.Held site failed holding list map) is clean = absurd cc
  opens_free frame (notes.Granted site locked count top) is clean = (is, clean)
  opens_free frame (notes.Owed site stage kept top) is clean = absurd cc
  opens_free frame (notes.Stop site place) is clean = absurd cc

  -- Where control goes from a frame at this instruction, the client's code goes on.
  pub record GoesFree (frame : Frame) (next : Insn × Target) : Type 0 where
    pub past : goes_on (opcode_of next.0) ≡ true → FreeAt frame (frame.at + 1)
    pub jump : (to : ℕ) → Contains (jump_targets next.0) to → FreeAt frame to
    pub caught : (class : Name) (handler : Handler) → handler_of program frame class ≡ Some handler → FreeAt frame handler.at

  pub moved_frame : (frame : Frame) (at : ℕ) (locals items : List Value) → IsFrame program frame → AreClean program locals
      → IsFrame program (moved_to frame at locals items)
  moved_frame frame at locals items well clean = record { size = well.size; lock = well.lock; locals = clean }

  -- a frame that went to an instruction of the client, and those below it
  pub went_free : (frame : Frame) (at : ℕ) (locals items : List Value) (below : List Frame) → IsFrame program frame → FreeAt frame at
      → AreClean program locals → AreClean program items → AreBelow program policy annotations below
      → AreClientFrames program policy annotations (moved_to frame at locals items ∷ below)
  went_free frame at locals items below well free in_locals on_stack waits =
      (moved_frame frame at locals items well in_locals, inr (free.0, free.1, opens_free (moved_to frame at locals items) free.0 free.2 on_stack), waits)

  -- What the rules of the notes tell of an accepted program.
  pub record Laws : Type 0 where
    pub obeys : IsObeying program policy annotations
    pub rules_hold : RulesHold program policy annotations
    pub begins_open : BeginsOpen program policy annotations

  module _ (laws : Laws) where
    pub insn_is : (frame : Frame) (next : Insn × Target) → insn_at program frame ≡ Some next → IsInsn next.0
    insn_is frame next e =
        let m = and_then_of (λ (of : Method). insn_in of frame.at) (method_at program frame.class frame.method) next e in
        laws.obeys.insns frame.class frame.method frame.at next.0 next.1 (record { of = m.0; there = m.1; is = m.2 })

    -- control goes on after an instruction that does not end
    pub may_go_on : (frame : Frame) (next : Insn × Target) → insn_at program frame ≡ Some next → ends (shape_of next.0) ≡ false
        → goes_on (opcode_of next.0) ≡ true
    may_go_on frame next e stays = goes_on_alike next.0 (insn_is frame next e) ∙ ap not stays

    open_at : (frame : Frame) (at : ℕ) (asked : Asked) → asked ≡ Open → LeadsTo program policy annotations frame at asked → FreeAt frame at
    open_at frame at asked is l =
        let here : LeadsTo program policy annotations frame at Open = subst (LeadsTo program policy annotations frame at) is l in
        (here.note, here.told, here.meets)

    -- an instruction of the client that does not push the lock's class
    pub goes_free : (frame : Frame) (next : Insn × Target) → insn_at program frame ≡ Some next → note_of program annotations frame ≡ Some notes.Free
        → pushes_state (shape_of next.0) next.1 ≡ false → GoesFree frame next
    goes_free frame next e told apart =
        let h = laws.rules_hold frame next notes.Free e told in
        let is = row_open (rules_of program policy annotations) (shape_of next.0) next.1 h.r apart h.has in
        record {
          past = λ goes. open_at frame (frame.at + 1) h.r.past (ap (λ (r : Row). r.past) is) (h.past goes);
          jump = λ to has. open_at frame to h.r.jump (ap (λ (r : Row). r.jump) is) (h.jump to has);
          caught = λ class handler found. open_at frame handler.at h.r.thrown (ap (λ (r : Row). r.thrown) is) (h.caught class handler found);
        }

    -- a call without a clause, at which a frame waits
    pub waits_free : (frame : Frame) (b : IsBelow program policy annotations frame) → GoesFree frame (b.insn, b.ref)
    waits_free frame b = goes_free frame (b.insn, b.ref) b.there b.free (call_pushes (shape_of b.insn) b.ref b.call)

    pub goes_after : (frame : Frame) (b : IsBelow program policy annotations frame) → FreeAt frame (frame.at + 1)
    goes_after frame b =
        let g = waits_free frame b in
        g.past (may_go_on frame (b.insn, b.ref) b.there (call_stays (shape_of b.insn) b.call))
