-- What the rules of the notes tell of an instruction at which a frame of an accepted program stands.
use Rattle.std.proofs.Common.{◌≡◌, ℕ, ◌+◌, ◌<◌, true, false, length, Some, None}
use Rattle.std.specs.Prelude.{◌&&◌, ◌||◌, Contains}
use Rattle.insn_codec.specs.declared.insn.Insn.{Insn}
use Rattle.insn_codec.specs.Control.{jump_targets}
use Rattle.insn_codec.specs.Opcodes.{goes_on}
use Rattle.insn_codec.specs.Shapes.{shape_of}
use Rattle.insn_codec.specs.Encoding.{opcode_of}
use Rattle.bytecode_model.specs.declared.program.Handler.{Handler}
use Rattle.bytecode_model.specs.declared.program.Method.{Method}
use Rattle.bytecode_model.specs.declared.program.Program.{Program}
use Rattle.bytecode_model.specs.declared.program.Target.{Target}
use Rattle.bytecode_model.specs.declared.program.Target.TheVariants as target
use Rattle.bytecode_model.specs.SearchOrder.{Name}
use Rattle.block_logic.specs.Annotations.{Annotations}
use Rattle.cert_format.specs.declared.note.Note.{Note}
use Rattle.conspec_automaton.specs.declared.policy.Policy.{Policy}
use Rattle.guest_heap.specs.declared.frame.Frame.{Frame}
use Rattle.guest_model.specs.Places.{insn_at, method_at}
use Rattle.guest_model.specs.Throwing.{handler_of}
use Rattle.block_logic.specs.Accepted.{rules_of}
use Rattle.block_logic.specs.Meaning.{AreClean, IsFree, note_at, note_of}
use Rattle.block_logic.specs.Notes.{is_free, is_granted, is_stop, meets}
use Rattle.block_logic.specs.Operands.{calls, has_clause, is_way_out, variable_named}
use Rattle.block_logic.specs.Rows.{Asked, Row, Rules, is_duty, row}
use Rattle.block_logic.specs.Weakening.{is_open}

module _ (program : Program) (policy : Policy) (annotations : Annotations) where
  abbrev pub rules : Rules
  rules = rules_of program policy annotations

  -- The instruction of this index has a note, which is as it is asked to be.
  pub record LeadsTo (frame : Frame) (to : ℕ) (asked : Asked) : Type 0 where
    pub note : Note
    pub told : note_at program annotations frame.class frame.method to ≡ Some note
    pub meets : meets rules asked note ≡ true

  pub record IsRuled (frame : Frame) (next : Insn × Target) (note : Note) : Type 0 where
    pub of : Method
    pub there : method_at program frame.class frame.method ≡ Some of
    -- its row
    pub r : Row
    pub has : row rules note (shape_of next.0) next.1 ≡ Some r
    -- the client leaves the policy's variables alone
    pub alone : is_free note ≡ true → variable_named rules.state next.1 ≡ None
    -- a call with a clause is granted; any other is the client's, or the way out
    pub granted : calls (shape_of next.0) ≡ true → has_clause policy next.1 ≡ true → is_granted rules next.1 note ≡ true
    pub unclaused : calls (shape_of next.0) ≡ true → has_clause policy next.1 ≡ false → (is_free note || (is_stop note && is_way_out next.1)) ≡ true
    -- what comes next
    pub past : goes_on (opcode_of next.0) ≡ true → LeadsTo frame (frame.at + 1) r.past
    pub jump : (to : ℕ) → Contains (jump_targets next.0) to → LeadsTo frame to r.jump
    -- what a handler finds that takes what is thrown here
    pub caught : (class : Name) (handler : Handler) → handler_of program frame class ≡ Some handler → LeadsTo frame handler.at r.thrown
    -- such a handler has room on the stack
    pub room : (class : Name) (handler : Handler) → handler_of program frame class ≡ Some handler → 0 < of.max_stack
    -- a granted call is caught, whatever it throws, where that is a duty
    pub duty : (method : ℕ) → next.1 ≡ target.ApiMethod method → calls (shape_of next.0) ≡ true → has_clause policy next.1 ≡ true → is_duty rules method ≡ true
        → (class : Name) → (handler : Handler) × (handler_of program frame class ≡ Some handler)

  -- Wherever a frame stands at an instruction that is reached and has a note, the rules hold.
  abbrev pub RulesHold : Type 0
  RulesHold = (frame : Frame) (next : Insn × Target) (note : Note) → insn_at program frame ≡ Some next → note_of program annotations frame ≡ Some note
      → IsRuled frame next note

  -- Each method with code begins in no block.
  abbrev pub BeginsOpen : Type 0
  BeginsOpen = (class method : ℕ) (of : Method) → method_at program class method ≡ Some of → 0 < length of.insns
      → (note : Note) × (note_at program annotations class method 0 ≡ Some note) × (is_open annotations.held policy note ≡ true)

  -- What is in no block means what the client's notes mean, where no lock is among the operands.
  abbrev pub OpensFree : Type 0
  OpensFree = (frame : Frame) (note : Note) → is_open annotations.held policy note ≡ true → AreClean program frame.stack.items → IsFree program policy annotations.held frame note
