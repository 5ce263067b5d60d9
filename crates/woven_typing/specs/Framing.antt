-- The frames of a woven program, told of the program and its frames: an instruction without a block has its frame, and each
-- instruction of a block has that of its role. (docs/TYPING.md)
use Rattle.std.specs.Prelude.{ℕ, ◌+◌, ◌-◌, nat_lt, nat_le, if◌then◌else◌, List, [], ◌∷◌, ◌++◌, drop, length, map, slice_index, Option, Some, None, option_and_then, option_map}
use Rattle.cert_format.specs.declared.certificate.Mode.{Mode}
use Rattle.cert_format.specs.declared.typing.FrameType.{FrameType}
use Rattle.cert_format.specs.declared.typing.Typing.{Typing}
use Rattle.insn_codec.specs.declared.insn.Insn.{Insn}
use Rattle.bytecode_model.specs.declared.program.LinkedClass.{LinkedClass}
use Rattle.bytecode_model.specs.declared.program.Method.{Method}
use Rattle.bytecode_model.specs.declared.program.Program.{Program}
use Rattle.bytecode_model.specs.declared.program.Target.{Target}
use Rattle.bytecode_model.specs.declared.program.Target.TheVariants as target
use Rattle.bytecode_model.specs.InsnPlace.{InsnPlace}
use Rattle.bytecode_model.specs.Rules.{Frames}
use Rattle.bytecode_model.specs.Layout.{has_code}
use Rattle.bytecode_model.specs.Typed.{list_at}
use Rattle.conspec_automaton.specs.declared.policy.Policy.{Policy}
use Rattle.conspec_automaton.specs.Next.{has_clauses}
use Rattle.offset_patch.specs.Plan.{Plan}
use Rattle.offset_patch.specs.Splicing.{fronts_of}
use Rattle.block_template.specs.declared.item.Item.{Item}
use Rattle.block_template.specs.Blocks.{Clauses, bools_of, clauses_of, items, plan_of}
use Rattle.block_template.specs.Frames.{Around, frame_at}
use Rattle.class_weaving.specs.Woven.{sites_of}
use Rattle.woven_typing.specs.Following.{frame_after}
use Rattle.woven_typing.specs.Renaming.{frame_renamed}

-- ---- where instructions stand

-- the front of an instruction; an index after the code stays as far after it
abbrev pub moved_by : List ℕ → ℕ → ℕ → ℕ
moved_by fronts count at = if nat_lt at count then slice_index fronts at else at + (slice_index fronts count - count)

abbrev pub moved_in : Plan → Method → ℕ → ℕ
moved_in plan method at = moved_by (fronts_of (sites_of plan method.max_locals method)) (length method.insns) at

-- ---- a block

-- the items of the block of a call of this method
abbrev pub items_of : Policy → Mode → ℕ → ℕ → List Item
items_of policy mode base callee = items mode (bools_of policy) base (clauses_of policy callee)

-- the types before a call and after it, where indices have become others
abbrev pub around_of : (ℕ → ℕ) → InsnPlace → FrameType → Around
around_of moved place frame = record {
  before = frame_renamed moved frame;
  after = frame_renamed moved (frame_after place frame);
  base = place.method.max_locals;
}

-- the types of an item, where the call has a frame
abbrev pub item_typed : Clauses → (ℕ → ℕ) → InsnPlace → Option FrameType → Item → Option FrameType
item_typed clauses moved place frame item = option_and_then (λ f. frame_at clauses (around_of moved place f) item.role) frame

abbrev pub block_typed : Policy → Mode → (ℕ → ℕ) → InsnPlace → ℕ → Option FrameType → Frames
block_typed policy mode moved place callee frame =
    map (item_typed (clauses_of policy callee) moved place frame) (items_of policy mode place.method.max_locals callee)

-- ---- an instruction

abbrev pub alone_typed : (ℕ → ℕ) → Option FrameType → Frames
alone_typed moved frame = option_map (frame_renamed moved) frame ∷ []

-- the frames of what stands for an instruction, by what its operand names
abbrev pub part_typed : Policy → Mode → (ℕ → ℕ) → InsnPlace → Target → Option FrameType → Frames
part_typed policy mode moved place (target.ApiMethod callee) frame =
    if has_clauses policy callee then block_typed policy mode moved place callee frame else alone_typed moved frame
part_typed policy mode moved place other frame = alone_typed moved frame

-- a frame that is no higher than the method's stack may be
abbrev pub if_low : ℕ → FrameType → Option FrameType
if_low size frame = if nat_le (length frame.stack) size then Some frame else None

abbrev pub low : ℕ → Option FrameType → Option FrameType
low size None = None
low size (Some frame) = if_low size frame

-- ---- a method

-- a method of a class of the program, and its policy
pub record Client : Type 0 where
  pub program : Program
  pub policy : Policy
  pub mode : Mode
  pub own : ℕ
  pub class : LinkedClass
  pub method : Method

-- an instruction of it, and what its operand names
abbrev pub insn_place : Client → ℕ → Insn → Target → InsnPlace
insn_place client at insn ref = record {
  program = client.program;
  own = client.own;
  class = client.class;
  method = client.method;
  at = at;
  insn = insn;
  ref = ref;
}

abbrev pub front_in : Client → ℕ → ℕ
front_in client at = moved_in (plan_of client.policy client.mode) client.method at

abbrev pub insn_typed : Client → ℕ → Insn → Target → Option FrameType → Frames
insn_typed client at insn ref frame =
    part_typed client.policy client.mode (front_in client) (insn_place client at insn ref) ref (low client.method.max_stack frame)

-- those of the instructions from the index `at` on
abbrev pub parts_typed : Client → ℕ → List Insn → List Target → Frames → Frames
parts_typed client at [] refs frames = []
parts_typed client at (insn ∷ insns) [] frames = []
parts_typed client at (insn ∷ insns) (ref ∷ refs) [] = []
parts_typed client at (insn ∷ insns) (ref ∷ refs) (frame ∷ frames) =
    insn_typed client at insn ref frame ++ parts_typed client (at + 1) insns refs frames

abbrev pub frames_woven : Client → Frames → Frames
frames_woven client frames = parts_typed client 0 client.method.insns client.method.refs frames

-- ---- a program

abbrev pub client_of : Program → Policy → Mode → ℕ → LinkedClass → Method → Client
client_of program policy mode own class method = record {
  program = program;
  policy = policy;
  mode = mode;
  own = own;
  class = class;
  method = method;
}

-- the methods with code; frames are told of these alone
abbrev pub methods_typed : Program → Policy → Mode → ℕ → LinkedClass → List Method → List Frames → List Frames
methods_typed program policy mode own class [] told = []
methods_typed program policy mode own class (method ∷ methods) told =
    if has_code method then
    frames_woven (client_of program policy mode own class method) (list_at told 0)
    ∷ methods_typed program policy mode own class methods (drop 1 told)
    else methods_typed program policy mode own class methods told

-- the classes from the index `own` on, and after them conspec/State, which has no method
abbrev pub classes_typed : Program → Policy → Mode → ℕ → List LinkedClass → List (List Frames) → List (List Frames)
classes_typed program policy mode own [] told = [] ∷ []
classes_typed program policy mode own (class ∷ classes) told =
    methods_typed program policy mode own class class.methods (list_at told 0)
    ∷ classes_typed program policy mode (own + 1) classes (drop 1 told)

-- the typing of what is woven of the program
abbrev pub typing_of : Program → Policy → Mode → Typing → Typing
typing_of program policy mode typing = record { frames = classes_typed program policy mode 0 program.classes typing.frames }
