-- When a program is typed, and the first place at which it is not. (docs/TYPING.md)
use Rattle.std.specs.Prelude.{◌≡◌, ℕ, Bool, false, ◌&&◌, List, [], length, take, Option, None, is_some, option_and_then, slice_get}
use Rattle.std.specs.Option.{option_map_or}
use Rattle.cert_format.specs.declared.typing.Typing.{Typing}
use Rattle.insn_codec.specs.declared.insn.Insn.{Insn}
use Rattle.bytecode_model.specs.declared.program.LinkedClass.{LinkedClass}
use Rattle.bytecode_model.specs.declared.program.Method.{Method}
use Rattle.bytecode_model.specs.declared.program.Program.{Program}
use Rattle.bytecode_model.specs.declared.program.Target.{Target}
use Rattle.bytecode_model.specs.InsnPlace.{InsnPlace, target_or_none}
use Rattle.bytecode_model.specs.Rules.{Frames, frame_of, row_failing}
use Rattle.bytecode_model.specs.Layout.{has_code, coded}

-- ---- the row of one instruction

-- what the operand of an instruction names
abbrev pub ref_of : Method → ℕ → Target
ref_of method at = target_or_none (slice_get method.refs at)

abbrev pub place_at : Program → ℕ → LinkedClass → Method → ℕ → Insn → InsnPlace
place_at program own class method at insn = record {
  program = program;
  own = own;
  class = class;
  method = method;
  at = at;
  insn = insn;
  ref = ref_of method at;
}

-- the first rule that fails at an instruction of a method with these frames; none where there is no such instruction
abbrev pub row_in : Program → ℕ → LinkedClass → Method → Frames → ℕ → Option ℕ
row_in program own class method frames at =
    option_and_then (λ (insn : Insn). row_failing frames (place_at program own class method at insn) (frame_of frames at)) (slice_get method.insns at)

-- ---- of a program

-- the list of this index, or the empty one
abbrev pub list_at : {A : Type 0} → List (List A) → ℕ → List A
list_at {A = A} lists index = option_map_or (λ (list : List A). list) (slice_get lists index) []

-- the frames of the method of this index; those told are of the methods with code
abbrev pub frames_in : List Method → List Frames → ℕ → Frames
frames_in methods told method = list_at told (length (coded (take method methods)))

abbrev pub frames_told : Typing → ℕ → List Frames
frames_told typing class = list_at typing.frames class

abbrev pub row_of_method : Program → Typing → ℕ → LinkedClass → ℕ → ℕ → Option ℕ
row_of_method program typing own class method at =
    option_and_then (λ (m : Method). row_in program own class m (frames_in class.methods (frames_told typing own) method) at) (slice_get class.methods method)

-- the first rule that fails at an instruction; all methods of the class are counted
abbrev pub row_fault : Program → Typing → ℕ → ℕ → ℕ → Option ℕ
row_fault program typing class method at =
    option_and_then (λ (c : LinkedClass). row_of_method program typing class c method at) (slice_get program.classes class)

-- No rule fails at any instruction.
abbrev pub IsTyped : Program → Typing → Type 0
IsTyped program typing = (class method at : ℕ) → row_fault program typing class method at ≡ None

-- ---- what is reached

-- whether an instruction of the method of this index has a frame
abbrev pub reached_in : List Method → List Frames → ℕ → ℕ → Bool
reached_in methods told method at =
    option_map_or (λ (m : Method). has_code m && is_some (frame_of (frames_in methods told method) at)) (slice_get methods method) false

-- whether the instruction has a frame
abbrev pub reached : Program → Typing → ℕ → ℕ → ℕ → Bool
reached program typing class method at =
    option_map_or (λ (c : LinkedClass). reached_in c.methods (frames_told typing class) method at) (slice_get program.classes class) false
