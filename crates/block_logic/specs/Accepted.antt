-- When a program is accepted with its annotations, and with a certificate. (docs/COMMANDS.md)
use Rattle.std.specs.Prelude.{◌≡◌, ℕ, if◌then◌else◌, List, length, take, is_some, Option, None, option_and_then, slice_get}
use Rattle.std.specs.Option.{option_map_or}
use Rattle.bytecode_model.specs.declared.program.LinkedClass.{LinkedClass}
use Rattle.bytecode_model.specs.declared.program.Method.{Method}
use Rattle.bytecode_model.specs.declared.program.Program.{Program}
use Rattle.cert_format.specs.declared.certificate.Certificate.{Certificate}
use Rattle.block_logic.specs.Annotations.{Annotations, annotations_of}
use Rattle.cert_format.specs.declared.note.Note.{Note}
use Rattle.cert_format.specs.declared.typing.FrameType.{FrameType}
use Rattle.bytecode_model.specs.Rules.{frame_of}
use Rattle.bytecode_model.specs.Layout.{coded, IsLaidOut}
use Rattle.bytecode_model.specs.Typed.{IsTyped, frames_in, frames_told, list_at}
use Rattle.conspec_automaton.specs.declared.policy.Policy.{Policy}
use Rattle.block_logic.specs.Notes.{note_fault}
use Rattle.block_logic.specs.Rows.{Rules}
use Rattle.block_logic.specs.State.{state_at, state_fault}

-- ---- notes

-- the notes of the method of this index; those told are of the methods with code
abbrev pub notes_in : List Method → List (List Note) → ℕ → List Note
notes_in methods told method = list_at told (length (coded (take method methods)))

abbrev pub notes_told : Annotations → ℕ → List (List Note)
notes_told annotations class = list_at annotations.notes class

-- what the rules are told of a program; where it has no class of the policy's variables, the number after its classes names none
abbrev pub rules_of : Program → Policy → Annotations → Rules
rules_of program policy annotations = record {
  held = annotations.held;
  policy = policy;
  state = option_map_or (λ (at : ℕ). at) (state_at program.classes) (length program.classes);
}

-- where the instruction has a frame, the first rule of the notes that fails there
abbrev pub reached_fault : Rules → List (Option FrameType) → List Note → Method → ℕ → Option ℕ
reached_fault rules frames told m at = if is_some (frame_of frames at) then note_fault rules told m at else None

abbrev pub fault_in_class : Rules → Annotations → ℕ → LinkedClass → ℕ → ℕ → Option ℕ
fault_in_class rules annotations class c method at =
    option_and_then (λ (m : Method). reached_fault rules (frames_in c.methods (frames_told annotations.typing class) method) (notes_in c.methods (notes_told annotations class) method) m at) (slice_get c.methods method)

-- the first rule of the notes that fails at an instruction; all methods of the class are counted
abbrev pub note_fault_at : Program → Policy → Annotations → ℕ → ℕ → ℕ → Option ℕ
note_fault_at program policy annotations class method at =
    option_and_then (λ (c : LinkedClass). fault_in_class (rules_of program policy annotations) annotations class c method at) (slice_get program.classes class)

-- ---- acceptance

pub record AreAccepted (program : Program) (policy : Policy) (annotations : Annotations) : Type 0 where
  pub frames : IsLaidOut program annotations.typing.frames
  pub notes : IsLaidOut program annotations.notes
  pub typed : IsTyped program annotations.typing
  pub state : state_fault program.classes policy ≡ None
  pub noted : (class method at : ℕ) → note_fault_at program policy annotations class method at ≡ None

abbrev pub IsAccepted : Program → Policy → Certificate → Type 0
IsAccepted program policy certificate = AreAccepted program policy (annotations_of certificate)
