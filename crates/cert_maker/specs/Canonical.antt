-- The canonical typing, which a certificate can hold: of each frame the locals without the Tops after the last other type, and no frame for
-- which the method has no room. (docs/CERTIFICATES.md)
use Rattle.std.specs.Prelude.{◌&&◌, nat_le, Bool, if◌then◌else◌, List, [], ◌∷◌, drop, length, map, Option, Some, None, option_and_then, ⊤}
use Rattle.std.specs.List.{AllByRecursion}
use Rattle.cert_format.specs.declared.typing.FrameType.{FrameType}
use Rattle.cert_format.specs.declared.typing.Typing.{Typing}
use Rattle.cert_format.specs.declared.typing.VType.{VType}
use Rattle.cert_format.specs.declared.typing.VType.TheVariants as types
use Rattle.cert_format.specs.Fits.{FitsFrame}
use Rattle.bytecode_model.specs.declared.program.LinkedClass.{LinkedClass}
use Rattle.bytecode_model.specs.declared.program.Method.{Method}
use Rattle.bytecode_model.specs.declared.program.Program.{Program}
use Rattle.bytecode_model.specs.Rules.{Frames}
use Rattle.bytecode_model.specs.Layout.{has_code}
use Rattle.bytecode_model.specs.Typed.{list_at}

-- ---- a frame

-- a type before others, where Top before none is left out
abbrev pub before_others : VType → List VType → List VType
before_others types.Top [] = []
before_others t others = t ∷ others

-- the types without the Tops after the last other type
abbrev pub trimmed : List VType → List VType
trimmed [] = []
trimmed (t ∷ list) = before_others t (trimmed list)

abbrev pub frame_trimmed : FrameType → FrameType
frame_trimmed frame = record { locals = trimmed frame.locals; stack = frame.stack }

-- whether the method has room for the frame
abbrev pub has_room : Method → FrameType → Bool
has_room method frame = nat_le (length frame.locals) method.max_locals && nat_le (length frame.stack) method.max_stack

abbrev pub if_room : Method → FrameType → Option FrameType
if_room method frame = if has_room method frame then Some frame else None

-- the canonical frame, if the method has room for it
abbrev pub canonical_frame : Method → Option FrameType → Option FrameType
canonical_frame method frame = option_and_then (λ (f : FrameType). if_room method (frame_trimmed f)) frame

-- ---- a program

-- methods with code alone have frames
abbrev pub canonical_methods : List Method → List Frames → List Frames
canonical_methods [] canonical = []
canonical_methods (method ∷ methods) canonical =
    if has_code method then map (canonical_frame method) (list_at canonical 0) ∷ canonical_methods methods (drop 1 canonical) else canonical_methods methods canonical

abbrev pub canonical_classes : List LinkedClass → List (List Frames) → List (List Frames)
canonical_classes [] canonical = []
canonical_classes (class ∷ classes) canonical = canonical_methods class.methods (list_at canonical 0) ∷ canonical_classes classes (drop 1 canonical)

-- the canonical typing of the program
abbrev pub canonical : Program → Typing → Typing
canonical program typing = record { frames = canonical_classes program.classes typing.frames }

-- ---- what a certificate asks

abbrev pub FitsIfSome : Option FrameType → Type 0
FitsIfSome None = ⊤
FitsIfSome (Some frame) = FitsFrame frame

-- A certificate can hold each frame.
abbrev pub FitsTyping : Typing → Type 0
FitsTyping typing = AllByRecursion (λ (methods : List Frames). AllByRecursion (λ (frames : Frames). AllByRecursion FitsIfSome frames) methods) typing.frames
