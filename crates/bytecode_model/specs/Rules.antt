-- The rules that a program's typing meets at each instruction. (The Java Virtual Machine Specification, section 4.10,
-- for the inferring verifier; docs/TYPING.md.)
use Rattle.std.specs.Prelude.{ℕ, ◌+◌, Bool, true, false, not, ◌==◌, ◌&&◌, ◌||◌, nat_lt, nat_le, bytes_eq, if◌then◌else◌, List, [], ◌∷◌, length, map, Option, Some, None, is_some, slice_get}
use Rattle.std.specs.List.{list_all, list_any}
use Rattle.std.specs.Option.{option_map_or}
use Rattle.api_listing.specs.BuiltIn.{throwable}
use Rattle.cert_format.specs.declared.typing.FrameType.{FrameType}
use Rattle.cert_format.specs.declared.typing.VType.{VType}
use Rattle.cert_format.specs.declared.typing.VType.TheVariants as types
use Rattle.insn_codec.specs.declared.shape.Heap.TheVariants as heap
use Rattle.insn_codec.specs.declared.shape.How.{How}
use Rattle.insn_codec.specs.declared.shape.ValueKind.TheVariants as kinds
use Rattle.insn_codec.specs.declared.shape.Shape.{Shape}
use Rattle.insn_codec.specs.declared.shape.Shape.TheVariants as shapes
use Rattle.insn_codec.specs.Control.{successors}
use Rattle.insn_codec.specs.Shapes.{shape_of}
use Rattle.bytecode_model.specs.declared.program.Handler.{Handler}
use Rattle.bytecode_model.specs.declared.program.Method.{Method}
use Rattle.bytecode_model.specs.declared.program.Program.{Program}
use Rattle.bytecode_model.specs.Heads.{is_static}
use Rattle.bytecode_model.specs.Assigning.{assignable}
use Rattle.bytecode_model.specs.Classes.{is_below}
use Rattle.bytecode_model.specs.Described.{arguments, type_described}
use Rattle.bytecode_model.specs.Makes.{type_at, class_made, is_same_object, local_after, topmost, stack_after}
use Rattle.bytecode_model.specs.InsnPlace.{InsnPlace, has_receiver, calls_maker, is_maker}
use Rattle.bytecode_model.specs.Wants.{takes, all_met, returns_well, of_kind}

-- the frame of each instruction of a method, or nothing where it is not reached
abbrev pub Frames : Type 0
Frames = List (Option FrameType)

-- the frame of an instruction, if it is reached
abbrev pub frame_of : Frames → ℕ → Option FrameType
frame_of frames at = option_map_or (λ (f : Option FrameType). f) (slice_get frames at) None

-- ---- what is assignable to a frame

-- The locals, of which the first has this place, take what stands in their places; those that are absent take anything.
abbrev pub locals_fit : Program → (ℕ → VType) → ℕ → List VType → Bool
locals_fit program from j [] = true
locals_fit program from j (t ∷ to) = assignable program (from j) t && locals_fit program from (j + 1) to

-- Stacks of the same height, each operand assignable to the one in its place.
abbrev pub stack_fits : Program → List VType → List VType → Bool
stack_fits program [] [] = true
stack_fits program [] (t ∷ to) = false
stack_fits program (t ∷ from) [] = false
stack_fits program (t ∷ from) (u ∷ to) = assignable program t u && stack_fits program from to

-- ---- 1: entry

-- what an instance method finds in local 0
abbrev pub this_type : InsnPlace → VType
this_type place = if is_maker place.method then types.UninitThis else types.Ref place.class.name

abbrev pub arguments_typed : Method → List VType
arguments_typed method = map type_described (arguments method.desc)

abbrev pub entry_locals : InsnPlace → List VType
entry_locals place = if is_static place.method.flags then arguments_typed place.method else this_type place ∷ arguments_typed place.method

-- The arguments have their locals, and the first frame takes them; the stack is empty.
abbrev pub Entry : InsnPlace → FrameType → Bool
Entry place frame =
    nat_le (length (entry_locals place)) place.method.max_locals
    && (locals_fit place.program (type_at (entry_locals place)) 0 frame.locals && (length frame.stack == 0))

-- ---- 2: depth

-- The operands are there, and the stack afterwards is at most the method's.
abbrev pub Depth : InsnPlace → FrameType → Bool
Depth place frame =
    nat_le (length (takes place)) (length frame.stack)
    && nat_le (length (stack_after place frame.locals (length (takes place)) frame.stack)) place.method.max_stack

-- ---- 3: operands

-- the operands that the instruction takes
abbrev pub taken : InsnPlace → FrameType → List VType
taken place frame = topmost (length (takes place)) frame.stack

-- Each operand is what is wanted.
abbrev pub Operand : InsnPlace → FrameType → Bool
Operand place frame = all_met (takes place) (taken place frame) && returns_well place (shape_of place.insn)

-- ---- 4: locals

-- A local is one of the method's, and one that is read is of the kind read.
abbrev pub uses_local : Method → List VType → Shape → Bool
uses_local method locals (shapes.Load kind slot) = nat_lt slot method.max_locals && of_kind kind (type_at locals slot)
uses_local method locals (shapes.Store kind slot) = nat_lt slot method.max_locals
uses_local method locals (shapes.Increment slot by) = nat_lt slot method.max_locals && of_kind kinds.Int (type_at locals slot)
uses_local method locals other = true

abbrev pub Local : InsnPlace → FrameType → Bool
Local place frame = nat_le (length frame.locals) place.method.max_locals && uses_local place.method frame.locals (shape_of place.insn)

-- ---- 5: objects that are not made yet

abbrev pub has_object : VType → List VType → Bool
has_object object list = list_any (is_same_object object) list

-- A call of a constructor has a receiver that it may make.
abbrev pub makes_receiver : InsnPlace → How → FrameType → Bool
makes_receiver place how frame = not (calls_maker place) || (has_receiver how && is_some (class_made place (type_at (taken place frame) 0)))

-- A constructor is left, by the opcode `return`, once its object is made.
abbrev pub leaves_made : InsnPlace → FrameType → Bool
leaves_made place frame = not (is_maker place.method) || not (has_object types.UninitThis frame.locals || has_object types.UninitThis frame.stack)

abbrev pub made_well : InsnPlace → FrameType → Shape → Bool
made_well place frame (shapes.Heap (heap.Call how)) = makes_receiver place how frame
made_well place frame (shapes.Heap heap.New) = not (has_object (types.Uninit place.at) frame.stack)
made_well place frame (shapes.Heap (heap.Return None)) = leaves_made place frame
made_well place frame other = true

abbrev pub Made : InsnPlace → FrameType → Bool
Made place frame = made_well place frame (shape_of place.insn)

-- ---- 6: successors

-- The frame afterwards is assignable to this one.
abbrev pub goes_well : InsnPlace → FrameType → FrameType → Bool
goes_well place frame to =
    stack_fits place.program (stack_after place frame.locals (length (takes place)) frame.stack) to.stack
    && locals_fit place.program (local_after place frame.locals (taken place frame)) 0 to.locals

-- Each successor has a frame that takes what is left.
abbrev pub Successor : Frames → InsnPlace → FrameType → Bool
Successor frames place frame = list_all (λ to. option_map_or (goes_well place frame) (frame_of frames to) false) (successors place.at place.insn)

-- ---- 7: handlers

abbrev pub covers : ℕ → Handler → Bool
covers at handler = nat_le handler.from at && nat_lt at handler.to

-- the class of what is caught
abbrev pub class_caught : Handler → List ℕ
class_caught handler = option_map_or (λ (class : List ℕ). class) handler.class throwable

-- A handler finds no object that is not made yet.
abbrev pub when_thrown : VType → VType
when_thrown types.UninitThis = types.Top
when_thrown (types.Uninit i) = types.Top
when_thrown t = t

abbrev pub local_caught : List VType → ℕ → VType
local_caught locals j = when_thrown (type_at locals j)

-- exactly a reference to this class
abbrev pub is_reference_to : List ℕ → VType → Bool
is_reference_to class (types.Ref name) = bytes_eq name class
is_reference_to class other = false

-- nothing but that
abbrev pub is_alone : List ℕ → List VType → Bool
is_alone class [] = false
is_alone class (t ∷ []) = is_reference_to class t
is_alone class (t ∷ u ∷ stack) = false

abbrev pub catches_well : InsnPlace → FrameType → Handler → FrameType → Bool
catches_well place frame handler to =
    is_alone (class_caught handler) to.stack && locals_fit place.program (local_caught frame.locals) 0 to.locals

-- A handler that covers the instruction has room, a class that is Throwable or below it, and a frame that takes what is
-- caught and the locals.
abbrev pub is_handled : Frames → InsnPlace → FrameType → Handler → Bool
is_handled frames place frame handler =
    not (covers place.at handler)
    || (nat_le 1 place.method.max_stack
    && (is_below place.program (class_caught handler) throwable
    && option_map_or (catches_well place frame handler) (frame_of frames handler.at) false))

abbrev pub Caught : Frames → InsnPlace → FrameType → Bool
Caught frames place frame = list_all (is_handled frames place frame) place.method.handlers

-- ---- the first rule that fails

-- the rules from 2 on, of an instruction that is reached
abbrev pub rule_failing : Frames → InsnPlace → FrameType → Option ℕ
rule_failing frames place frame =
    if not (Depth place frame) then Some 2
    else if not (Operand place frame) then Some 3
    else if not (Local place frame) then Some 4
    else if not (Made place frame) then Some 5
    else if not (Successor frames place frame) then Some 6
    else if not (Caught frames place frame) then Some 7
    else None

-- all the rules: an instruction that is not reached is asked for a frame where the method begins
abbrev pub row_failing : Frames → InsnPlace → Option FrameType → Option ℕ
row_failing frames place None = if place.at == 0 then Some 1 else None
row_failing frames place (Some frame) = if (place.at == 0) && not (Entry place frame) then Some 1 else rule_failing frames place frame
