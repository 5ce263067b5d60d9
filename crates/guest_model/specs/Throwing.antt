-- What throwing does: frames are left until one has a handler. (The Java Virtual Machine Specification, section 2.10.)
use Rattle.std.specs.Prelude.{◌≡◌, ◌≤◌, ◌<◌, ℕ, Bool, true, ◌&&◌, nat_lt, if◌then◌else◌, IsTrue, Contains, List, [], ◌∷◌, ◌++◌, find, Option, Some, None, IsSome, option_and_then}
use Rattle.std.specs.Option.{option_map_or, option_to_list}
use Rattle.bytecode_model.specs.declared.program.Handler.{Handler}
use Rattle.bytecode_model.specs.declared.program.Method.{Method}
use Rattle.bytecode_model.specs.declared.program.Program.{Program}
use Rattle.guest_heap.specs.declared.frame.Frame.{Frame}
use Rattle.guest_heap.specs.declared.object.Object.{Object}
use Rattle.guest_heap.specs.declared.object.Object.TheVariants as objects
use Rattle.guest_heap.specs.declared.value.Value.{Value}
use Rattle.guest_heap.specs.declared.value.Value.TheVariants as values
use Rattle.bytecode_model.specs.Classes.{is_below}
use Rattle.bytecode_model.specs.Rules.{covers}
use Rattle.guest_model.specs.Places.{method_at}
use Rattle.guest_frames.specs.Stepping.{moved_to}

-- the handler takes exceptions of the class: those of its own class and below it, or else all
abbrev pub takes : Program → List ℕ → Handler → Bool
takes program class handler = option_map_or (λ caught. is_below program class caught) handler.class true

-- the handler catches what is thrown at this instruction
abbrev pub catches : Program → ℕ → List ℕ → Handler → Bool
catches program at class handler = covers at handler && takes program class handler

-- the first handler of a frame's method that catches an exception of the class
abbrev pub handler_of : Program → Frame → List ℕ → Option Handler
handler_of program frame class =
    option_and_then (λ (method : Method). find (catches program frame.at class) method.handlers) (method_at program frame.class frame.method)

-- A handler that is found covers the instruction at which the frame stands.
abbrev pub HandlersCover : Type 0
HandlersCover = (program : Program) (frame : Frame) (class : List ℕ) (handler : Handler) → handler_of program frame class ≡ Some handler
    → (handler.from ≤ frame.at) × (frame.at < handler.to)

-- Where a handler of the frame's method covers that instruction and takes exceptions of the class, one is found.
abbrev pub CoveringIsFound : Type 0
CoveringIsFound = (program : Program) (frame : Frame) (class : List ℕ) (method : Method) (handler : Handler)
    → method_at program frame.class frame.method ≡ Some method → Contains method.handlers handler
    → handler.from ≤ frame.at → frame.at < handler.to → IsTrue (takes program class handler) → IsSome (handler_of program frame class)

-- the frame at the handler, with the exception alone on its stack; a stack that holds nothing takes none
abbrev pub caught_in : Program → Value → List ℕ → Frame → Option Frame
caught_in program thrown class frame =
    option_and_then (λ (handler : Handler). if nat_lt 0 frame.stack.size then Some (moved_to frame handler.at frame.locals (thrown ∷ [])) else None)
    (handler_of program frame class)

-- the frames that are left once the exception is caught, if it is
abbrev pub unwound : Program → Value → List ℕ → List Frame → List Frame
unwound program thrown class [] = []
unwound program thrown class (frame ∷ below) = option_map_or (λ (f : Frame). f ∷ below) (caught_in program thrown class frame) (unwound program thrown class below)

-- the locks that are given up on the way, the first frame's first
abbrev pub locks_left : Program → Value → List ℕ → List Frame → List Value
locks_left program thrown class [] = []
locks_left program thrown class (frame ∷ below) =
    option_map_or (λ (f : Frame). []) (caught_in program thrown class frame) (option_to_list frame.lock ++ locks_left program thrown class below)

-- an object that was just made of a class without fields
abbrev pub bare_object : List ℕ → Object
bare_object class = objects.Plain class [] values.Null None
