-- The runs of a program: a step that is not enabled changes nothing and lets the library see nothing. (docs/MACHINE.md)
use Rattle.std.specs.Prelude.{ℕ, List, [], ◌∷◌, ◌++◌, Option, None, option_map, codes, length, map, take, ◌-◌}
use Rattle.std.specs.List.{filter_map, enumerate_from}
use Rattle.std.specs.Option.{option_map_or, option_to_list}
use Rattle.api_listing.specs.declared.events.Event.{Event}
use Rattle.bytecode_model.specs.declared.program.LinkedClass.{LinkedClass}
use Rattle.bytecode_model.specs.declared.program.Program.{Program}
use Rattle.bytecode_model.specs.Heads.{initialiser, takes_nothing}
use Rattle.guest_model.specs.declared.machine.Machine.{Machine}
use Rattle.guest_model.specs.declared.machine.Step.{Step}
use Rattle.guest_model.specs.Changes.{rests}
use Rattle.guest_model.specs.Finding.{Given, declared_in}
use Rattle.guest_model.specs.Layout.{statics_of}
use Rattle.guest_model.specs.Stepping.{stepped}
use Rattle.mon_base.specs.declared.method.MethodId.{MethodId}
use Rattle.guest_heap.specs.declared.object.Object.{Object}
use Rattle.guest_heap.specs.declared.object.Object.TheVariants as objects
use Rattle.guest_model.specs.Throwing.{bare_object}

-- the text without its first and last byte: the class in a field's descriptor
abbrev pub inner : List ℕ → List ℕ
inner [] = []
inner (b ∷ text) = take (length text - 1) text

-- an object for each field of the listing, and then the array of no strings that main takes
abbrev pub first_heap : Program → List Object
first_heap program = map (λ (f : MethodId). bare_object (inner f.desc)) program.listing.fields ++ objects.Array (codes "[Ljava/lang/String;") [] ∷ []

-- ---- the start

-- the initialiser of the class with this index, if it has one
abbrev pub initialiser_of : ℕ × LinkedClass → Option Given
initialiser_of class = option_map (λ (method : ℕ). (class.0, method)) (declared_in initialiser takes_nothing class.1)

abbrev pub initialisers : Program → List Given
initialisers program = filter_map initialiser_of (enumerate_from 0 program.classes)

-- The machine before the first step: its one thread runs the initialisers of the classes, in their order, and then main.
abbrev pub start_of : Program → Machine
start_of program = record {
  heap = first_heap program;
  statics = statics_of program;
  monitors = [];
  threads = rests program (initialisers program ++ (program.main_class, program.main_method) ∷ []) ∷ [];
  stopped = None;
}

-- ---- steps

-- the machine after a step
abbrev pub stepped_or_same : Program → Machine → Step → Machine
stepped_or_same program machine step = option_map_or (λ (made : Machine × Option Event). made.0) (stepped program machine step) machine

-- what the library sees of a step
abbrev pub seen : Program → Machine → Step → List Event
seen program machine step = option_map_or (λ (made : Machine × Option Event). option_to_list made.1) (stepped program machine step) []

abbrev pub exec_from : Program → Machine → List Step → Machine
exec_from program machine [] = machine
exec_from program machine (step ∷ steps) = exec_from program (stepped_or_same program machine step) steps

abbrev pub trace_from : Program → Machine → List Step → List Event
trace_from program machine [] = []
trace_from program machine (step ∷ steps) = seen program machine step ++ trace_from program (stepped_or_same program machine step) steps

abbrev pub exec : Program → List Step → Machine
exec program steps = exec_from program (start_of program) steps

abbrev pub trace : Program → List Step → List Event
trace program steps = trace_from program (start_of program) steps
