-- What is done with the topmost operand: it is thrown, or its monitor is entered or left. (docs/MACHINE.md)
use Rattle.std.specs.Prelude.{List, ◌∷◌, drop, Option, None, option_and_then, option_map}
use Rattle.bytecode_model.specs.declared.program.Program.{Program}
use Rattle.guest_frames.specs.Stepping.{after}
use Rattle.guest_heap.specs.declared.object.Monitor.{Monitor}
use Rattle.guest_heap.specs.declared.value.Value.{Value}
use Rattle.guest_model.specs.Changes.{Change, World, throws, with_monitors}
use Rattle.guest_model.specs.Kinds.{class_of_value}
use Rattle.guest_model.specs.Stepping.{Acting, acts_on, enters, leaves, throws_top}
use Rattle.guest_threads.specs.declared.acting.OnTop.{OnTop}
use Rattle.guest_threads.specs.declared.acting.OnTop.TheVariants as tops

abbrev pub acts_on_top : OnTop → Program → World → Acting → Value → Option Change
acts_on_top tops.Throw program world a value = throws_top program world a value
acts_on_top tops.Enter program world a value = enters program world a value
acts_on_top tops.Leave program world a value = leaves program world a value

-- ---- where it is not null

-- an object is thrown
abbrev pub throws_object : Program → World → Acting → Value → Option Change
throws_object program world a value =
    option_map (λ class. throws program world a.number a.thread (a.frame ∷ a.below) value class None) (class_of_value world.heap value)

-- the frame goes on after its instruction, which takes one operand, with these monitors, if there are such
abbrev pub goes_past : World → Acting → Option (List Monitor) → Option Change
goes_past world a monitors = option_and_then (λ (held : List Monitor). acts_on (with_monitors world held) a (after a.frame (drop 1 a.frame.stack.items))) monitors
