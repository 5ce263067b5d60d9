-- How each instruction of woven code stands to its block: before the call, and after the front. (docs/TRANSPARENCY.md)
use Rattle.std.specs.Prelude.{◌≡◌, ℕ, zero, ◌+◌, ◌==◌, Bool, false, is_some, not, nat_lt, List, [], ◌∷◌, ◌++◌, length, map, slice_get, Option, option_and_then}
use Rattle.std.specs.Option.{option_map_or}
use Rattle.bytecode_model.specs.declared.program.LinkedClass.{LinkedClass}
use Rattle.bytecode_model.specs.declared.program.Method.{Method}
use Rattle.bytecode_model.specs.declared.program.Program.{Program}
use Rattle.bytecode_model.specs.declared.program.Target.{Target}
use Rattle.guest_heap.specs.declared.frame.Frame.{Frame}
use Rattle.guest_model.specs.declared.machine.Machine.{Machine}
use Rattle.offset_patch.specs.declared.block.BlockInsn.{BlockInsn}
use Rattle.offset_patch.specs.Plan.{Plan}
use Rattle.offset_patch.specs.Splicing.{call_place, part_of}
use Rattle.guest_erasing.specs.Lifting.{frame_run_by}
use Rattle.guest_erasing.specs.Places.{Sites}
use Rattle.lift_schedule.specs.declared.standing.Standing.{Standing}
use Rattle.lift_schedule.specs.declared.standing.Way.{Way}
use Rattle.lift_schedule.specs.declared.standing.Way.TheVariants as ways

-- an instruction at this place of a part, whose call stands at that one
abbrev pub standing_in : ℕ → ℕ → Standing
standing_in call place = record { before_call = nat_lt place call; inside = not (place == 0) }

-- instructions of a part, of which the first stands at this place
abbrev pub standings_from : ℕ → ℕ → List BlockInsn → List Standing
standings_from call place [] = []
standings_from call place (insn ∷ insns) = standing_in call place ∷ standings_from call (place + 1) insns

abbrev pub part_standings : List BlockInsn → List Standing
part_standings part = standings_from (call_place part) 0 part

-- each instruction of a method with these blocks
abbrev pub standings : Sites → List Standing
standings [] = []
standings (site ∷ sites) = part_standings (part_of site) ++ standings sites

abbrev pub class_standings : (Method → Sites) → LinkedClass → List (List Standing)
class_standings sites_of class = map (λ (m : Method). standings (sites_of m)) class.methods

-- those of each method of each class
abbrev pub Table : Type 0
Table = List (List (List Standing))

abbrev pub table_of : (Method → Sites) → Program → Table
table_of sites_of program = map (class_standings sites_of) program.classes

-- An instruction has a block where the plan says so.
abbrev pub TellsBlocks : Plan → Type 0
TellsBlocks plan = (base : ℕ) (ref : Target) → is_some (plan.block base ref) ≡ plan.has_block ref

-- ---- where a thread stands

-- the standings of the frame's method
abbrev pub method_standings : Table → Frame → Option (List Standing)
method_standings table frame = option_and_then (λ (methods : List (List Standing)). slice_get methods frame.method) (slice_get table frame.class)

abbrev pub frame_standing : Table → Frame → Option Standing
frame_standing table frame = option_and_then (λ (told : List Standing). slice_get told frame.at) (method_standings table frame)

-- the standing of the frame that the thread of this number runs
abbrev pub thread_standing : Table → Machine → ℕ → Option Standing
thread_standing table machine number = option_and_then (frame_standing table) (frame_run_by machine number)

-- It has still to go this way.
abbrev pub tells : Way → Standing → Bool
tells ways.Up standing = standing.before_call
tells ways.Out standing = standing.inside

abbrev pub table_goes : Way → Table → Machine → ℕ → Bool
table_goes way table machine number = option_map_or (tells way) (thread_standing table machine number) false

-- how many instructions the method of that frame has
abbrev pub thread_count : Table → Machine → ℕ → ℕ
thread_count table machine number =
    option_map_or length (option_and_then (method_standings table) (frame_run_by machine number)) zero
