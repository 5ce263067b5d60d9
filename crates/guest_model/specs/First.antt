-- What a program does that begins with a call of the library, where no class has an initialiser. (docs/MACHINE.md)
use Rattle.std.specs.Prelude.{◌≡◌, ℕ, List, [], ◌∷◌, map, Option, Some, None, slice_get, option_map, true}
use Rattle.api_listing.specs.declared.events.Event.TheVariants as events
use Rattle.bytecode_model.specs.declared.program.Program.{Program}
use Rattle.guest_heap.specs.declared.frame.Frame.{Frame}
use Rattle.guest_heap.specs.declared.thread.Thread.{Thread}
use Rattle.guest_model.specs.Runs.{exec, initialisers, trace}
use Rattle.api_listing.specs.declared.events.ApiAnswer.TheVariants as answers
use Rattle.api_listing.specs.declared.types.ListedMethod.{ListedMethod}
use Rattle.insn_codec.specs.declared.insn.Insn.TheVariants as insns
use Rattle.bytecode_model.specs.declared.program.Method.{Method}
use Rattle.bytecode_model.specs.declared.program.Target.TheVariants as target
use Rattle.guest_model.specs.declared.machine.Choice.TheVariants as choices
use Rattle.guest_model.specs.declared.machine.Step.{Step}
use Rattle.guest_model.specs.Calls.{types_of}
use Rattle.guest_model.specs.Places.{method_at, insn_in}
use Rattle.insn_codec.specs.declared.opcodes.TheConstants.{INVOKESTATIC}

-- The first instruction of main calls a static method of the library that takes and gives nothing.
pub record BeginsWithCall (program : Program) (index listed : ℕ) : Type 0 where
  pub main : Method
  pub method : ListedMethod
  pub there : method_at program program.main_class program.main_method ≡ Some main
  pub first : insn_in main 0 ≡ Some (insns.Pool INVOKESTATIC index, target.ApiMethod listed)
  pub named : slice_get program.listing.methods listed ≡ Some method
  pub static : method.is_static ≡ true
  pub takes : (types_of method.id.desc).arguments ≡ []
  pub gives : (types_of method.id.desc).result ≡ None

-- its next instruction
abbrev pub goes_on : Step
goes_on = record { thread = 0; choice = choices.Plain }

-- the library answers that it is done
abbrev pub is_done : Step
is_done = record { thread = 0; choice = choices.Answer answers.Nothing }

-- The library sees the call in the first step, and its return in the next.
abbrev pub SeesFirstCall : Type 0
SeesFirstCall = (program : Program) (index listed : ℕ) → BeginsWithCall program index listed → initialisers program ≡ []
    → trace program (goes_on ∷ is_done ∷ []) ≡ events.Call 0 listed [] ∷ events.Return 0 listed None ∷ []

-- where the frames of the first thread stand
abbrev pub places_of_first : List Thread → Option (List ℕ)
places_of_first threads = option_map (λ (t : Thread). map (λ (f : Frame). f.at) t.frames) (slice_get threads 0)

-- After these steps the one frame of the first thread stands at the second instruction of main.
abbrev pub GoesOnAfterFirstCall : Type 0
GoesOnAfterFirstCall = (program : Program) (index listed : ℕ) → BeginsWithCall program index listed → initialisers program ≡ []
    → places_of_first (exec program (goes_on ∷ is_done ∷ [])).threads ≡ Some (1 ∷ [])
