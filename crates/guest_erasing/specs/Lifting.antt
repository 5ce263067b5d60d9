-- The steps of a woven program for those of its client: before a call with a block those of its thread up to the call, and after the
-- end of one those until the thread has left the block. (docs/TRANSPARENCY.md)
use Rattle.std.specs.Prelude.{ℕ, zero, suc, Bool, false, if◌then◌else◌, List, [], ◌∷◌, ◌++◌, slice_get, Option, None, option_and_then}
use Rattle.std.specs.Option.{option_map_or}
use Rattle.bytecode_model.specs.declared.program.Method.{Method}
use Rattle.bytecode_model.specs.declared.program.Program.{Program}
use Rattle.guest_heap.specs.declared.frame.Frame.{Frame}
use Rattle.guest_heap.specs.declared.thread.Doing.{Doing}
use Rattle.guest_heap.specs.declared.thread.Doing.TheVariants as doings
use Rattle.guest_heap.specs.declared.thread.Thread.{Thread}
use Rattle.guest_model.specs.declared.machine.Choice.TheVariants.{Plain}
use Rattle.guest_model.specs.declared.machine.Machine.{Machine}
use Rattle.guest_model.specs.declared.machine.Step.{Step}
use Rattle.guest_model.specs.Places.{method_at}
use Rattle.guest_model.specs.Runs.{exec_from, stepped_or_same, start_of}
use Rattle.offset_patch.specs.Splicing.{count_of}
use Rattle.guest_erasing.specs.Places.{Sites, is_before_call, is_inside}

-- the frame that a thread runs; one that waits for an answer, or has ended, runs none
abbrev pub frame_run : Doing → List Frame → Option Frame
frame_run doings.Running frames = slice_get frames 0
frame_run (doings.InCall method receiver arguments) frames = None
frame_run doings.Ended frames = None

-- the frame that the thread of this number runs
abbrev pub frame_run_by : Machine → ℕ → Option Frame
frame_run_by machine number = option_and_then (λ (t : Thread). frame_run t.doing t.frames) (slice_get machine.threads number)

abbrev pub plain_step : ℕ → Step
plain_step number = record { thread = number; choice = Plain }

module _ (sites_of : Method → Sites) (client woven : Program) where
  -- the blocks of the method in which the frame stands
  abbrev pub sites_at : Frame → Sites
  sites_at frame = option_map_or sites_of (method_at client frame.class frame.method) []

  -- The thread of this number has still to go to the call of its block.
  abbrev pub goes_up : Machine → ℕ → Bool
  goes_up machine number = option_map_or (λ (f : Frame). is_before_call (sites_at f) f.at) (frame_run_by machine number) false

  -- It has still to leave its block.
  abbrev pub goes_out : Machine → ℕ → Bool
  goes_out machine number = option_map_or (λ (f : Frame). is_inside (sites_at f) f.at) (frame_run_by machine number) false

  -- how many steps that takes at most
  abbrev pub most_steps : Machine → ℕ → ℕ
  most_steps machine number = option_map_or (λ (f : Frame). count_of (sites_at f)) (frame_run_by machine number) zero

  -- the plain steps of the thread of this number while it goes on, at most so many
  abbrev pub while_goes : (Machine → ℕ → Bool) → ℕ → Machine → ℕ → List Step
  while_goes goes zero machine number = []
  while_goes goes (suc n) machine number =
      if goes machine number then plain_step number ∷ while_goes goes n (stepped_or_same woven machine (plain_step number)) number else []

  abbrev pub steps_up : Machine → ℕ → List Step
  steps_up machine number = while_goes goes_up (most_steps machine number) machine number

  abbrev pub steps_out : Machine → ℕ → List Step
  steps_out machine number = while_goes goes_out (most_steps machine number) machine number

  -- the machine once the thread of the step has gone up to its call and made the step
  abbrev pub made_there : Machine → Step → Machine
  made_there machine step = stepped_or_same woven (exec_from woven machine (steps_up machine step.thread)) step

  -- a step with those before it and those after it
  abbrev pub lifted_step : Machine → Step → List Step
  lifted_step machine step = steps_up machine step.thread ++ step ∷ steps_out (made_there machine step) step.thread

  abbrev pub lifted_from : Machine → List Step → List Step
  lifted_from machine [] = []
  lifted_from machine (step ∷ steps) = lifted_step machine step ++ lifted_from (exec_from woven machine (lifted_step machine step)) steps

  -- the steps of the woven program for these of the client
  abbrev pub lifted : List Step → List Step
  lifted steps = lifted_from (start_of woven) steps
