-- What the library is asked in a run, and what it answered. (docs/RUNS.md)
use Rattle.std.specs.Prelude.{ℕ, List, [], ◌∷◌, ◌++◌, Option, None, Some, is_some, slice_get, option_map, option_and_then, if◌then◌else◌}
use Rattle.std.specs.Option.{option_map_or, option_to_list}
use Rattle.api_listing.specs.declared.events.ApiAnswer.{ApiAnswer}
use Rattle.api_listing.specs.declared.events.ApiCall.{ApiCall}
use Rattle.api_listing.specs.declared.types.ListedMethod.{ListedMethod}
use Rattle.bytecode_model.specs.declared.program.Program.{Program}
use Rattle.guest_heap.specs.declared.object.Object.{Object}
use Rattle.guest_heap.specs.declared.thread.Doing.{Doing}
use Rattle.guest_heap.specs.declared.thread.Doing.TheVariants as doings
use Rattle.guest_heap.specs.declared.thread.Thread.{Thread}
use Rattle.guest_model.specs.declared.machine.Choice.{Choice}
use Rattle.guest_model.specs.declared.machine.Choice.TheVariants.{Plain, Answer}
use Rattle.guest_model.specs.declared.machine.Machine.{Machine}
use Rattle.guest_model.specs.declared.machine.Step.{Step}
use Rattle.guest_model.specs.Runs.{start_of, stepped_or_same}
use Rattle.guest_model.specs.Seen.{values_shown}
use Rattle.guest_model.specs.Stepping.{is_on_null}

-- ---- what is asked

-- The call that a thread with this doing waits in: the method, whether there is a receiver, and the arguments as the library sees them.
-- A call on null asks nothing: it throws.
abbrev pub call_of_doing : Program → List Object → Doing → Option ApiCall
call_of_doing program heap doings.Running = None
call_of_doing program heap (doings.InCall method receiver arguments) =
    if is_on_null receiver then None
    else option_map (λ (listed : ListedMethod). record { method = listed.id; instance = is_some receiver; args = values_shown program heap arguments })
    (slice_get program.listing.methods method)
call_of_doing program heap doings.Ended = None

-- the call to which the thread with this number waits for an answer, if it does
abbrev pub call_asked : Program → Machine → ℕ → Option ApiCall
call_asked program machine number = option_and_then (λ (t : Thread). call_of_doing program machine.heap t.doing) (slice_get machine.threads number)

-- ---- what was answered

-- a call of the library with its answer
abbrev pub Answered : Type 0
Answered = ApiCall × ApiAnswer

abbrev pub answered_by : Program → Machine → ℕ → Choice → List Answered
answered_by program machine number Plain = []
answered_by program machine number (Answer answer) = option_to_list (option_map (λ call. (call, answer)) (call_asked program machine number))

-- the calls that these steps answer, each with its answer, in their order
abbrev pub answered_from : Program → Machine → List Step → List Answered
answered_from program machine [] = []
answered_from program machine (step ∷ steps) =
    answered_by program machine step.thread step.choice ++ answered_from program (stepped_or_same program machine step) steps

abbrev pub answered_in : Program → List Step → List Answered
answered_in program steps = answered_from program (start_of program) steps
