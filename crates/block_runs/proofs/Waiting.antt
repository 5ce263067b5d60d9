-- A thread that waits for the library stands at the call for which it waits, at the start and after each step.
use Rattle.std.proofs.Common.{◌≡◌, ℕ, List, [], ◌∷◌, Option, Some, None, ap, subst}
use Rattle.std.specs.Prelude.{IfSome, is_some, slice_get, slice_set}
use Rattle.std.specs.List.{AllByRecursion}
use Rattle.std.specs.Option.{option_to_list}
use Rattle.api_listing.specs.declared.events.Event.{Event}
use Rattle.bytecode_model.specs.declared.program.Program.{Program}
use Rattle.bytecode_model.specs.declared.program.Target.{Target}
use Rattle.guest_heap.specs.declared.thread.Doing.{Doing}
use Rattle.guest_heap.specs.declared.thread.Doing.TheVariants as doings
use Rattle.guest_heap.specs.declared.thread.Thread.{Thread}
use Rattle.guest_model.specs.declared.machine.Choice.{Choice}
use Rattle.guest_model.specs.declared.machine.Choice.TheVariants as choices
use Rattle.guest_model.specs.declared.machine.Machine.{Machine}
use Rattle.guest_model.specs.Changes.{Change, applied, rests}
use Rattle.guest_model.specs.Finding.{Given}
use Rattle.guest_model.specs.Places.{insn_at}
use Rattle.guest_model.specs.Stepping.{changed, doing_stepped}
use Rattle.guest_model.proofs.Options.{IfThere, all_append, all_set, if_either, if_none, if_then, is_there, map_of}
use Rattle.block_runs.specs.Joining.{AllWait, StandsAtCall, StartsWait, WaitsAreKept}
use Rattle.block_runs.proofs.Changes as changes

module _ (program : Program) where
  abbrev Waits : Thread → Type 0
  Waits t = StandsAtCall program t.doing t.frames

  abbrev Any : Option Event → Type 0
  Any event = Unit {0}

  abbrev Still : Change → Type 0
  Still = changes.Still program Waits Any (λ frames to_begin. tt) tt tt

  does_still : (machine : Machine) (number : ℕ) (thread : Thread) (doing : Doing) (choice : Choice)
      → IfThere Still (doing_stepped program machine number thread doing choice)
  does_still machine number thread doings.Running choices.Plain =
      changes.frames_still program Waits Any (λ frames to_begin. tt) tt tt machine number thread thread.frames
      (λ frame below next same at passed index named.
      record { event = tt; thread = (next.0, subst (λ (ref : Target). insn_at program frame ≡ Some (next.0, ref)) named at); begins = tt })
  does_still machine number thread doings.Running (choices.Answer answer) = if_none Still
  does_still machine number thread (doings.InCall method receiver arguments) choice =
      changes.call_still program Waits Any (λ frames to_begin. tt) tt tt machine number thread method
      (λ value. tt) tt receiver arguments choice
  does_still machine number thread doings.Ended choice = if_none Still

pub waits_kept : WaitsAreKept
waits_kept program machine step made waits is =
    let its = map_of (λ (change : Change). (applied step.thread machine change, change.event)) (changed program machine step) made is in
    let still = is_there (Still program) (changed program machine step) its.0
    (if_either (Still program) (is_some machine.stopped) _ _ (if_none (Still program))
    (if_then (Still program) _ (slice_get machine.threads step.thread)
    (λ thread e. does_still program machine step.thread thread thread.doing step.choice))) its.1 in
    subst (AllWait program) (ap (λ (p : Machine × Option Event). p.0) its.2)
    (all_append (Waits program) (slice_set machine.threads step.thread its.0.thread) (option_to_list its.0.begins)
    (all_set (Waits program) machine.threads step.thread its.0.thread waits still.thread) (one its.0.begins still.begins))
  where
    one : (o : Option Thread) → IfSome o (Waits program) → AllByRecursion (Waits program) (option_to_list o)
    one None h = tt
    one (Some t) h = (h, tt)

rests_wait : (program : Program) (to_begin : List Given) → Waits program (rests program to_begin)
rests_wait program [] = tt
rests_wait program (next ∷ to_begin) = tt

pub starts_wait : StartsWait
starts_wait program = (rests_wait program _, tt)
