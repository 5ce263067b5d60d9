-- A step that is enabled is made, where what the thread needs for it is there.
use Rattle.std.proofs.Common.{◌≡◌, ℕ, Bool, false, List, [], ◌∷◌, Option, Some, None, refl, subst}
use Rattle.std.specs.Prelude.{IsSome, IsSomeAnd}
use Rattle.std.specs.Option.{option_map_or}
use Rattle.insn_codec.specs.declared.insn.Insn.{Insn}
use Rattle.insn_codec.specs.declared.shape.Heap.{Heap}
use Rattle.insn_codec.specs.declared.shape.Heap.TheVariants as heap
use Rattle.insn_codec.specs.declared.shape.How.{How}
use Rattle.insn_codec.specs.Shapes.{shape_of}
use Rattle.bytecode_model.specs.declared.program.Program.{Program}
use Rattle.bytecode_model.specs.declared.program.Target.{Target}
use Rattle.bytecode_model.specs.LinkedClasses.{AreLinkedClasses}
use Rattle.guest_heap.specs.declared.frame.Frame.{Frame}
use Rattle.guest_heap.specs.declared.thread.Doing.{Doing}
use Rattle.guest_heap.specs.declared.thread.Doing.TheVariants as doings
use Rattle.guest_heap.specs.declared.thread.Thread.{Thread}
use Rattle.guest_model.specs.declared.machine.Choice.{Choice}
use Rattle.guest_model.specs.declared.machine.Choice.TheVariants as choices
use Rattle.guest_model.specs.declared.machine.Machine.{Machine}
use Rattle.guest_model.specs.Calls.{Taken}
use Rattle.guest_model.specs.Places.{insn_at}
use Rattle.guest_frames.specs.Stepping.{frame_stepped}
use Rattle.guest_model.specs.Changes.{world_of}
use Rattle.guest_model.specs.Enabled.{MayStep, heap_waits, passed_by, waits}
use Rattle.guest_model.specs.Moving.{CanDo, CanDoNext, CanRun, EnabledIsMade, IsAble, IsReadyToCall}
use Rattle.guest_model.specs.Stepping.{Acting, acts_on, doing_stepped, frames_stepped, heap_in, heap_stepped, insn_stepped}
use Rattle.guest_model.proofs.Calls.{calling_steps, then_at}
use Rattle.guest_model.proofs.Moving.{answers_step, entering_steps, leaving_steps, ready_steps, returning_steps, throwing_steps}
use Rattle.guest_model.proofs.There.{map_some}

record At {A : Type 0} (P : A → Type 0) (o : Option A) : Type 0 where
  pub item : A
  pub is : o ≡ Some item
  pub holds : P item

at : {A : Type 0} (P : A → Type 0) (o : Option A) → IsSomeAnd o P → At P o
at P None h = absurd h
at P (Some x) h = record { item = x; is = refl; holds = h }

module _ (program : Program) (standing : AreLinkedClasses program) (machine : Machine) where
  call_made : (a : Acting) (how : How) (ref : Target) → CanDo program machine a (heap.Call how) ref
      → heap_waits program machine a.number a.frame (heap.Call how) ref ≡ false
      → IsSome (heap_stepped program machine a (heap.Call how) ref)
  call_made a how ref able free =
      let p = at (λ (passed : Taken). IsReadyToCall machine.heap how ref passed) (passed_by program a.frame how ref) able.1 in
      calling_steps program machine a how ref p.item standing able.0 p.is p.holds free

  heap_made : (a : Acting) (what : Heap) (ref : Target) → CanDo program machine a what ref
      → heap_waits program machine a.number a.frame what ref ≡ false
      → IsSome (heap_stepped program machine a what ref)
  heap_made a (heap.Call how) ref able free = call_made a how ref able free
  heap_made a heap.Throw ref able free = throwing_steps program machine a ref able
  heap_made a heap.Enter ref able free = entering_steps program machine a ref able.1 able.0 free
  heap_made a heap.Exit ref able free = leaving_steps program machine a ref able.1 able.0
  heap_made a (heap.Return kind) ref able free = returning_steps program machine a kind ref able
  heap_made a heap.Constant ref able free = ready_steps program machine a heap.Constant ref able.0 able.1
  heap_made a (heap.ReadItem item) ref able free = ready_steps program machine a (heap.ReadItem item) ref able.0 able.1
  heap_made a (heap.WriteItem item) ref able free = ready_steps program machine a (heap.WriteItem item) ref able.0 able.1
  heap_made a (heap.Divide remainder) ref able free = ready_steps program machine a (heap.Divide remainder) ref able.0 able.1
  heap_made a heap.ReadStatic ref able free = ready_steps program machine a heap.ReadStatic ref able.0 able.1
  heap_made a heap.WriteStatic ref able free = ready_steps program machine a heap.WriteStatic ref able.0 able.1
  heap_made a heap.ReadField ref able free = ready_steps program machine a heap.ReadField ref able.0 able.1
  heap_made a heap.WriteField ref able free = ready_steps program machine a heap.WriteField ref able.0 able.1
  heap_made a heap.New ref able free = ready_steps program machine a heap.New ref able.0 able.1
  heap_made a (heap.NewArray kind) ref able free = ready_steps program machine a (heap.NewArray kind) ref able.0 able.1
  heap_made a heap.NewArrayOf ref able free = ready_steps program machine a heap.NewArrayOf ref able.0 able.1
  heap_made a heap.Length ref able free = ready_steps program machine a heap.Length ref able.0 able.1
  heap_made a heap.Cast ref able free = ready_steps program machine a heap.Cast ref able.0 able.1
  heap_made a heap.IsInstance ref able free = ready_steps program machine a heap.IsInstance ref able.0 able.1

  insn_made : (a : Acting) (next : Insn × Target) (what : Option Heap) → CanDoNext program machine a next what
      → option_map_or (λ (what : Heap). heap_waits program machine a.number a.frame what next.1) what false ≡ false
      → IsSome (option_map_or (λ (what : Heap). heap_stepped program machine a what next.1) what
      (acts_on (world_of machine) a (frame_stepped next.0 a.frame)))
  insn_made a next None able free = map_some _ (frame_stepped next.0 a.frame) able
  insn_made a next (Some what) able free = heap_made a what next.1 able free

  -- this instruction waits
  abbrev next_waits : ℕ → Frame → Insn × Target → Bool
  next_waits number frame next =
      option_map_or (λ (what : Heap). heap_waits program machine number frame what next.1) (heap_in (shape_of next.0)) false

  run_made : (number : ℕ) (thread : Thread) (frames : List Frame) → CanRun program machine number thread frames
      → waits program machine number frames ≡ false
      → IsSome (frames_stepped program machine number thread frames)
  run_made number thread [] able free = absurd able
  run_made number thread (frame ∷ below) able free =
      let a : Acting = record { number = number; thread = thread; frame = frame; below = below } in
      let n = at (λ (next : Insn × Target). CanDoNext program machine a next (heap_in (shape_of next.0))) (insn_at program frame) able in
      then_at (insn_stepped program machine a) (insn_at program frame) n.item n.is
      (insn_made a n.item (heap_in (shape_of n.item.0)) n.holds
      (subst (λ (o : Option (Insn × Target)). option_map_or (next_waits number frame) o false ≡ false) n.is free))

  step_made : (number : ℕ) (thread : Thread) (doing : Doing) (choice : Choice) → MayStep program machine number thread.frames doing choice
      → IsAble program machine number thread doing choice → IsSome (doing_stepped program machine number thread doing choice)
  step_made number thread doings.Running choices.Plain may able = run_made number thread thread.frames able may
  step_made number thread doings.Running (choices.Answer answer) may able = absurd may
  step_made number thread (doings.InCall method receiver arguments) choice may able =
      answers_step program machine number thread method receiver arguments choice may able
  step_made number thread doings.Ended choice may able = absurd may

pub enabled_made : EnabledIsMade
enabled_made program machine step standing enabled able =
    rw enabled.runs (then_at _ _ enabled.thread enabled.there
    (step_made program standing machine step.thread enabled.thread enabled.thread.doing step.choice enabled.may able))
