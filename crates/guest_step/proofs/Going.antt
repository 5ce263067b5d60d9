-- What a thread does, by what its next instruction is, and by what it does.
use Rattle.std.proofs.Common.{◌≡◌, ℕ, List, [], ◌∷◌, Option, Some, None, Result, Ok, Err, refl, sym, ap, ◌∙◌, subst}
use Rattle.std.specs.Prelude.{IsSomeAnd, slice_get, option_map, option_and_then}
use Rattle.std.specs.Option.{option_map_or}
use Rattle.insn_codec.specs.declared.insn.Insn.{Insn}
use Rattle.insn_codec.specs.declared.shape.Heap.{Heap}
use Rattle.insn_codec.specs.Shapes.{shape_of}
use Rattle.bytecode_model.specs.declared.program.Program.{Program}
use Rattle.bytecode_model.specs.declared.program.Target.{Target}
use Rattle.guest_heap.specs.declared.frame.Frame.{Frame}
use Rattle.guest_heap.specs.declared.thread.Doing.TheVariants as doings
use Rattle.guest_heap.specs.declared.thread.Thread.{Thread}
use Rattle.guest_frames.specs.Stepping.{frame_stepped}
use Rattle.guest_model.specs.declared.machine.Machine.{Machine}
use Rattle.guest_model.specs.Places.{insn_at}
use Rattle.guest_model.specs.Changes.{Change, world_of}
use Rattle.guest_model.specs.Stepping.{Acting, acts_on, frames_stepped, heap_in, heap_stepped, insn_stepped}
use Rattle.guest_model.specs.declared.fault.StepFault.{StepFault}
use Rattle.guest_model.specs.declared.fault.StepFault.TheVariants as faults
use Rattle.guest_threads.specs.Acts.{ActsIn, IsDone, acting}
use Rattle.guest_step.specs.Turns.{thread_stepped, unseen}
use Rattle.guest_threads.specs.Becomes.{Becomes}

-- the change of a thread alone
abbrev pub alone : Machine → Thread → Change
alone m thread = record { world = world_of m; thread = thread; begins = None; stops = None; event = None }

module _ (program : Program) (m : Machine) (number : ℕ) (thread : Thread) (insn : Insn) (ref : Target) where
  pub goes_heap : (frames : List Frame) (f : Frame) (what : Heap) → slice_get frames 0 ≡ Some f → insn_at program f ≡ Some (insn, ref) → heap_in (shape_of insn) ≡ Some what
      → acting number thread frames (λ (a : Acting). heap_stepped program m a what ref) ≡ frames_stepped program m number thread frames
  goes_heap [] f what there next is = absurd cc
  goes_heap (g ∷ below) f what there next is =
      let same : g ≡ f = cc in
      let a : Acting = record { number = number; thread = thread; frame = g; below = below } in
      sym (ap (option_and_then (insn_stepped program m (record { number = number; thread = thread; frame = g; below = below }))) (ap (insn_at program) same ∙ next)
      ∙ ap (λ (o : Option Heap). option_map_or (λ what. heap_stepped program m (record { number = number; thread = thread; frame = g; below = below }) what ref) o (acts_on (world_of m) (record { number = number; thread = thread; frame = g; below = below }) (frame_stepped insn g))) is)

  gone : (below : List Frame) (o : Option Frame) (g : Frame)
      → acts_on (world_of m) (record { number = number; thread = thread; frame = g; below = below }) o
      ≡ option_map (alone m) (option_map (λ (f : Frame). record { frames = f ∷ below; to_begin = thread.to_begin; doing = doings.Running }) o)
  gone below None g = refl
  gone below (Some f) g = refl

  pub goes_alone : (frames : List Frame) (f : Frame) → slice_get frames 0 ≡ Some f → insn_at program f ≡ Some (insn, ref) → heap_in (shape_of insn) ≡ None
      → frames_stepped program m number thread frames ≡ option_map (alone m) (thread_stepped thread frames insn)
  goes_alone [] f there next is = absurd cc
  goes_alone (g ∷ below) f there next is =
      let same : g ≡ f = cc in
      ap (option_and_then (insn_stepped program m (record { number = number; thread = thread; frame = g; below = below }))) (ap (insn_at program) same ∙ next)
      ∙ ap (λ (o : Option Heap). option_map_or (λ what. heap_stepped program m (record { number = number; thread = thread; frame = g; below = below }) what ref) o (acts_on (world_of m) (record { number = number; thread = thread; frame = g; below = below }) (frame_stepped insn g))) is
      ∙ gone below (frame_stepped insn g) g

-- what became of the thread alone is what it did
pub alone_acts : (result : Result (Unit {0}) StepFault) (m : Machine) (t left : Thread) (made : Option Thread) (all : Option Change)
    → Becomes result t left made → all ≡ option_map (alone m) made → ActsIn (unseen result) m m t left all
alone_acts (Ok done) m t left made all h e =
    subst (λ (o : Option Change). IsSomeAnd o (λ (change : Change). IsDone change m m left None)) (sym (e ∙ ap (option_map (alone m)) h))
    (record { world = refl; thread = refl; begins = refl; stops = refl; event_is = refl })
alone_acts (Err faults.NotEnabled) m t left made all h e = (e ∙ ap (option_map (alone m)) h.0, refl, h.1)
alone_acts (Err faults.Memory) m t left made all h e = (refl, h)
