-- A thread waits as its next instruction does.
use Rattle.std.proofs.Common.{◌≡◌, ℕ, false, List, [], ◌∷◌, Option, Some, ap, ◌∙◌}
use Rattle.std.specs.Prelude.{slice_get}
use Rattle.std.specs.Option.{option_map_or}
use Rattle.insn_codec.specs.declared.insn.Insn.{Insn}
use Rattle.insn_codec.specs.declared.shape.Heap.{Heap}
use Rattle.insn_codec.specs.Shapes.{shape_of}
use Rattle.bytecode_model.specs.declared.program.Program.{Program}
use Rattle.bytecode_model.specs.declared.program.Target.{Target}
use Rattle.guest_heap.specs.declared.frame.Frame.{Frame}
use Rattle.guest_model.specs.declared.machine.Machine.{Machine}
use Rattle.guest_model.specs.Places.{insn_at}
use Rattle.guest_model.specs.Enabled.{heap_waits, waits}
use Rattle.guest_model.specs.Stepping.{heap_in}

pub next_waits : (program : Program) (machine : Machine) (number : ℕ) (frames : List Frame) (f : Frame) (insn : Insn) (ref : Target) (o : Option Heap)
    → slice_get frames 0 ≡ Some f → insn_at program f ≡ Some (insn, ref) → heap_in (shape_of insn) ≡ o
    → waits program machine number frames ≡ option_map_or (λ (what : Heap). heap_waits program machine number f what ref) o false
next_waits program machine number [] f insn ref o there next is = absurd cc
next_waits program machine number (g ∷ below) f insn ref o there next is =
    let same : g ≡ f = cc in
    ap (λ (x : Frame). waits program machine number (x ∷ below)) same
    ∙ ap (λ (n : Option (Insn × Target)). option_map_or (λ (next : Insn × Target). option_map_or (λ (what : Heap). heap_waits program machine number f what next.1) (heap_in (shape_of next.0)) false) n false) next
    ∙ ap (λ (p : Option Heap). option_map_or (λ (what : Heap). heap_waits program machine number f what ref) p false) is
