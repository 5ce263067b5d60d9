-- A step at an instruction that calls no method with clauses begins no such call, and the policy has nothing to say of it.
use Rattle.std.proofs.Common.{◌≡◌, ℕ, false, List, Option, Some, refl, subst, sym}
use Rattle.std.specs.Prelude.{IfSome, slice_get}
use Rattle.api_listing.specs.declared.events.Event.{Event}
use Rattle.insn_codec.specs.declared.insn.Insn.{Insn}
use Rattle.bytecode_model.specs.declared.program.Program.{Program}
use Rattle.bytecode_model.specs.declared.program.Target.{Target}
use Rattle.bytecode_model.specs.declared.program.Target.TheVariants as target
use Rattle.conspec_automaton.specs.declared.policy.Policy.{Policy}
use Rattle.conspec_automaton.specs.Next.{has_clauses, method_of}
use Rattle.guest_heap.specs.declared.frame.Frame.{Frame}
use Rattle.guest_heap.specs.declared.thread.Thread.{Thread}
use Rattle.guest_heap.specs.declared.value.Value.{Value}
use Rattle.guest_model.specs.declared.machine.Choice.{Choice}
use Rattle.guest_model.specs.declared.machine.Machine.{Machine}
use Rattle.guest_model.specs.Changes.{Change, world_of}
use Rattle.guest_model.specs.Places.{insn_at}
use Rattle.guest_model.specs.Stepping.{call_stepped, frames_stepped}
use Rattle.guest_model.proofs.Options.{IfThere}
use Rattle.block_runs.specs.Joining.{is_calling}
use Rattle.block_runs.proofs.Changes as changes

module _ (program : Program) (policy : Policy) where
  abbrev pub IsUnclaused : Target → Type 0
  IsUnclaused (target.ApiMethod index) = has_clauses policy index ≡ false
  IsUnclaused target.None = Unit {0}
  IsUnclaused (target.Builtin index) = Unit {0}
  IsUnclaused (target.Method class method) = Unit {0}
  IsUnclaused (target.Field class field) = Unit {0}
  IsUnclaused (target.ApiField index) = Unit {0}
  IsUnclaused (target.ClassName name) = Unit {0}
  IsUnclaused (target.Number n) = Unit {0}
  IsUnclaused (target.Literal index) = Unit {0}

  abbrev NotCalling : Thread → Type 0
  NotCalling t = is_calling policy t.doing ≡ false

  abbrev Unclaused : Option Event → Type 0
  Unclaused event = IfSome event (λ (e : Event). has_clauses policy (method_of e) ≡ false)

  -- What is seen has no clauses, and no thread begins a call of a method that has some.
  abbrev pub Still : Change → Type 0
  Still = changes.Still program NotCalling Unclaused (λ frames to_begin. refl) refl tt

  abbrev pub StillIf : Option Change → Type 0
  StillIf change = IfThere Still change

  pub frames_still : (machine : Machine) (number : ℕ) (thread : Thread) (frames : List Frame)
      → ((frame : Frame) (next : Insn × Target) → slice_get frames 0 ≡ Some frame → insn_at program frame ≡ Some next → IsUnclaused next.1)
      → StillIf (frames_stepped program machine number thread frames)
  frames_still machine number thread frames free =
      changes.frames_still program NotCalling Unclaused (λ frames to_begin. refl) refl tt machine number thread frames
      (λ frame below next same at passed index named.
      let top : slice_get frames 0 ≡ Some frame = subst (λ (fs : List Frame). slice_get fs 0 ≡ Some frame) (sym same) refl in
      let none : has_clauses policy index ≡ false = subst IsUnclaused named (free frame next top at) in
      record { event = none; thread = none; begins = tt })

  pub call_still : (machine : Machine) (number : ℕ) (thread : Thread) (method : ℕ) → has_clauses policy method ≡ false
      → (receiver : Option Value) (arguments : List Value) (choice : Choice)
      → StillIf (call_stepped program (world_of machine) number thread method receiver arguments choice)
  call_still machine number thread method free receiver arguments choice =
      changes.call_still program NotCalling Unclaused (λ frames to_begin. refl) refl tt machine number thread method (λ value. free) free
      receiver arguments choice
