-- A step of the client at an instruction without a block is a step of the woven program: the same is seen, and the machines mirror
-- each other again. (docs/TRANSPARENCY.md)
use Rattle.std.specs.Prelude.{◌≡◌, ◌≤◌, ℕ, ◌⊎◌, Bool, true, false, [], drop, filter, length, not, slice_get, Option, Some}
use Rattle.std.specs.List.{AllByRecursion}
use Rattle.std.specs.Option.{option_map_or}
use Rattle.api_listing.specs.declared.events.Event.{Event}
use Rattle.api_listing.specs.declared.types.ListedClass.{ListedClass}
use Rattle.insn_codec.specs.declared.insn.Insn.{Insn}
use Rattle.insn_codec.specs.declared.shape.Heap.TheVariants as heap
use Rattle.insn_codec.specs.declared.shape.How.TheVariants as hows
use Rattle.insn_codec.specs.declared.shape.Shape.TheVariants as shapes
use Rattle.insn_codec.specs.Shapes.{shape_of}
use Rattle.bytecode_model.specs.declared.program.Method.{Method}
use Rattle.bytecode_model.specs.declared.program.Program.{Program}
use Rattle.bytecode_model.specs.declared.program.Target.{Target}
use Rattle.bytecode_model.specs.declared.program.Target.TheVariants as target
use Rattle.guest_heap.specs.declared.frame.Frame.{Frame}
use Rattle.guest_heap.specs.declared.object.Monitor.{Monitor}
use Rattle.guest_heap.specs.declared.thread.Thread.{Thread}
use Rattle.guest_model.specs.declared.machine.Machine.{Machine}
use Rattle.guest_model.specs.declared.machine.Step.{Step}
use Rattle.guest_model.specs.Finding.{Given}
use Rattle.guest_model.specs.Places.{insn_in, method_at}
use Rattle.guest_model.specs.Stepping.{stepped}
use Rattle.guest_erasing.specs.Erasing.{is_clients}
use Rattle.guest_erasing.specs.Laid.{IsClientName, TellAlike}
use Rattle.guest_erasing.specs.Mirrors.{IsClientMachine, Mirrors, TakesCalls, taken_locals}
use Rattle.guest_erasing.specs.Places.{Sites, has_block}

-- ---- what is asked of the client; that it has types gives it

-- What the operand of an instruction names has nothing to do with conspec/State.
abbrev pub NamesNoState : Target → Type 0
NamesNoState (target.ClassName name) = IsClientName name
NamesNoState target.None = Unit {0}
NamesNoState (target.ApiMethod index) = Unit {0}
NamesNoState (target.Builtin index) = Unit {0}
NamesNoState (target.Method class method) = Unit {0}
NamesNoState (target.Field class field) = Unit {0}
NamesNoState (target.ApiField index) = Unit {0}
NamesNoState (target.Number n) = Unit {0}
NamesNoState (target.Literal index) = Unit {0}

-- Where it has code its arguments fit the locals, and so do those of what it calls as static; and no operand names conspec/State.
pub record IsRoomy (client : Program) (method : Method) : Type 0 where
  pub arguments : (method.insns ≡ []) ⊎ (taken_locals method ≤ method.max_locals)
  pub calls : (at : ℕ) (insn : Insn) (to : Given) → insn_in method at ≡ Some (insn, target.Method to.0 to.1) → shape_of insn ≡ shapes.Heap (heap.Call hows.Static) → TakesCalls client to
  pub names : AllByRecursion NamesNoState method.refs

pub record AreRoomy (client : Program) : Type 0 where
  pub methods : (class method : ℕ) (old : Method) → method_at client class method ≡ Some old → IsRoomy client old
  pub listed : AllByRecursion (λ (c : ListedClass). IsClientName c.name) client.listing.classes

-- ---- which steps

-- The frame stands at an instruction without a block.
abbrev pub is_alone : (Method → Sites) → Program → Frame → Bool
is_alone sites_of client frame = option_map_or (λ method. not (has_block (sites_of method) frame.at)) (method_at client frame.class frame.method) false

-- The thread of the step has a frame that stands at an instruction without a block on top.
pub record IsAlone (sites_of : Method → Sites) (client : Program) (machine : Machine) (step : Step) : Type 0 where
  pub thread : Thread
  pub there : slice_get machine.threads step.thread ≡ Some thread
  pub frame : Frame
  pub top : slice_get thread.frames 0 ≡ Some frame
  pub alone : is_alone sites_of client frame ≡ true

-- ---- the law

-- What conspec/State holds, and who has its monitor, stays.
pub record KeepsState (client : Program) (before after : Machine) : Type 0 where
  pub fields : drop (length client.classes) after.statics ≡ drop (length client.classes) before.statics
  pub monitor : filter (λ (m : Monitor). not (is_clients client m)) after.monitors ≡ filter (λ (m : Monitor). not (is_clients client m)) before.monitors

-- The woven program makes the step, the same is seen, and the machines mirror each other again.
pub record IsMadeAlike (sites_of : Method → Sites) (client woven : Program) (other : Machine) (step : Step) (made : Machine × Option Event) : Type 0 where
  pub after : Machine
  pub steps : stepped woven other step ≡ Some (after, made.1)
  pub mirrors : Mirrors sites_of client woven made.0 after
  pub keeps : KeepsState client other after

abbrev pub ClientStepsAreAlike : Type 0
ClientStepsAreAlike =
    (sites_of : Method → Sites) (client woven : Program) → TellAlike sites_of client woven → AreRoomy client
    → (machine other : Machine) → Mirrors sites_of client woven machine other → IsClientMachine client machine
    → (step : Step) (made : Machine × Option Event) → IsAlone sites_of client machine step → stepped client machine step ≡ Some made
    → IsMadeAlike sites_of client woven other step made
