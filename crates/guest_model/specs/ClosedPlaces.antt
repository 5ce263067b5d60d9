-- Sets of places that control does not leave, and what the library can see of a program that stays in one. (docs/MACHINE.md)
use Rattle.std.specs.Prelude.{◌≡◌, ℕ, ◌≤◌, ◌<◌, IsTrue, List, length, Contains, Some, Bool}
use Rattle.std.specs.List.{AllByRecursion}
use Rattle.insn_codec.specs.declared.insn.Insn.{Insn}
use Rattle.insn_codec.specs.Control.{successors}
use Rattle.bytecode_model.specs.declared.program.Handler.{Handler}
use Rattle.bytecode_model.specs.declared.program.Method.{Method}
use Rattle.bytecode_model.specs.declared.program.Program.{Program}
use Rattle.bytecode_model.specs.declared.program.Target.{Target}
use Rattle.guest_model.specs.declared.machine.Step.{Step}
use Rattle.guest_model.specs.Places.{method_at, insn_in}
use Rattle.guest_model.specs.Runs.{trace}
use Rattle.api_listing.specs.declared.events.Event.{Event}
use Rattle.api_listing.specs.declared.events.Event.TheVariants as events
use Rattle.insn_codec.specs.Fits.{IsInsn}
use Rattle.insn_codec.specs.declared.shape.Heap.TheVariants as heap
use Rattle.insn_codec.specs.declared.shape.Shape.TheVariants as shapes
use Rattle.insn_codec.specs.Shapes.{shape_of}
use Rattle.insn_codec.specs.declared.shape.How.{How}
use Rattle.bytecode_model.specs.declared.program.Target.TheVariants as target

-- a set of places: class, method, and index of an instruction
abbrev pub Places : Type 0
Places = ℕ → ℕ → ℕ → Bool

-- the instruction at a place, and what its operand names
pub record IsAt (program : Program) (class method at : ℕ) (insn : Insn) (ref : Target) : Type 0 where
  pub of : Method
  pub there : method_at program class method ≡ Some of
  pub is : insn_in of at ≡ Some (insn, ref)

-- Each instruction of the program is one of the table.
abbrev pub HasInsns : Program → Type 0
HasInsns program = (class method at : ℕ) (insn : Insn) (ref : Target) → IsAt program class method at insn ref → IsInsn insn

-- The method of the listing is called at a place of the set.
pub record IsCalled (program : Program) (reached : Places) (listed : ℕ) : Type 0 where
  pub class : ℕ
  pub method : ℕ
  pub at : ℕ
  pub insn : Insn
  pub inside : IsTrue (reached class method at)
  pub there : IsAt program class method at insn (target.ApiMethod listed)
  pub how : How
  pub calls : shape_of insn ≡ shapes.Heap (heap.Call how)

-- the method of the listing that an event is of
abbrev pub method_of : Event → ℕ
method_of (events.Call thread method arguments) = method
method_of (events.Return thread method value) = method
method_of (events.Except thread method) = method

-- Control begins at a place of the set in each method that has code, and goes from a place of the set to places of the set: to a
-- successor, or to a handler that covers it.
pub record IsClosed (program : Program) (reached : Places) : Type 0 where
  pub begin : (class method : ℕ) (of : Method) → method_at program class method ≡ Some of → 0 < length of.insns
      → IsTrue (reached class method 0)
  pub next : (class method at : ℕ) (insn : Insn) (ref : Target) → IsTrue (reached class method at) → IsAt program class method at insn ref
      → (to : ℕ) → Contains (successors at insn) to → IsTrue (reached class method to)
  pub caught : (class method at : ℕ) (of : Method) (handler : Handler) → IsTrue (reached class method at)
      → method_at program class method ≡ Some of → Contains of.handlers handler → handler.from ≤ at → at < handler.to
      → IsTrue (reached class method handler.at)

-- Whatever the steps are, each event is of a method that is called at a place of the set.
abbrev pub SeesOnlyCalled : Program → Places → Type 0
SeesOnlyCalled program reached =
    (steps : List Step) → AllByRecursion (λ event. IsCalled program reached (method_of event)) (trace program steps)
