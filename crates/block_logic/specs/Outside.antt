-- Where an error leads that a Java machine throws in a block: out of the block. (docs/CERTIFICATES.md)
use Rattle.std.specs.Prelude.{◌≡◌, ℕ, Bool, false, Some, None}
use Rattle.std.specs.List.{AllByRecursion}
use Rattle.insn_codec.specs.declared.insn.Insn.{Insn}
use Rattle.insn_codec.specs.declared.shape.Shape.{Shape}
use Rattle.insn_codec.specs.Shapes.{shape_of}
use Rattle.bytecode_model.specs.declared.program.Program.{Program}
use Rattle.bytecode_model.specs.declared.program.Target.{Target}
use Rattle.block_logic.specs.Annotations.{Annotations}
use Rattle.cert_format.specs.declared.note.Note.{Note}
use Rattle.cert_format.specs.declared.note.Note.TheVariants as notes
use Rattle.cert_format.specs.declared.note.Phase8.TheVariants.{Before}
use Rattle.conspec_automaton.specs.declared.policy.Policy.{Policy}
use Rattle.guest_model.specs.ClosedPlaces.{IsAt}
use Rattle.block_logic.specs.Accepted.{AreAccepted}
use Rattle.block_logic.specs.Clauses.{clause_at}
use Rattle.block_logic.specs.Meaning.{note_at, note_in}
use Rattle.block_logic.specs.Notes.{handlers_of}
use Rattle.block_logic.specs.Rows.{calls_of}

-- ---- out of each block

-- No lock is held there, no call with a clause before it is granted, and nothing is owed.
abbrev pub IsOutside : Policy → Note → Type 0
IsOutside policy notes.Free = Unit {0}
IsOutside policy (notes.Taking site) = ⊥
IsOutside policy (notes.Held site failed holding list map) = ⊥
IsOutside policy (notes.Granted site locked count top) = (locked ≡ false) × (clause_at policy site.method Before ≡ None)
IsOutside policy (notes.Owed site stage kept top) = ⊥
IsOutside policy (notes.Stop site place) = ⊥

-- The instruction of this index has such a note.
pub record StandsOutside (program : Program) (policy : Policy) (annotations : Annotations) (class method at : ℕ) : Type 0 where
  pub note : Note
  pub told : note_in program annotations class method at ≡ Some note
  pub outside : IsOutside policy note

-- ---- where errors lead

-- It is the call that a block is made for, which is granted.
abbrev pub is_granted_call : Note → Shape → Target → Bool
is_granted_call notes.Free shape ref = false
is_granted_call (notes.Taking site) shape ref = false
is_granted_call (notes.Held site failed holding list map) shape ref = false
is_granted_call (notes.Granted site locked count top) shape ref = calls_of site shape ref
is_granted_call (notes.Owed site stage kept top) shape ref = false
is_granted_call (notes.Stop site place) shape ref = false

-- Wherever control comes, but at a granted call, each handler that may take what is thrown stands out of each block.
abbrev pub LeavesBlocks : Program → Policy → Annotations → Type 0
LeavesBlocks program policy annotations =
    (class method at : ℕ) (insn : Insn) (ref : Target) (note : Note) (there : IsAt program class method at insn ref)
    → note_at program annotations class method at ≡ Some note → is_granted_call note (shape_of insn) ref ≡ false
    → AllByRecursion (StandsOutside program policy annotations class method) (handlers_of at there.of.handlers)

-- It is so in each program that is accepted.
abbrev pub ErrorsLeaveBlocks : Type 0
ErrorsLeaveBlocks = (program : Program) (policy : Policy) (annotations : Annotations) → AreAccepted program policy annotations → LeavesBlocks program policy annotations
