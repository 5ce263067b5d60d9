-- The certificate of a woven program: its types, and the note of each instruction, told by its role in its block.
-- (docs/PROMISES.md)
use Rattle.std.specs.Prelude.{ℕ, min, Bool, true, false, if◌then◌else◌, List, [], ◌∷◌, ◌++◌, drop, length, map, take, Option, Some, None, slice_get}
use Rattle.std.specs.Option.{option_map_or}
use Rattle.bytecode_model.specs.declared.program.LinkedClass.{LinkedClass}
use Rattle.bytecode_model.specs.declared.program.Method.{Method}
use Rattle.bytecode_model.specs.declared.program.Target.{Target}
use Rattle.bytecode_model.specs.declared.program.Target.TheVariants as target
use Rattle.bytecode_model.specs.Layout.{has_code}
use Rattle.bytecode_model.specs.Typed.{list_at}
use Rattle.cert_format.specs.declared.certificate.Certificate.{Certificate}
use Rattle.cert_format.specs.declared.certificate.Mode.{Mode}
use Rattle.cert_format.specs.declared.note.Note.{Note}
use Rattle.cert_format.specs.declared.note.Note.TheVariants as notes
use Rattle.cert_format.specs.declared.note.Phase8.{Phase8}
use Rattle.cert_format.specs.declared.note.Phase8.TheVariants as sites
use Rattle.cert_format.specs.declared.note.Site.{Site}
use Rattle.cert_format.specs.declared.note.Term.{Term}
use Rattle.cert_format.specs.declared.note.Term.TheVariants as terms
use Rattle.cert_format.specs.declared.typing.FrameType.{FrameType}
use Rattle.cert_format.specs.declared.typing.Typing.{Typing}
use Rattle.conspec_tree.specs.declared.types.Atom.{Atom}
use Rattle.conspec_tree.specs.declared.types.Phase.{Phase}
use Rattle.conspec_tree.specs.declared.types.Phase.TheVariants.{Before, After, Exceptional}
use Rattle.conspec_tree.specs.declared.types.Update.{Update}
use Rattle.conspec_automaton.specs.declared.policy.Branch.{Branch}
use Rattle.conspec_automaton.specs.declared.policy.Policy.{Policy}
use Rattle.conspec_automaton.specs.Next.{has_clauses}
use Rattle.block_template.specs.declared.item.Item.{Item}
use Rattle.block_template.specs.declared.item.Role.{Role}
use Rattle.block_template.specs.declared.item.Role.TheVariants as roles
use Rattle.block_template.specs.declared.steps.Operand.{Operand}
use Rattle.block_template.specs.declared.steps.Operand.TheVariants as operands
use Rattle.block_template.specs.declared.steps.Step.{Step}
use Rattle.block_template.specs.Blocks.{bools_of, clauses_of, items}
use Rattle.block_template.specs.Steps.{ask_steps, stack_before, update_steps}
use Rattle.cert_maker.specs.declared.called.Called.{Called}
use Rattle.block_logic.specs.Clauses.{needs}
use Rattle.block_logic.specs.Weakening.{asks_kept, branches_of}
use Rattle.block_logic.specs.Terms.{after_updates, as_taken, base_term}

-- ---- sites

abbrev pub phase_of : Phase → Phase8
phase_of Before = sites.Before
phase_of After = sites.After
phase_of Exceptional = sites.Exceptional

-- the site of a call in a phase; there are fewer than 2^16 methods
abbrev pub site_of : Called → Phase → Site
site_of call phase = record { method = min call.callee 65535; phase = phase_of phase; base = call.base }

-- a number that a byte tells
abbrev pub byte : ℕ → ℕ
byte n = min n 255

-- ---- the lock

abbrev pub lock_note : Policy → Called → Phase → Bool → Note
lock_note policy call Before false = notes.Free
lock_note policy call Before true = notes.Taking (site_of call Before)
lock_note policy call After pushed = notes.Owed (site_of call After) 0 (asks_kept policy (site_of call After)) pushed
lock_note policy call Exceptional pushed = notes.Owed (site_of call Exceptional) 0 (asks_kept policy (site_of call Exceptional)) pushed

-- after a check, and where none was made
abbrev pub left_note : Policy → Site → Bool → Bool → Note
left_note policy site true pushed = notes.Owed site 2 (asks_kept policy site) pushed
left_note policy site false pushed = notes.Owed site 1 false pushed

abbrev pub unlock_note : Policy → Called → Phase → Bool → Bool → Note
unlock_note policy call Before checked pushed = notes.Granted (site_of call Before) true 0 pushed
unlock_note policy call After checked pushed = left_note policy (site_of call After) checked pushed
unlock_note policy call Exceptional checked pushed = left_note policy (site_of call Exceptional) checked pushed

-- ---- a check

-- what notes say of an operand
abbrev pub operand_term : Operand → Term
operand_term (operands.Base asked) = base_term asked
operand_term (operands.Number n) = terms.Const n
operand_term (operands.Sum var by) = terms.VarAdd var by

abbrev pub terms_before : List Step → ℕ → List Term
terms_before steps done = map operand_term (stack_before steps done)

-- A role that names no atom, branch or update is that of no item.
abbrev pub ask_note : Policy → Site → ℕ → ℕ → ℕ → Option Atom → Note
ask_note policy site branch atom done None = notes.Free
ask_note policy site branch atom done (Some asked) =
    notes.Held site (byte branch) (byte atom) (terms_before (ask_steps asked) done) (as_taken policy)

-- The branches before this one fail and its atoms hold, and so many of its updates are made.
abbrev pub made_note : Policy → Site → ℕ → ℕ → List Term → Branch → Note
made_note policy site branch update pushed of =
    notes.Held site (byte branch) (byte (length of.atoms)) pushed (after_updates policy (take update of.updates))

abbrev pub branch_at : Policy → Site → ℕ → Option Branch
branch_at policy site branch = slice_get (branches_of policy site) branch

abbrev pub atom_of : Option Branch → ℕ → Option Atom
atom_of None atom = None
atom_of (Some branch) atom = slice_get branch.atoms atom

abbrev pub updating_note : Policy → Site → ℕ → ℕ → ℕ → Branch → Note
updating_note policy site branch update done of =
    made_note policy site branch update (option_map_or (λ (u : Update). terms_before (update_steps u) done) (slice_get of.updates update) []) of

abbrev pub update_note : Policy → Site → ℕ → ℕ → ℕ → Note
update_note policy site branch update done =
    option_map_or (λ (b : Branch). updating_note policy site branch update done b) (branch_at policy site branch) notes.Free

abbrev pub taken_note : Policy → Site → ℕ → Note
taken_note policy site branch =
    option_map_or (λ (b : Branch). made_note policy site branch (length b.updates) [] b) (branch_at policy site branch) notes.Free

-- ---- a role

-- the note of an instruction by its role in the block of a call
abbrev pub note_of : Policy → Called → Role → Note
note_of policy call (roles.Save left) = notes.Free
note_of policy call (roles.Lock phase pushed) = lock_note policy call phase pushed
note_of policy call (roles.Ask phase branch atom done) =
    ask_note policy (site_of call phase) branch atom done (atom_of (branch_at policy (site_of call phase) branch) atom)
note_of policy call (roles.Update phase branch update done) = update_note policy (site_of call phase) branch update done
note_of policy call (roles.Taken phase branch) = taken_note policy (site_of call phase) branch
note_of policy call (roles.Stop phase done) = notes.Stop (site_of call phase) (byte done)
note_of policy call (roles.Unlock phase checked pushed) = unlock_note policy call phase checked pushed
note_of policy call (roles.Load n locked) = notes.Granted (site_of call Before) locked (byte n) false
note_of policy call (roles.Call locked) = notes.Granted (site_of call Before) locked (byte (needs policy (site_of call Before).method)) false
note_of policy call (roles.Keep locked) = notes.Owed (site_of call After) (if locked then 1 else 0) false false
note_of policy call roles.Give = notes.Free
note_of policy call roles.Leave = notes.Free
note_of policy call roles.Rethrow = notes.Free
note_of policy call roles.Unreached = notes.Free

-- ---- a method

-- the block of a call of this method, in a method whose own locals end at `base`
abbrev pub block_notes : Policy → Mode → ℕ → ℕ → List Note
block_notes policy mode base callee =
    map (λ (i : Item). note_of policy (record { callee = callee; base = base }) i.role) (items mode (bools_of policy) base (clauses_of policy callee))

-- what stands for an instruction, by what its operand names
abbrev pub part_notes : Policy → Mode → ℕ → Target → List Note
part_notes policy mode base (target.ApiMethod callee) =
    if has_clauses policy callee then block_notes policy mode base callee else notes.Free ∷ []
part_notes policy mode base other = notes.Free ∷ []

abbrev pub parts_notes : Policy → Mode → ℕ → List Target → List Note
parts_notes policy mode base [] = []
parts_notes policy mode base (ref ∷ refs) = part_notes policy mode base ref ++ parts_notes policy mode base refs

-- An instruction without a frame is not reached.
abbrev pub if_typed : Option FrameType → Note → Note
if_typed None note = notes.Free
if_typed (Some frame) note = note

abbrev pub where_typed : List Note → List (Option FrameType) → List Note
where_typed [] frames = []
where_typed (note ∷ canonical) [] = []
where_typed (note ∷ canonical) (frame ∷ frames) = if_typed frame note ∷ where_typed canonical frames

abbrev pub method_notes : Policy → Mode → Method → List (Option FrameType) → List Note
method_notes policy mode method frames = where_typed (parts_notes policy mode method.max_locals method.refs) frames

-- ---- the program

-- the methods with code; frames are told of these alone
abbrev pub class_notes : Policy → Mode → List Method → List (List (Option FrameType)) → List (List Note)
class_notes policy mode [] frames = []
class_notes policy mode (method ∷ methods) frames =
    if has_code method then method_notes policy mode method (list_at frames 0) ∷ class_notes policy mode methods (drop 1 frames)
    else class_notes policy mode methods frames

-- the classes, and after them conspec/State, which has no method
abbrev pub notes_of : Policy → Mode → List LinkedClass → List (List (List (Option FrameType))) → List (List (List Note))
notes_of policy mode [] frames = [] ∷ []
notes_of policy mode (class ∷ classes) frames =
    class_notes policy mode class.methods (list_at frames 0) ∷ notes_of policy mode classes (drop 1 frames)

-- the certificate of what these classes are woven to, by its types
abbrev pub certificate_of : List LinkedClass → Policy → Mode → Typing → Certificate
certificate_of classes policy mode typing = record { mode = mode; typing = typing; notes = notes_of policy mode classes typing.frames }
