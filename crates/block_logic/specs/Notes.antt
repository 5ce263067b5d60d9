-- The rules of the notes. Each tells of an instruction that is reached the first rule that fails there. (docs/CERTIFICATES.md)
use Rattle.std.specs.Bool.{beq}
use Rattle.std.specs.Prelude.{ℕ, ◌+◌, ◌==◌, ◌&&◌, ◌||◌, not, Bool, true, false, if◌then◌else◌, List, [], ◌∷◌, Option, Some, None, option_and_then, slice_get, is_some, filter}
use Rattle.std.specs.List.{list_all}
use Rattle.std.specs.Option.{option_map_or}
use Rattle.insn_codec.specs.declared.insn.Insn.{Insn}
use Rattle.insn_codec.specs.Control.{jump_targets}
use Rattle.insn_codec.specs.Opcodes.{goes_on}
use Rattle.insn_codec.specs.Encoding.{opcode_of}
use Rattle.insn_codec.specs.Shapes.{shape_of}
use Rattle.bytecode_model.specs.declared.program.Handler.{Handler}
use Rattle.bytecode_model.specs.declared.program.Method.{Method}
use Rattle.bytecode_model.specs.declared.program.Target.{Target}
use Rattle.bytecode_model.specs.declared.program.Target.TheVariants as target
use Rattle.bytecode_model.specs.Rules.{covers}
use Rattle.cert_format.specs.declared.note.Note.{Note}
use Rattle.cert_format.specs.declared.note.Note.TheVariants as notes
use Rattle.cert_format.specs.declared.note.Site.{Site}
use Rattle.block_logic.specs.Annotations.{holds_round}
use Rattle.block_logic.specs.Clauses.{needs}
use Rattle.block_logic.specs.Operands.{calls, enters, has_clause, is_way_out, leaves, pushes_state, variable_named, writes_static}
use Rattle.block_logic.specs.Rows.{Asked, Nothing, Open, Given, Taking, Row, Rules, is_duty, row, thrown}
use Rattle.block_logic.specs.Weakening.{is_exceptional, is_open, may_stand, takes_for_call}

-- an instruction: its index, itself, and what its operand names
pub record Here : Type 0 where
  pub at : ℕ
  pub insn : Insn
  pub ref : Target

-- the first rule that is broken, out of rules in order, each with whether it holds
abbrev pub first_broken : List (ℕ × Bool) → Option ℕ
first_broken [] = None
first_broken (rule ∷ rules) = if rule.1 then first_broken rules else Some rule.0

-- ---- what a note is

abbrev pub is_free : Note → Bool
is_free notes.Free = true
is_free (notes.Taking site) = false
is_free (notes.Held site failed holding list map) = false
is_free (notes.Granted site locked count top) = false
is_free (notes.Owed site stage kept top) = false
is_free (notes.Stop site place) = false

abbrev pub is_taking : Note → Bool
is_taking notes.Free = false
is_taking (notes.Taking site) = true
is_taking (notes.Held site failed holding list map) = false
is_taking (notes.Granted site locked count top) = false
is_taking (notes.Owed site stage kept top) = false
is_taking (notes.Stop site place) = false

abbrev pub is_held : Note → Bool
is_held notes.Free = false
is_held (notes.Taking site) = false
is_held (notes.Held site failed holding list map) = true
is_held (notes.Granted site locked count top) = false
is_held (notes.Owed site stage kept top) = false
is_held (notes.Stop site place) = false

abbrev pub is_stop : Note → Bool
is_stop notes.Free = false
is_stop (notes.Taking site) = false
is_stop (notes.Held site failed holding list map) = false
is_stop (notes.Granted site locked count top) = false
is_stop (notes.Owed site stage kept top) = false
is_stop (notes.Stop site place) = true

-- an update is due, or made, because the call threw
abbrev pub is_owed_for_throw : Note → Bool
is_owed_for_throw notes.Free = false
is_owed_for_throw (notes.Taking site) = false
is_owed_for_throw (notes.Held site failed holding list map) = false
is_owed_for_throw (notes.Granted site locked count top) = false
is_owed_for_throw (notes.Owed site stage kept top) = is_exceptional site.phase
is_owed_for_throw (notes.Stop site place) = false

-- ---- what comes next

-- whether a note is as it is asked to be
abbrev pub meets : Rules → Asked → Note → Bool
meets rules Open note = is_open rules.held rules.policy note
meets rules Taking note = takes_for_call rules.policy note
meets rules (Given given) note = may_stand rules.policy given note
meets rules Nothing note = false

-- Where a way out begins, it is asked for.
abbrev pub stops_well : Rules → Asked → Note → Bool
stops_well rules asked note = not (is_stop note) || meets rules asked note

-- a test of what is asked of the instruction of this index, and of its note, which is there
abbrev pub note_passes : (Asked → Note → Bool) → List Note → Asked → ℕ → Bool
note_passes test told asked at = option_map_or (test asked) (slice_get told at) false

abbrev pub past_of : Option Row → Asked
past_of row = option_map_or (λ (r : Row). r.past) row Nothing

abbrev pub jump_of : Option Row → Asked
jump_of row = option_map_or (λ (r : Row). r.jump) row Nothing

-- The test passes for each instruction that may come next.
abbrev pub next_pass : (Asked → Note → Bool) → List Note → Option Row → Here → Bool
next_pass test told row here =
    (not (goes_on (opcode_of here.insn)) || note_passes test told (past_of row) (here.at + 1))
    && list_all (note_passes test told (jump_of row)) (jump_targets here.insn)

-- where the handlers begin that may take what is thrown at an instruction: the covering ones, up to the first that takes any class
abbrev pub handlers_of : ℕ → List Handler → List ℕ
handlers_of at [] = []
handlers_of at (handler ∷ later) =
    if covers at handler then handler.at ∷ (if is_some handler.class then handlers_of at later else []) else handlers_of at later

abbrev pub thrown_of : Option Row → Asked
thrown_of row = option_map_or (λ (r : Row). r.thrown) row Nothing

-- The test passes for each of these handlers.
abbrev pub handlers_pass : (Asked → Note → Bool) → List Note → Option Row → Method → Here → Bool
handlers_pass test told row method here = list_all (note_passes test told (thrown_of row)) (handlers_of here.at method.handlers)

abbrev pub all_pass : (Asked → Note → Bool) → List Note → Option Row → Method → Here → Bool
all_pass test told row method here = next_pass test told row here && handlers_pass test told row method here

-- ---- 1: the client

abbrev pub is_asked_taking : Asked → Note → Bool
is_asked_taking asked note = is_taking note

-- The client leaves the policy's variables alone, and the lock's class is pushed where the lock is taken.
abbrev pub leaves_alone : Rules → List Note → Note → Here → Bool
leaves_alone rules told note here =
    not (is_free note)
    || (not (is_some (variable_named rules.state here.ref))
    && (not (pushes_state (shape_of here.insn) here.ref) || next_pass is_asked_taking told None here))

-- ---- 2: calls

-- the operand names the method of the site
abbrev pub names_method : Site → Target → Bool
names_method site (target.ApiMethod method) = method == site.method
names_method site other = false

-- a call of the method is granted, with all arguments loaded and with the lock as the mode has it
abbrev pub is_granted : Rules → Target → Note → Bool
is_granted rules ref (notes.Granted site locked count top) =
    names_method site ref && ((count == needs rules.policy site.method) && beq locked (holds_round rules.held site.method))
is_granted rules ref notes.Free = false
is_granted rules ref (notes.Taking site) = false
is_granted rules ref (notes.Held site failed holding list map) = false
is_granted rules ref (notes.Owed site stage kept top) = false
is_granted rules ref (notes.Stop site place) = false

-- A call of a method with a clause is granted; any other is the client's, or the way out.
abbrev pub calls_well : Rules → Note → Here → Bool
calls_well rules note here =
    not (calls (shape_of here.insn))
    || (if has_clause rules.policy here.ref then is_granted rules here.ref note
    else is_free note || (is_stop note && is_way_out here.ref))

-- ---- 3: what a call throws

-- the first handler that covers an instruction
abbrev pub first_handler : ℕ → List Handler → Option Handler
first_handler at handlers = slice_get (filter (covers at) handlers) 0

-- what is asked where a granted call throws
abbrev pub thrown_by : Rules → Note → Asked
thrown_by rules (notes.Granted site locked count top) = thrown rules site
thrown_by rules notes.Free = Nothing
thrown_by rules (notes.Taking site) = Nothing
thrown_by rules (notes.Held site failed holding list map) = Nothing
thrown_by rules (notes.Owed site stage kept top) = Nothing
thrown_by rules (notes.Stop site place) = Nothing

-- It takes any class, and after it an update is due for the exception.
abbrev pub catches_all : Rules → List Note → Note → Handler → Bool
catches_all rules told note handler =
    not (is_some handler.class)
    && option_map_or (λ (n : Note). is_owed_for_throw n || meets rules (thrown_by rules note) n) (slice_get told handler.at) false

abbrev pub is_duty_of : Rules → Target → Bool
is_duty_of rules (target.ApiMethod method) = is_duty rules method
is_duty_of rules other = false

abbrev pub catches_well : Rules → List Note → Method → Note → Here → Bool
catches_well rules told method note here =
    not (calls (shape_of here.insn) && (has_clause rules.policy here.ref && is_duty_of rules here.ref))
    || option_map_or (catches_all rules told note) (first_handler here.at method.handlers) false

-- ---- the rules

-- in order, with the row of the instruction
abbrev pub rules_at : Rules → List Note → Method → Note → Here → Option Row → List (ℕ × Bool)
rules_at rules told method note here row =
    (1, leaves_alone rules told note here)
    ∷ (2, calls_well rules note here)
    ∷ (3, catches_well rules told method note here)
    -- monitors are the client's, or in the table
    ∷ (4, not (enters (shape_of here.insn) || leaves (shape_of here.insn)) || (is_free note || is_some row))
    -- a check does what the table has; of what it writes the next rule tells
    ∷ (5, not (is_held note) || (writes_static (shape_of here.insn) || is_some row))
    ∷ (6, not (writes_static (shape_of here.insn)) || (is_free note || is_some row))
    -- the way out is as the table has it, and begins where it is asked for
    ∷ (7, if is_stop note then is_some row else all_pass (stops_well rules) told row method here)
    -- what comes next is as the table has it; a method begins in no block
    ∷ (8, is_some row && (all_pass (meets rules) told row method here && (not (here.at == 0) || is_open rules.held rules.policy note)))
    ∷ []

abbrev pub row_fault : Rules → List Note → Method → Here → Note → Option ℕ
row_fault rules told method here note = first_broken (rules_at rules told method note here (row rules note (shape_of here.insn) here.ref))

-- an instruction that is told no note breaks the last rule
abbrev pub told_fault : Rules → List Note → Method → Here → Option Note → Option ℕ
told_fault rules told method here None = Some 8
told_fault rules told method here (Some note) = row_fault rules told method here note

-- the first rule that is broken at an instruction of a method, by the notes of its instructions
abbrev pub note_fault : Rules → List Note → Method → ℕ → Option ℕ
note_fault rules told method at =
    option_and_then (λ (insn : Insn). option_and_then (λ (ref : Target).
    told_fault rules told method (record { at = at; insn = insn; ref = ref }) (slice_get told at))
    (slice_get method.refs at)) (slice_get method.insns at)
