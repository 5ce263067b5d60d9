-- The table of the notes: what is asked of the notes of the instructions that may come next, by the note of an instruction, what it
-- does and what its operand names. A pair that is not in the table has no row. (docs/CERTIFICATES.md)
use Rattle.std.specs.Bool.{beq}
use Rattle.std.specs.Prelude.{ℕ, ℤ, pos, ◌+◌, ◌-◌, ◌-ℤ◌, ◌==◌, ◌&&◌, ◌||◌, not, nat_lt, nat_le, int_le, Bool, true, false, if◌then◌else◌, List, [], ◌∷◌, ◌++◌, length, Option, Some, None, is_some, option_and_then, option_map, slice_get, slice_set, take}
use Rattle.std.specs.Option.{option_map_or, option_or}
use Rattle.insn_codec.specs.declared.shape.Relation.{Relation}
use Rattle.insn_codec.specs.declared.shape.Relation.TheVariants as relations
use Rattle.insn_codec.specs.declared.shape.Shape.{Shape}
use Rattle.bytecode_model.specs.declared.program.Target.{Target}
use Rattle.bytecode_model.specs.declared.program.Target.TheVariants as target
use Rattle.cert_format.specs.declared.note.Note.{Note}
use Rattle.cert_format.specs.declared.note.Note.TheVariants as notes
use Rattle.cert_format.specs.declared.note.Phase8.TheVariants.{Before, After, Exceptional}
use Rattle.cert_format.specs.declared.note.Site.{Site}
use Rattle.cert_format.specs.declared.note.Term.{Term}
use Rattle.cert_format.specs.declared.note.Term.TheVariants as terms
use Rattle.conspec_tree.specs.declared.types.Atom.{Atom}
use Rattle.conspec_tree.specs.declared.types.Rel.{Rel}
use Rattle.conspec_tree.specs.declared.types.Rel.TheVariants as rels
use Rattle.conspec_automaton.specs.declared.policy.Branch.{Branch}
use Rattle.conspec_automaton.specs.declared.policy.Clause.{Clause}
use Rattle.conspec_automaton.specs.declared.policy.Policy.{Policy}
use Rattle.block_logic.specs.Annotations.{holds_round}
use Rattle.block_logic.specs.declared.held_calls.HeldCalls.{HeldCalls}
use Rattle.block_logic.specs.Clauses.{clause_at, clause_of, needs, result_kind}
use Rattle.block_logic.specs.Operands.{adds, calls, compared, enters, goes, is_way_out, leaves, loaded, loaded_number, number_pushed, pushes, pushes_null, pushes_state, reads_static, stored, throws, variable_named, writes_static}
use Rattle.block_logic.specs.Weakening.{asks_kept, begun, branches_of, is_after, is_before, is_done, in_phase}
use Rattle.block_logic.specs.Terms.{base_term, same_term, same_terms}
use Rattle.conspec_tree.specs.Kinds.{is_number}

-- what the rules are told besides: of which methods the lock is held round each call, the policy, and the number of the class that
-- holds its variables
pub record Rules : Type 0 where
  pub held : HeldCalls
  pub policy : Policy
  pub state : ℕ

-- what is asked of a note
pub data Asked : Type 0 where
  -- that the thread is in no block
  Open : Asked
  -- that the lock is about to be taken, for a call with a clause
  Taking : Asked
  -- that it may stand for this one
  Given : Note → Asked
  -- what no note is
  Nothing : Asked

-- What is asked of the next instruction, of those that are jumped to, and of the handlers that may take what is thrown. A Java
-- machine may throw an error at any instruction (The Java Virtual Machine Specification, section 6.3): so each row asks of handlers,
-- and but for a call that is granted it asks that the thread is out of its block.
pub record Row : Type 0 where
  pub past : Asked
  pub jump : Asked
  pub thrown : Asked

-- the same of each instruction that may come next, and no block where an error is caught
abbrev pub leads : Asked → Option Row
leads asked = Some (record { past = asked; jump = asked; thrown = Open })

abbrev pub gives : Note → Option Row
gives note = leads (Given note)

-- the row, where the test holds
abbrev pub only_if : Bool → Option Row → Option Row
only_if test row = if test then row else None

-- the first of two rows that is there
abbrev pub first_row : Option Row → Option Row → Option Row
first_row (Some row) other = Some row
first_row None other = other

-- ---- Free

-- The object of the lock's class is pushed to take the lock. Any other instruction leaves the policy's variables alone.
abbrev pub free_row : Rules → Shape → Target → Option Row
free_row rules shape ref =
    if pushes_state shape ref then leads Taking
    else only_if (not (is_some (variable_named rules.state ref))) (leads Open)

-- ---- Taking

-- The lock is taken: the check begins, or there is none before the call.
abbrev pub note_taken : Policy → Site → Note
note_taken policy site = if is_some (clause_at policy site.method Before) then begun policy site else notes.Granted site true 0 false

abbrev pub taking_row : Rules → Site → Shape → Option Row
taking_row rules site shape = only_if (enters shape) (gives (note_taken rules.policy site))

-- ---- Held

-- the topmost terms
abbrev pub last_term : List Term → Option Term
last_term list = slice_get list (length list - 1)

abbrev pub last_but_one : List Term → Option Term
last_but_one list = if nat_lt 1 (length list) then slice_get list (length list - 2) else None

abbrev pub without : ℕ → List Term → List Term
without n list = take (length list - n) list

-- the argument that stands in a local, where it is a number
abbrev pub argument_in : Clause → ℕ → ℕ → Option Term
argument_in clause base slot =
    if nat_le base slot && option_map_or is_number (slice_get clause.args (slot - base)) false then Some (terms.Arg (slot - base)) else None

-- the result, where it stands in the local and is a number
abbrev pub result_in : Clause → ℕ → ℕ → Option Term
result_in clause base slot = if (slot == base) && option_map_or is_number clause.result false then Some terms.Result else None

-- what a local holds while a check is made
abbrev pub local_term : Site → Clause → ℕ → Option Term
local_term site clause slot =
    if is_before site.phase then argument_in clause site.base slot
    else if is_after site.phase then result_in clause site.base slot
    else None

-- what a variable is
abbrev pub field_term : Rules → List Term → Shape → Target → Option Term
field_term rules map shape ref = if reads_static shape then option_and_then (slice_get map) (variable_named rules.state ref) else None

-- what an instruction pushes: the lock's class, a number, an argument or the result, or what a variable is
abbrev pub term_pushed : Rules → Site → Clause → List Term → Shape → Target → Option Term
term_pushed rules site clause map shape ref =
    if pushes_state shape ref then Some terms.Lock
    else option_or (option_map terms.Const (number_pushed shape ref))
    (option_or (option_and_then (local_term site clause) (loaded_number shape)) (field_term rules map shape ref))

-- A constant that is added is at most 1,000,000,000, and so is one that is taken away.
abbrev pub is_addend : ℤ → Bool
is_addend n = int_le (pos 0 -ℤ pos 1000000000) n && int_le n (pos 1000000000)

-- the sum of a variable and a constant, in either order
abbrev pub sum_of : Term → Term → Option Term
sum_of (terms.Var var) (terms.Const n) = if is_addend n then Some (terms.VarAdd var n) else None
sum_of (terms.Const n) (terms.Var var) = if is_addend n then Some (terms.VarAdd var n) else None
sum_of term other = None

abbrev pub sum_on_top : List Term → Option Term
sum_on_top list = option_and_then (λ (x : Term). option_and_then (λ (y : Term). sum_of x y) (last_term list)) (last_but_one list)

-- the atom that is tried next
abbrev pub next_atom : Policy → Site → ℕ → ℕ → Option Atom
next_atom policy site failed holding =
    option_and_then (λ (b : Branch). slice_get b.atoms holding) (slice_get (branches_of policy site) failed)

-- What it compares, and its constant, are on top.
abbrev pub asks_atom : List Term → Atom → Bool
asks_atom list atom =
    option_map_or (same_term (base_term atom.base)) (last_but_one list) false && option_map_or (same_term (terms.Const atom.value)) (last_term list) false

abbrev pub is_relation : Rel → Relation → Bool
is_relation rels.Eq relations.Equal = true
is_relation rels.Ne relations.NotEqual = true
is_relation rels.Lt relations.Less = true
is_relation rels.Le relations.LessOrEqual = true
is_relation rels.Gt relations.Greater = true
is_relation rels.Ge relations.GreaterOrEqual = true
is_relation rel relation = false

abbrev pub is_negation : Rel → Relation → Bool
is_negation rels.Eq relations.NotEqual = true
is_negation rels.Ne relations.Equal = true
is_negation rels.Lt relations.GreaterOrEqual = true
is_negation rels.Le relations.Greater = true
is_negation rels.Gt relations.LessOrEqual = true
is_negation rels.Ge relations.Less = true
is_negation rel relation = false

-- a check: its site and clause, how many branches fail, how many atoms of the next one hold, what is pushed, and the variables
pub record Check : Type 0 where
  pub site : Site
  pub clause : Clause
  pub failed : ℕ
  pub holding : ℕ
  pub terms : List Term
  pub map : List Term

abbrev pub with_terms : Check → List Term → Note
with_terms c list = notes.Held c.site c.failed c.holding list c.map

-- where the atom holds, and where it does not
abbrev pub holding_on : Check → Note
holding_on c = notes.Held c.site c.failed (c.holding + 1) (without 2 c.terms) c.map

abbrev pub failing : Check → Note
failing c = notes.Held c.site (c.failed + 1) 0 (without 2 c.terms) c.map

-- the jump by the atom's relation, or by the other one
abbrev pub tested : Check → Rel → Relation → Option Row
tested c rel relation =
    if is_relation rel relation then Some (record { past = Given (failing c); jump = Given (holding_on c); thrown = Open })
    else only_if (is_negation rel relation) (Some (record { past = Given (holding_on c); jump = Given (failing c); thrown = Open }))

abbrev pub tests : Policy → Check → Relation → Option Row
tests policy c relation =
    option_and_then (λ (atom : Atom). only_if (asks_atom c.terms atom) (tested c atom.rel relation)) (next_atom policy c.site c.failed c.holding)

-- all atoms of the branch hold
abbrev pub all_hold : Policy → Check → Bool
all_hold policy c = option_map_or (λ (b : Branch). c.holding == length b.atoms) (slice_get (branches_of policy c.site) c.failed) false

-- a variable is written
abbrev pub writes : Policy → Check → ℕ → Option Row
writes policy c var =
    option_and_then (λ (t : Term). only_if (all_hold policy c) (gives (notes.Held c.site c.failed c.holding (without 1 c.terms) (slice_set c.map var t))))
    (last_term c.terms)

-- the lock is left once the updates are made
abbrev pub left : Site → Asked
left site = if is_before site.phase then Given (notes.Granted site false 0 false) else Open

abbrev pub leaves_done : Policy → Check → Option Row
leaves_done policy c =
    only_if (is_done policy c.site c.failed c.holding c.map && same_terms c.terms (terms.Lock ∷ [])) (leads (left c.site))

-- a term is pushed
abbrev pub pushing_row : Rules → Check → Shape → Target → Option Row
pushing_row rules c shape ref = option_and_then (λ (t : Term). gives (with_terms c (c.terms ++ t ∷ []))) (term_pushed rules c.site c.clause c.map shape ref)

-- the sum of the two topmost terms is made
abbrev pub adding_row : Check → Shape → Option Row
adding_row c shape = only_if (adds shape) (option_and_then (λ (t : Term). gives (with_terms c (without 2 c.terms ++ t ∷ []))) (sum_on_top c.terms))

abbrev pub comparing_row : Policy → Check → Shape → Option Row
comparing_row policy c shape = option_and_then (tests policy c) (compared shape)

abbrev pub writing_row : Rules → Check → Shape → Target → Option Row
writing_row rules c shape ref = only_if (writes_static shape) (option_and_then (writes rules.policy c) (variable_named rules.state ref))

-- the row of a check by what its instruction does
abbrev pub check_row : Rules → Check → Shape → Target → Option Row
check_row rules c shape ref =
    first_row (pushing_row rules c shape ref)
    (first_row (adding_row c shape)
    (first_row (only_if (goes shape) (gives (with_terms c c.terms)))
    (first_row (comparing_row rules.policy c shape)
    (first_row (writing_row rules c shape ref)
    (only_if (leaves shape) (leaves_done rules.policy c))))))

-- A check without a clause has no row.
abbrev pub held_row : Rules → Site → ℕ → ℕ → List Term → List Term → Shape → Target → Option Row
held_row rules site failed holding list map shape ref =
    option_and_then
    (λ (clause : Clause). check_row rules (record { site = site; clause = clause; failed = failed; holding = holding; terms = list; map = map }) shape ref)
    (clause_of rules.policy site)

-- ---- Granted

-- The call names the method of the site.
abbrev pub calls_of : Site → Shape → Target → Bool
calls_of site shape (target.ApiMethod method) = calls shape && (method == site.method)
calls_of site shape target.None = false
calls_of site shape (target.Builtin index) = false
calls_of site shape (target.Method class method) = false
calls_of site shape (target.Field class field) = false
calls_of site shape (target.ApiField index) = false
calls_of site shape (target.ClassName name) = false
calls_of site shape (target.Number n) = false
calls_of site shape (target.Literal index) = false

-- After the call its lock is still held, if it is held round the call; if not, an update is due where a clause is for the return.
abbrev pub returned : Rules → Site → Asked
returned rules site =
    if holds_round rules.held site.method then Given (notes.Owed (in_phase After site) 1 false false)
    else if is_some (clause_at rules.policy site.method After) then Given (notes.Owed (in_phase After site) 0 false false)
    else Open

-- Whether what the call throws is a duty of its block.
abbrev pub is_duty : Rules → ℕ → Bool
is_duty rules method = holds_round rules.held method || is_some (clause_at rules.policy method Exceptional)

abbrev pub stage_after : Bool → ℕ
stage_after held = if held then 1 else 0

-- where the call throws
abbrev pub thrown : Rules → Site → Asked
thrown rules site =
    if is_duty rules site.method then Given (notes.Owed (in_phase Exceptional site) (stage_after (holds_round rules.held site.method)) false false) else Open

abbrev pub granted_row : Rules → Site → Bool → ℕ → Bool → Shape → Target → Option Row
granted_row rules site locked count top shape ref =
    first_row (only_if (not top && (nat_lt count (needs rules.policy site.method) && option_map_or (λ slot. slot == site.base + count) (loaded shape) false)) (gives (notes.Granted site locked (count + 1) false)))
    (first_row (only_if (locked && (not top && pushes_state shape ref)) (gives (notes.Granted site locked count true)))
    (first_row (only_if (locked && (top && leaves shape)) (gives (notes.Granted site false count false)))
    (only_if (not top && ((count == needs rules.policy site.method) && (beq locked (holds_round rules.held site.method) && calls_of site shape ref)))
    (Some (record { past = returned rules site; jump = Nothing; thrown = thrown rules site })))))

-- ---- Owed

-- nothing is due any more but to leave the lock, or to take it first
abbrev pub may_push : Policy → Site → ℕ → Bool
may_push policy site stage = (stage == 0) || (((stage == 1) && not (is_some (clause_of policy site))) || (stage == 2))

abbrev pub may_leave : Policy → Site → ℕ → Bool
may_leave policy site stage = ((stage == 1) && not (is_some (clause_of policy site))) || (stage == 2)

-- the result may be put into its local
abbrev pub may_keep : Policy → Site → ℕ → Bool → Bool → Bool
may_keep policy site stage kept top =
    is_after site.phase && (nat_lt stage 2 && (not kept && (not top && is_some (result_kind policy site.method))))

-- the check of a return begins with the result kept
abbrev pub begins_owed : Policy → Site → Bool → Asked
begins_owed policy site kept = if beq kept (asks_kept policy site) then Given (begun policy site) else Nothing

abbrev pub owed_row : Rules → Site → ℕ → Bool → Bool → Shape → Target → Option Row
owed_row rules site stage kept top shape ref =
    first_row (only_if (may_keep rules.policy site stage kept top && option_map_or (λ slot. slot == site.base) (stored shape) false) (gives (notes.Owed site stage true false)))
    (first_row (only_if (not top && (may_push rules.policy site stage && pushes_state shape ref)) (gives (notes.Owed site stage kept true)))
    (first_row (only_if (top && ((stage == 0) && enters shape)) (leads (begins_owed rules.policy site kept)))
    (only_if (top && (may_leave rules.policy site stage && leaves shape)) (leads Open))))

-- ---- Stop

-- what stands at each place of the way out
abbrev pub is_on_way : ℕ → Shape → Target → Bool
is_on_way place shape ref =
    if place == 0 then pushes (pos 77) shape ref
    else if place == 1 then calls shape && is_way_out ref
    else if place == 2 then pushes_null shape
    else (place == 3) && throws shape

abbrev pub stop_row : Site → ℕ → Shape → Target → Option Row
stop_row site place shape ref = only_if (is_on_way place shape ref) (gives (notes.Stop site (place + 1)))

-- ---- any note

abbrev pub row : Rules → Note → Shape → Target → Option Row
row rules notes.Free shape ref = free_row rules shape ref
row rules (notes.Taking site) shape ref = taking_row rules site shape
row rules (notes.Held site failed holding list map) shape ref = held_row rules site failed holding list map shape ref
row rules (notes.Granted site locked count top) shape ref = granted_row rules site locked count top shape ref
row rules (notes.Owed site stage kept top) shape ref = owed_row rules site stage kept top shape ref
row rules (notes.Stop site place) shape ref = stop_row site place shape ref
