-- But for a granted call, what an instruction throws is caught in no block.
use Rattle.std.proofs.Common.{◌≡◌, ℕ, ◌+◌, ◌++◌, Bool, true, false, cond, List, [], ◌∷◌, Option, Some, None, refl, sym, subst, ◌∙◌, inl, inr}
use Rattle.std.specs.Prelude.{◌==◌, ◌&&◌, ◌||◌, is_some, not, option_and_then, slice_get, slice_set}
use Rattle.std.specs.List.{AllByRecursion, list_all}
use Rattle.std.proofs.lemmas.Bool.{and_parts, false≢true, not-true}
use Rattle.std.proofs.lemmas.Option.{same_Some}
use Rattle.insn_codec.specs.declared.insn.Insn.{Insn}
use Rattle.insn_codec.specs.declared.shape.Relation.{Relation}
use Rattle.insn_codec.specs.declared.shape.Shape.{Shape}
use Rattle.insn_codec.specs.Shapes.{shape_of}
use Rattle.bytecode_model.specs.declared.program.Method.{Method}
use Rattle.bytecode_model.specs.declared.program.Program.{Program}
use Rattle.bytecode_model.specs.declared.program.Target.{Target}
use Rattle.block_logic.specs.declared.held_calls.HeldCalls.{HeldCalls}
use Rattle.block_logic.specs.Annotations.{Annotations, holds_round}
use Rattle.cert_format.specs.declared.note.Note.{Note}
use Rattle.cert_format.specs.declared.note.Note.TheVariants as notes
use Rattle.cert_format.specs.declared.note.Phase8.TheVariants.{Before}
use Rattle.cert_format.specs.declared.note.Site.{Site}
use Rattle.cert_format.specs.declared.note.Term.{Term}
use Rattle.conspec_tree.specs.declared.types.Atom.{Atom}
use Rattle.conspec_tree.specs.declared.types.Rel.{Rel}
use Rattle.conspec_automaton.specs.declared.policy.Clause.{Clause}
use Rattle.conspec_automaton.specs.declared.policy.Policy.{Policy}
use Rattle.conspec_automaton.specs.Next.{has_clauses}
use Rattle.block_logic.specs.Accepted.{AreAccepted, rules_of}
use Rattle.block_logic.specs.Clauses.{clause_at, clause_of}
use Rattle.block_logic.specs.Meaning.{note_at}
use Rattle.block_logic.specs.Notes.{Here, handlers_of, handlers_pass, meets, next_pass, note_passes}
use Rattle.block_logic.specs.Operands.{adds, compared, enters, goes, leaves, pushes_state, variable_named, writes_static}
use Rattle.block_logic.specs.Outside.{ErrorsLeaveBlocks, IsOutside, LeavesBlocks, StandsOutside, is_granted_call}
use Rattle.block_logic.specs.Rows.{Asked, Check, Given, Open, Row, Rules, Taking, adding_row, all_hold, asks_atom, begins_owed, calls_of, check_row, comparing_row, failing, first_row, free_row, gives, granted_row, held_row, holding_on, is_negation, is_on_way, is_relation, last_term, leads, leaves_done, left, next_atom, note_taken, only_if, owed_row, pushing_row, row, sum_on_top, term_pushed, tested, tests, with_terms, without, writes, writing_row}
use Rattle.block_logic.specs.Weakening.{is_open, needs_no_grant}
use Rattle.block_logic.proofs.Owner.GrantedRows.{granted_cases}
use Rattle.block_logic.proofs.Tests.{it_is_there, not_there, passed_by}
use Rattle.block_logic.proofs.Told.{IsIn, here_at, is_in, is_reached, notes_of, rules_hold_at, told_in_method}

-- ---- what a row asks of handlers

-- A row, where it is there, asks of handlers that the thread is in no block.
record AsksOut (row : Option Row) : Type 0 where
  pub out : (r : Row) → row ≡ Some r → r.thrown ≡ Open

out_row : (row : Row) → row.thrown ≡ Open → AsksOut (Some row)
out_row row is = record { out = λ r e. subst (λ (x : Row). x.thrown ≡ Open) (same_Some row r e) is }

out_none : AsksOut None
out_none = record { out = λ r e. absurd cc }

out_leads : (asked : Asked) → AsksOut (leads asked)
out_leads asked = out_row (record { past = asked; jump = asked; thrown = Open }) refl

out_either : (test : Bool) (row other : Option Row) → AsksOut row → AsksOut other → AsksOut (cond test row other)
out_either true row other asks rest = asks
out_either false row other asks rest = rest

out_if : (test : Bool) (row : Option Row) → AsksOut row → AsksOut (only_if test row)
out_if test row asks = out_either test row None asks out_none

out_first : (row other : Option Row) → AsksOut row → AsksOut other → AsksOut (first_row row other)
out_first (Some row) other asks rest = asks
out_first None other asks rest = rest

out_then : {A : Type 0} (row : A → Option Row) (o : Option A) → ((x : A) → AsksOut (row x)) → AsksOut (option_and_then row o)
out_then row None asks = out_none
out_then row (Some x) asks = asks x

-- ---- the rows of a check

tested_out : (c : Check) (rel : Rel) (relation : Relation) → AsksOut (tested c rel relation)
tested_out c rel relation =
    out_either (is_relation rel relation) (Some jumping) (only_if (is_negation rel relation) (Some passing)) (out_row jumping refl)
    (out_if (is_negation rel relation) (Some passing) (out_row passing refl)) where
      jumping : Row
      jumping = record { past = Given (failing c); jump = Given (holding_on c); thrown = Open }

      passing : Row
      passing = record { past = Given (holding_on c); jump = Given (failing c); thrown = Open }

tests_out : (policy : Policy) (c : Check) (relation : Relation) → AsksOut (tests policy c relation)
tests_out policy c relation =
    out_then (λ (atom : Atom). only_if (asks_atom c.terms atom) (tested c atom.rel relation)) (next_atom policy c.site c.failed c.holding)
    (λ (atom : Atom). out_if (asks_atom c.terms atom) (tested c atom.rel relation) (tested_out c atom.rel relation))

writes_out : (policy : Policy) (c : Check) (var : ℕ) → AsksOut (writes policy c var)
writes_out policy c var =
    let written : Term → Note = λ (t : Term). notes.Held c.site c.failed c.holding (without 1 c.terms) (slice_set c.map var t) in
    out_then (λ (t : Term). only_if (all_hold policy c) (gives (written t))) (last_term c.terms)
    (λ (t : Term). out_if (all_hold policy c) (gives (written t)) (out_leads (Given (written t))))

pushing_out : (rules : Rules) (c : Check) (shape : Shape) (ref : Target) → AsksOut (pushing_row rules c shape ref)
pushing_out rules c shape ref =
    out_then (λ (t : Term). gives (with_terms c (c.terms ++ t ∷ []))) (term_pushed rules c.site c.clause c.map shape ref)
    (λ (t : Term). out_leads (Given (with_terms c (c.terms ++ t ∷ []))))

adding_out : (c : Check) (shape : Shape) → AsksOut (adding_row c shape)
adding_out c shape =
    let sum : Term → Note = λ (t : Term). with_terms c (without 2 c.terms ++ t ∷ []) in
    out_if (adds shape) (option_and_then (λ (t : Term). gives (sum t)) (sum_on_top c.terms))
    (out_then (λ (t : Term). gives (sum t)) (sum_on_top c.terms) (λ (t : Term). out_leads (Given (sum t))))

comparing_out : (policy : Policy) (c : Check) (shape : Shape) → AsksOut (comparing_row policy c shape)
comparing_out policy c shape = out_then (tests policy c) (compared shape) (tests_out policy c)

writing_out : (rules : Rules) (c : Check) (shape : Shape) (ref : Target) → AsksOut (writing_row rules c shape ref)
writing_out rules c shape ref =
    out_if (writes_static shape) (option_and_then (writes rules.policy c) (variable_named rules.state ref))
    (out_then (writes rules.policy c) (variable_named rules.state ref) (writes_out rules.policy c))

leaving_out : (policy : Policy) (c : Check) → AsksOut (leaves_done policy c)
leaving_out policy c = out_if _ (leads (left c.site)) (out_leads (left c.site))

check_out : (rules : Rules) (c : Check) (shape : Shape) (ref : Target) → AsksOut (check_row rules c shape ref)
check_out rules c shape ref =
    out_first (pushing_row rules c shape ref) _ (pushing_out rules c shape ref)
    (out_first (adding_row c shape) _ (adding_out c shape)
    (out_first (only_if (goes shape) (gives (with_terms c c.terms))) _ (out_if (goes shape) _ (out_leads _))
    (out_first (comparing_row rules.policy c shape) _ (comparing_out rules.policy c shape)
    (out_first (writing_row rules c shape ref) (only_if (leaves shape) (leaves_done rules.policy c)) (writing_out rules c shape ref)
    (out_if (leaves shape) (leaves_done rules.policy c) (leaving_out rules.policy c))))))

-- ---- the others

free_out : (rules : Rules) (shape : Shape) (ref : Target) → AsksOut (free_row rules shape ref)
free_out rules shape ref =
    let alone : Bool = not (is_some (variable_named rules.state ref)) in
    out_either (pushes_state shape ref) (leads Taking) (only_if alone (leads Open)) (out_leads Taking) (out_if alone (leads Open) (out_leads Open))

held_out : (rules : Rules) (site : Site) (failed holding : ℕ) (list map : List Term) (shape : Shape) (ref : Target)
    → AsksOut (held_row rules site failed holding list map shape ref)
held_out rules site failed holding list map shape ref =
    let check : Clause → Check = λ (c : Clause). record { site = site; clause = c; failed = failed; holding = holding; terms = list; map = map } in
    out_then (λ (c : Clause). check_row rules (check c) shape ref) (clause_of rules.policy site) (λ (c : Clause). check_out rules (check c) shape ref)

granted_out : (rules : Rules) (site : Site) (locked : Bool) (count : ℕ) (top : Bool) (shape : Shape) (ref : Target)
    → calls_of site shape ref ≡ false → AsksOut (granted_row rules site locked count top shape ref)
granted_out rules site locked count top shape ref other = record { out = asks }
  where
    asks : (r : Row) → granted_row rules site locked count top shape ref ≡ Some r → r.thrown ≡ Open
    asks r e = elim (granted_cases rules site locked count top shape ref r e) [
      | inl loads ↦ loads.asks.thrown
      | inr rest ↦ elim rest [
        | inl pushes ↦ pushes.asks.thrown
        | inr rest ↦ elim rest [
          | inl leaves ↦ leaves.asks.thrown
          | inr calling ↦ absurd (false≢true (sym other ∙ calling.calls))
        ]
      ]
    ]

owed_out : (rules : Rules) (site : Site) (stage : ℕ) (kept top : Bool) (shape : Shape) (ref : Target) → AsksOut (owed_row rules site stage kept top shape ref)
owed_out rules site stage kept top shape ref =
    out_first _ _ (out_if _ _ (out_leads (Given (notes.Owed site stage true false))))
    (out_first _ _ (out_if _ _ (out_leads (Given (notes.Owed site stage kept true))))
    (out_first _ _ (out_if _ _ (out_leads (begins_owed rules.policy site kept)))
    (out_if _ _ (out_leads Open))))

-- but for a granted call
row_out : (rules : Rules) (note : Note) (shape : Shape) (ref : Target) → is_granted_call note shape ref ≡ false → AsksOut (row rules note shape ref)
row_out rules notes.Free shape ref other = free_out rules shape ref
row_out rules (notes.Taking site) shape ref other = out_if (enters shape) (gives (note_taken rules.policy site)) (out_leads (Given (note_taken rules.policy site)))
row_out rules (notes.Held site failed holding list map) shape ref other = held_out rules site failed holding list map shape ref
row_out rules (notes.Granted site locked count top) shape ref other = granted_out rules site locked count top shape ref other
row_out rules (notes.Owed site stage kept top) shape ref other = owed_out rules site stage kept top shape ref
row_out rules (notes.Stop site place) shape ref other =
    out_if (is_on_way place shape ref) (gives (notes.Stop site (place + 1))) (out_leads (Given (notes.Stop site (place + 1))))

-- ---- an open note

open_outside : (held : HeldCalls) (policy : Policy) (note : Note) → is_open held policy note ≡ true → IsOutside policy note
open_outside held policy notes.Free e = tt
open_outside held policy (notes.Taking site) e = absurd cc
open_outside held policy (notes.Held site failed holding list map) e = absurd cc
open_outside held policy (notes.Granted site locked count top) e =
    let parts = and_parts (needs_no_grant held policy site) (not locked && ((count == 0) && not top)) e in
    let left = and_parts (not locked) ((count == 0) && not top) parts.1 in
    let asked = and_parts (not (holds_round held site.method)) (has_clauses policy site.method && not (is_some (clause_at policy site.method Before))) parts.0 in
    let none = and_parts (has_clauses policy site.method) (not (is_some (clause_at policy site.method Before))) asked.1 in
    (not-true locked left.0, not_there (clause_at policy site.method Before) none.1)
open_outside held policy (notes.Owed site stage kept top) e = absurd cc
open_outside held policy (notes.Stop site place) e = absurd cc

-- ---- an instruction of an accepted program

module _ (program : Program) (policy : Policy) (annotations : Annotations) (accepted : AreAccepted program policy annotations) where
  abbrev rules : Rules
  rules = rules_of program policy annotations

  module _ (class method at : ℕ) (next : Insn × Target) (i : IsIn program policy annotations class method at next) where
    abbrev told : List Note
    told = notes_of program policy annotations i.c class method

    abbrev test : ℕ → Bool
    test = note_passes (meets rules) told Open

    -- where the notes of these instructions are open, they stand out of each block
    stand_outside : (places : List ℕ) → list_all test places ≡ true → AllByRecursion (StandsOutside program policy annotations class method) places
    stand_outside [] all = tt
    stand_outside (to ∷ places) all =
        let both = and_parts (test to) (list_all test places) all in
        let found = passed_by (is_open annotations.held policy) (slice_get told to) both.0 in (
          record {
            note = found.0;
            told = told_in_method program policy annotations class method at next i to ∙ found.1;
            outside = open_outside annotations.held policy found.0 found.2;
          },
          stand_outside places both.1,
        )

    handlers_outside : (note : Note) → note_at program annotations class method at ≡ Some note → is_granted_call note (shape_of next.0) next.1 ≡ false
        → AllByRecursion (StandsOutside program policy annotations class method) (handlers_of at i.m.handlers)
    handlers_outside note e other =
        let here : Here = here_at program policy annotations at next in
        let its_row : Option Row = row rules note (shape_of next.0) next.1 in
        let r = is_reached program policy annotations class method at note e in
        let there : slice_get told at ≡ Some note = sym (told_in_method program policy annotations class method at next i at) ∙ r.1 in
        let hold = rules_hold_at program policy annotations class method at next i note r.0 (accepted.noted class method at) there in
        let begins : Bool = not (at == 0) || is_open annotations.held policy note in
        let nexts : Bool = next_pass (meets rules) told its_row here in
        let handlers : Bool = handlers_pass (meets rules) told its_row i.m here in
        let whole = and_parts (is_some its_row) ((nexts && handlers) && begins) hold.1.1.1.1.1.1.1.0 in
        let both = and_parts nexts handlers (and_parts (nexts && handlers) begins whole.1).0 in
        let has = it_is_there its_row whole.0 in
        let out : has.0.thrown ≡ Open = (row_out rules note (shape_of next.0) next.1 other).out has.0 has.1 in
        let passes : list_all (note_passes (meets rules) told has.0.thrown) (handlers_of at i.m.handlers) ≡ true = rw has.1 at both.1 in
        stand_outside (handlers_of at i.m.handlers) (subst (λ (asked : Asked). list_all (note_passes (meets rules) told asked) (handlers_of at i.m.handlers) ≡ true) out passes)

  leaves_blocks : LeavesBlocks program policy annotations
  leaves_blocks class method at insn ref note there e other =
      let i = is_in program policy annotations class method at there.of (insn, ref) there.there there.is in
      let same : i.m ≡ there.of = same_Some i.m there.of (sym i.method_there ∙ there.there) in
      subst (λ (m : Method). AllByRecursion (StandsOutside program policy annotations class method) (handlers_of at m.handlers)) same
      (handlers_outside class method at (insn, ref) i note e other)

pub errors_leave_blocks : ErrorsLeaveBlocks
errors_leave_blocks program policy annotations accepted = leaves_blocks program policy annotations accepted
