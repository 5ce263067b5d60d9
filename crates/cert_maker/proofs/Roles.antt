-- Each instruction of a block has a row of its note, and what comes next meets it.
use Rattle.std.proofs.Common.{◌≡◌, ℕ, zero, suc, ◌<◌, ◌≤◌, Bool, true, false, List, [], ◌∷◌, length, take, Option, Some, None, refl, sym, ap, ◌∙◌, arith}
use Rattle.std.specs.Bool.{beq}
use Rattle.std.specs.Prelude.{◌&&◌, ◌||◌, IfSome, is_some, slice_get, option_and_then}
use Rattle.std.specs.Option.{option_map_or}
use Rattle.std.proofs.lemmas.Bool.{and_from, false≢true}
use Rattle.std.proofs.lemmas.List.{take_all}
use Rattle.std.proofs.lemmas.Option.{slice_get_within}
use Rattle.class_codec.specs.declared.tree.Const.{Const}
use Rattle.insn_codec.specs.declared.insn.Insn.{Insn}
use Rattle.insn_codec.specs.Shapes.{shape_of}
use Rattle.api_listing.specs.BuiltIn.{method_rows}
use Rattle.bytecode_model.specs.declared.program.Target.{Target}
use Rattle.bytecode_model.specs.declared.program.Target.TheVariants as target
use Rattle.cert_format.specs.declared.note.Note.{Note}
use Rattle.cert_format.specs.declared.note.Note.TheVariants as notes
use Rattle.cert_format.specs.declared.note.Phase8.TheVariants as sites
use Rattle.conspec_tree.specs.declared.types.Kind.{Kind}
use Rattle.conspec_tree.specs.declared.types.Phase.{Phase}
use Rattle.conspec_tree.specs.declared.types.Phase.TheVariants.{Before, After}
use Rattle.conspec_tree.specs.declared.types.Update.{Update}
use Rattle.conspec_automaton.specs.declared.policy.Branch.{Branch}
use Rattle.conspec_automaton.specs.declared.policy.Clause.{Clause}
use Rattle.offset_patch.specs.declared.block.BlockInsn.{BlockInsn}
use Rattle.block_template.specs.declared.item.Role.{Role}
use Rattle.block_template.specs.declared.item.Role.TheVariants as roles
use Rattle.block_template.specs.Flow.{argument_at, jump_of, jumps, loading, may_pass, next}
use Rattle.block_template.specs.Frames.{kept_arguments}
use Rattle.block_template.proofs.Policies.{IsOf}
use Rattle.block_logic.specs.Clauses.{clause_at, clause_of, needs, result_kind}
use Rattle.block_logic.specs.Notes.{calls_well, is_duty_of, is_free, meets}
use Rattle.block_logic.specs.Operands.{calls, has_clause, is_way_out, pushes_state, variable_named}
use Rattle.block_logic.specs.Rows as rows
use Rattle.block_logic.specs.Rows.{Asked, Given, Open, Row}
use Rattle.block_logic.specs.Weakening.{asks_kept, done, is_done, may_begin, same_note, stands_for_held}
use Rattle.block_logic.specs.Terms.{after_updates, as_taken, same_terms}
use Rattle.cert_maker.specs.Noting.{byte}
use Rattle.cert_maker.proofs.Checks.{Arrives, Blocked, IsBranch, Wide, clause_found, clauses, note, rules, site}
use Rattle.cert_maker.proofs.ClausesAlike.{clause_alike}
use Rattle.cert_maker.proofs.Same.{note_itself, same_bool, same_number, terms_itself}
use Rattle.cert_maker.proofs.Shapes.{held, named, placed}

pub exit_is : is_way_out (target.Builtin 7) ≡ true
unfolding method_rows
exit_is = refl

pub and_none : (a b : Bool) → a ≡ false → (a && b) ≡ false
and_none a b e = ap (λ (c : Bool). c && b) e

module _ (b : Blocked) where
  -- ---- what is kept, and how many arguments are granted

  -- as many arguments as the clause for the call tells
  pub count_is : needs b.policy (site b Before).method ≡ kept_arguments (clauses b)
  count_is =
      ap (λ (o : Option Clause). option_map_or (λ (c : Clause). length c.args) o 0)
      (ap (λ (m : ℕ). clause_at b.policy m sites.Before) b.few ∙ clause_alike b.policy b.call.callee Before)
      ∙ by (clauses b).before
    where
      by : (o : Option Clause) → option_map_or (λ (c : Clause). length c.args) o 0 ≡ length (option_map_or (λ (c : Clause). c.args) o [])
      by None = refl
      by (Some c) = refl

  -- The result is kept where the clause for the return tells one.
  pub result_told : (c : Clause) → (clauses b).after ≡ Some c → asks_kept b.policy (site b After) ≡ is_some c.result
  result_told c e = ap (λ (m : ℕ). is_some (result_kind b.policy m)) b.few ∙ b.alike After c e

  pub argument_few : (n : ℕ) (kind : Kind) → argument_at (clauses b) n ≡ Some kind → n < kept_arguments (clauses b)
  argument_few n kind e = by (clauses b).before e
    where
      by : (o : Option Clause) → option_and_then (λ (c : Clause). slice_get c.args n) o ≡ Some kind
          → n < length (option_map_or (λ (c : Clause). c.args) o [])
      by None e = absurd cc
      by (Some c) e = slice_get_within c.args n kind e

  pub few_arguments : kept_arguments (clauses b) ≤ 255
  few_arguments = by (clauses b).before (clause_found b Before)
    where
      by : (o : Option Clause) → IfSome o (IsOf b.policy Before) → length (option_map_or (λ (c : Clause). c.args) o []) ≤ 255
      by None is = omega arith
      by (Some c) is = is.fits.few_args

  all_loaded : (n : ℕ) → argument_at (clauses b) n ≡ None → n ≤ kept_arguments (clauses b) → n ≡ kept_arguments (clauses b)
  all_loaded n none le = by (clauses b).before none le
    where
      last : (kinds : List Kind) (i : ℕ) → slice_get kinds i ≡ None → i ≤ length kinds → i ≡ length kinds
      last [] zero none le = refl
      last [] (suc i) none le = absurd (omega arith)
      last (x ∷ kinds) zero none le = absurd cc
      last (x ∷ kinds) (suc i) none le = ap suc (last kinds i none (omega arith))

      by : (o : Option Clause) → option_and_then (λ (c : Clause). slice_get c.args n) o ≡ None
          → n ≤ length (option_map_or (λ (c : Clause). c.args) o []) → n ≡ length (option_map_or (λ (c : Clause). c.args) o [])
      by None none le = omega arith
      by (Some c) none le = last c.args n none le

  pub byte_is : (n : ℕ) → n ≤ 255 → byte n ≡ n
  byte_is n le = omega (arith, le)

  pub call_note : (locked : Bool) → note b (roles.Call locked) ≡ notes.Granted (site b Before) locked (needs b.policy (site b Before).method) false
  call_note locked =
      ap (λ (n : ℕ). notes.Granted (site b Before) locked n false)
      (byte_is (needs b.policy (site b Before).method) (omega (arith, count_is, few_arguments)))

  -- So many arguments stand on the stack again.
  pub loading_arrives : (wants : Asked) (n : ℕ) (locked : Bool) → n ≤ kept_arguments (clauses b)
      → ((canonical : Note) → canonical ≡ notes.Granted (site b Before) locked n false → meets (rules b) wants canonical ≡ true)
      → Arrives b wants (loading (clauses b) n locked)
  loading_arrives wants n locked le wide = by (argument_at (clauses b) n) refl
    where
      by : (o : Option Kind) → argument_at (clauses b) n ≡ o
          → Arrives b wants (option_map_or (λ (k : Kind). roles.Load n locked) o (roles.Call locked))
      by None none =
          wide (note b (roles.Call locked))
          (call_note locked ∙ ap (λ (m : ℕ). notes.Granted (site b Before) locked m false) (count_is ∙ sym (all_loaded n none le)))
      by (Some kind) e =
          wide (note b (roles.Load n locked))
          (ap (λ (m : ℕ). notes.Granted (site b Before) locked m false) (byte_is n (omega (arith, le, few_arguments))))

  pub granted_wide : (n : ℕ) (locked : Bool) (canonical : Note) → canonical ≡ notes.Granted (site b Before) locked n false
      → meets (rules b) (Given (notes.Granted (site b Before) locked n false)) canonical ≡ true
  granted_wide n locked canonical e =
      ap (same_note (notes.Granted (site b Before) locked n false)) e ∙ note_itself (notes.Granted (site b Before) locked n false)

  -- ---- a check that may begin, or is done

  pub or_last : (x y : Bool) → y ≡ true → (x || y) ≡ true
  or_last true y e = refl
  or_last false y e = e

  or_mid : (x y z : Bool) → y ≡ true → (x || (y || z)) ≡ true
  or_mid true y z e = refl
  or_mid false true z e = refl
  or_mid false false z e = absurd cc

  -- Where the update is due with the lock held, its check may have begun.
  pub owed_wide : (p : Phase) (kept : Bool) → is_some (clause_of b.policy (site b p)) ≡ true → asks_kept b.policy (site b p) ≡ kept
      → Wide b (Given (notes.Owed (site b p) 1 kept false)) 0 p 0 (as_taken b.policy)
  owed_wide p kept some is canonical stands =
      let same : beq kept (asks_kept b.policy (site b p)) ≡ true = ap (beq kept) is ∙ same_bool kept in
      let begins : may_begin b.policy (site b p) 1 kept false ≡ true = rw (some, same) refl in
      or_last _ _ (and_from (may_begin b.policy (site b p) 1 kept false) (stands_for_held b.policy (site b p) 0 0 [] (as_taken b.policy) canonical) begins stands)

  -- Where all atoms of a branch hold, and its updates are made, the check is done.
  pub done_wide : (p : Phase) (n : ℕ) (branch : Branch) → IsBranch b p n branch → (canonical : Note) → canonical ≡ done b.policy (site b p)
      → meets (rules b)
      (Given (notes.Held (site b p) n (length branch.atoms) [] (after_updates b.policy (take (length branch.updates) branch.updates)))) canonical
      ≡ true
  done_wide p n branch is canonical e =
      let all : take (length branch.updates) branch.updates ≡ branch.updates = take_all (length branch.updates) branch.updates (omega arith) in
      let alike : same_terms (after_updates b.policy (take (length branch.updates) branch.updates)) (after_updates b.policy branch.updates) ≡ true =
      ap (λ (us : List Update). same_terms (after_updates b.policy us) (after_updates b.policy branch.updates)) all
      ∙ terms_itself (after_updates b.policy branch.updates) in
      let is_so : is_done b.policy (site b p) n (length branch.atoms) (after_updates b.policy (take (length branch.updates) branch.updates)) ≡ true =
      rw (is.at, same_number (length branch.atoms), alike) refl in
      let same : same_note (done b.policy (site b p)) canonical ≡ true = ap (same_note (done b.policy (site b p))) e ∙ note_itself (done b.policy (site b p)) in
      or_mid _ ((is_done b.policy (site b p) n (length branch.atoms) (after_updates b.policy (take (length branch.updates) branch.updates)) && true)
      && same_note (done b.policy (site b p)) canonical) _ (rw (is_so, same) refl)

  -- ---- an instruction

  module _ (pool : List Const) (fronts : List ℕ) (begin : ℕ) (own : Insn) (ref : Target) where
    abbrev placed_here : BlockInsn → Insn
    placed_here x = placed pool fronts begin own b.state ref x

    abbrev named_here : BlockInsn → Target
    named_here x = named pool fronts begin own b.state ref x

    -- The instruction of a role has a row; what comes next meets it; and the other rules hold. It is not the call.
    pub record IsNoted (role : Role) (x : BlockInsn) : Type 0 where
      pub row : Row
      pub is : rows.row (rules b) (note b role) (shape_of (placed_here x)) (named_here x) ≡ Some row
      pub variable : is_free (note b role) ≡ true → is_some (variable_named b.state (named_here x)) ≡ false
      -- the lock's class is pushed where the lock is taken
      pub pushes : is_free (note b role) ≡ true → pushes_state (shape_of (placed_here x)) (named_here x) ≡ true
          → (next b.mode (clauses b) role ≡ roles.Lock Before true) × (jump_of x ≡ None)
      pub called : (at : ℕ) → calls_well (rules b) (note b role) (record { at = at; insn = placed_here x; ref = named_here x }) ≡ true
      pub catches : (calls (shape_of (placed_here x)) && (has_clause b.policy (named_here x) && is_duty_of (rules b) (named_here x))) ≡ false
      pub passes : may_pass x ≡ true → Arrives b row.past (next b.mode (clauses b) role)
      pub lands : is_some (jump_of x) ≡ true → Arrives b row.jump (jumps b.mode (clauses b) role)
      pub thrown : row.thrown ≡ Open

    -- where its note is not Free
    pub held_noted : (role : Role) (x : BlockInsn) (n : Note) → note b role ≡ n → is_free n ≡ false → calls (shape_of (placed_here x)) ≡ false → (row : Row)
        → rows.row (rules b) n (shape_of (placed_here x)) (named_here x) ≡ Some row
        → (may_pass x ≡ true → Arrives b row.past (next b.mode (clauses b) role))
        → (is_some (jump_of x) ≡ true → Arrives b row.jump (jumps b.mode (clauses b) role))
        → row.thrown ≡ Open → IsNoted role x
    held_noted role x n canonical held calls_nothing row is passes lands thrown = record {
      row = row;
      is = ap (λ (m : Note). rows.row (rules b) m (shape_of (placed_here x)) (named_here x)) canonical ∙ is;
      variable = λ free. absurd (false≢true (sym held ∙ sym (ap is_free canonical) ∙ free));
      pushes = λ free. absurd (false≢true (sym held ∙ sym (ap is_free canonical) ∙ free));
      called = λ at. rw calls_nothing refl;
      catches = and_none _ _ calls_nothing;
      passes = passes;
      lands = lands;
      thrown = thrown;
    }

    free_row : Row
    free_row = record { past = Open; jump = Open; thrown = Open }

    -- where its note is Free, and it does not push the lock's class
    pub free_noted : (role : Role) (x : BlockInsn) → note b role ≡ notes.Free → calls (shape_of (placed_here x)) ≡ false
        → pushes_state (shape_of (placed_here x)) (named_here x) ≡ false → named_here x ≡ target.None
        → Arrives b Open (next b.mode (clauses b) role) → Arrives b Open (jumps b.mode (clauses b) role) → IsNoted role x
    unfolding free_row
    free_noted role x canonical calls_nothing other none passes lands =
        let alone : is_some (variable_named b.state (named_here x)) ≡ false = ap (λ (t : Target). is_some (variable_named b.state t)) none in
        record {
          row = free_row;
          is = ap (λ (m : Note). rows.row (rules b) m (shape_of (placed_here x)) (named_here x)) canonical ∙ rw (other, alone) refl;
          variable = λ free. alone;
          pushes = λ free class. absurd (false≢true (sym other ∙ class));
          called = λ at. rw calls_nothing refl;
          catches = and_none _ _ calls_nothing;
          passes = λ p. passes;
          lands = λ j. lands;
          thrown = refl;
        }
