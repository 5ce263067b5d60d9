-- The roles of a check: each instruction has a row of its note, and what comes next meets it.
use Rattle.std.proofs.Common.{◌≡◌, ◌≢◌, ℕ, zero, suc, ◌+◌, ℤ, pos, Bool, true, false, cond, List, [], ◌∷◌, ◌++◌, length, take, Option, Some, None, refl, sym, ap, subst, ◌∙◌, arith}
use Rattle.std.specs.Prelude.{◌==◌, int_le, is_some, ◌-ℤ◌, slice_get, slice_set}
use Rattle.std.proofs.lemmas.Bool.{and_from, false≢true}
use Rattle.std.proofs.lemmas.Int.{ints}
use Rattle.std.proofs.lemmas.Option.{slice_get_within}
use Rattle.class_codec.specs.declared.tree.Const.{Const}
use Rattle.insn_codec.specs.declared.insn.Insn.{Insn}
use Rattle.insn_codec.specs.declared.opcodes.TheConstants.{ILOAD, ILOAD_0, GETSTATIC, GOTO, IADD, PUTSTATIC}
use Rattle.insn_codec.specs.declared.shape.Heap.TheVariants as heap
use Rattle.insn_codec.specs.declared.shape.ValueKind.TheVariants as operands
use Rattle.insn_codec.specs.declared.shape.Shape.{Shape}
use Rattle.insn_codec.specs.declared.shape.Shape.TheVariants as shapes
use Rattle.insn_codec.specs.Shapes.{shape_of}
use Rattle.bytecode_model.specs.declared.program.Target.{Target}
use Rattle.bytecode_model.specs.declared.program.Target.TheVariants as target
use Rattle.bytecode_model.proofs.Lists.{all_get, some_is}
use Rattle.cert_format.specs.declared.certificate.Mode.{Mode}
use Rattle.cert_format.specs.declared.certificate.Mode.TheVariants.{Hold, Release}
use Rattle.cert_format.specs.declared.note.Note.{Note}
use Rattle.cert_format.specs.declared.note.Note.TheVariants as notes
use Rattle.cert_format.specs.declared.note.Term.{Term}
use Rattle.cert_format.specs.declared.note.Term.TheVariants as terms
use Rattle.conspec_tree.specs.declared.types.Atom.{Atom}
use Rattle.conspec_tree.specs.declared.types.Base.{Base}
use Rattle.conspec_tree.specs.declared.types.Base.TheVariants as bases
use Rattle.conspec_tree.specs.declared.types.Kind.{Kind}
use Rattle.conspec_tree.specs.declared.types.Phase.{Phase}
use Rattle.conspec_tree.specs.declared.types.Phase.TheVariants.{Before, After, Exceptional}
use Rattle.conspec_tree.specs.declared.types.Update.{Update}
use Rattle.conspec_tree.specs.declared.types.Update.TheVariants.{Set, Add}
use Rattle.conspec_tree.specs.Tree.{IsBase, IsNumber, IsUpdateIn, asked}
use Rattle.conspec_tree.specs.Updates.{target as updated_variable}
use Rattle.conspec_automaton.specs.declared.policy.Branch.{Branch}
use Rattle.offset_patch.specs.declared.block.BlockInsn.{BlockInsn}
use Rattle.offset_patch.specs.declared.block.BlockInsn.TheVariants.{Plain, Want, Jump}
use Rattle.block_template.specs.declared.item.Role.{Role}
use Rattle.block_template.specs.declared.item.Role.TheVariants as roles
use Rattle.block_template.specs.Blocks.{bools_of}
use Rattle.block_template.specs.Flow.{branches_of as branches_told, held as held_in, made, tries, update_goes, updated, ask_goes, branches_in, checked_in, compared, next}
use Rattle.block_template.specs.Pushing.{field, local, negated, push, push_base}
use Rattle.block_template.specs.Steps.{ask_size, ask_steps, step_insn, update_size, update_steps}
use Rattle.block_template.proofs.CheckFlows.{base_stays, push_stays}
use Rattle.block_logic.specs.Operands.{calls}
use Rattle.block_logic.specs.Rows as rows
use Rattle.block_logic.specs.Rows.{Asked, Given, Row, gives, is_addend, term_pushed}
use Rattle.block_logic.specs.Weakening.{is_after, is_before, done}
use Rattle.block_logic.specs.Terms.{after_updates, variable_after, as_taken, base_term}
use Rattle.block_logic.specs.Terms.{written as written_term}
use Rattle.cert_maker.specs.Noting.{phase_of, terms_before}
use Rattle.cert_maker.proofs.Checks.{Arrives, Blocked, IsBranch, ask_is, clauses, branches_are, held_arrives, held_wide, made_arrives, note, rules, same_inside, site, taken_is, tries_arrives, update_is}
use Rattle.cert_maker.proofs.RoleRows.{of_does}
use Rattle.cert_maker.proofs.Roles.{IsNoted, done_wide, held_noted, loading_arrives}
use Rattle.cert_maker.proofs.Rows.{held_adds, held_goes, held_pushes, held_tests, held_writes, argument_pushed, result_pushed, tested, variable_pushed}
use Rattle.cert_maker.proofs.Shapes.{compares, named, number_loaded, placed, pushed}
use Rattle.cert_maker.proofs.Updates.{unchanged, update_made, variable_there}
use Rattle.conspec_tree.specs.Kinds.{is_number}

module _ (b : Blocked) (pool : List Const) (fronts : List ℕ) (begin : ℕ) (own : Insn) (ref : Target) where
  abbrev Is : Role → BlockInsn → Type 0
  Is role x = IsNoted b pool fronts begin own ref role x

  abbrev base : ℕ
  base = b.call.base

  abbrev bools : List Bool
  bools = bools_of b.policy

  abbrev at_place : BlockInsn → Insn
  at_place x = placed pool fronts begin own b.state ref x

  abbrev names : BlockInsn → Target
  names x = named pool fronts begin own b.state ref x

  never : {X : Type 0} → false ≡ true → X
  never e = absurd (false≢true e)

  add_one : (n : ℕ) → n + 1 ≡ suc n
  add_one n = omega arith

  -- ---- what an atom asks

  module _ (p : Phase) (n : ℕ) (branch : Branch) (is : IsBranch b p n branch) where
    abbrev rows_of : ℕ → List Term → List Term → Shape → Target → Option Row
    rows_of holding map list s t = rows.row (rules b) (notes.Held (site b p) n holding list map) s t

    number_of : (o : Option Kind) → IsNumber o → (kind : Kind) × (o ≡ Some kind) × (is_number kind ≡ true)
    number_of None e = absurd e
    number_of (Some kind) e = (kind, refl, e)

    -- The base of an atom is pushed.
    record IsPushed (asks : Base) : Type 0 where
      term : term_pushed (rules b) (site b p) is.clause (as_taken b.policy) (shape_of (at_place (push_base bools base asks)))
          (names (push_base bools base asks)) ≡ Some (base_term asks)
      calls_nothing : calls (shape_of (at_place (push_base bools base asks))) ≡ false

    of_local : (slot : ℕ) (term : Term)
        → term_pushed (rules b) (site b p) is.clause (as_taken b.policy) (shapes.Load operands.Int slot) target.None ≡ Some term
        → (term_pushed (rules b) (site b p) is.clause (as_taken b.policy) (shape_of (at_place (local ILOAD_0 ILOAD slot)))
        (names (local ILOAD_0 ILOAD slot)) ≡ Some term)
        × (calls (shape_of (at_place (local ILOAD_0 ILOAD slot))) ≡ false)
    of_local slot term e =
        let does = number_loaded pool fronts begin own b.state ref slot in (
          of_does b pool fronts begin own ref (term_pushed (rules b) (site b p) is.clause (as_taken b.policy)) (local ILOAD_0 ILOAD slot)
              (shapes.Load operands.Int slot) target.None does ∙ e,
          ap calls does.is,
        )

    base_pushed : (asks : Base) → IsBase (length b.policy.vars) (asked p is.clause.args is.clause.result) asks → IsPushed asks
    base_pushed asks there = by p asks there refl
      where
        by : (q : Phase) (asks : Base) → IsBase (length b.policy.vars) (asked q is.clause.args is.clause.result) asks → q ≡ p → IsPushed asks
        by q (bases.Var var) there e =
            let at : 0 + var ≡ var = omega arith in
            record {
              term = variable_pushed (rules b) (site b p) is.clause (as_taken b.policy) var (terms.Var var)
                  (variable_there [] 0 (length b.policy.vars) var there ∙ ap (λ (i : ℕ). Some (terms.Var i)) at);
              calls_nothing = refl;
            }
        by Before (bases.Arg i) there e =
            let kind = number_of (slice_get is.clause.args i) there in
            let before : is_before (site b p).phase ≡ true = ap (λ (q : Phase). is_before (phase_of q)) (sym e) in
            let pushed = of_local (base + i) (terms.Arg i)
            (argument_pushed (rules b) (site b p) is.clause (as_taken b.policy) i kind.0 before kind.1 kind.2) in
            record { term = pushed.0; calls_nothing = pushed.1 }
        by After (bases.Arg i) there e = absurd there
        by Exceptional (bases.Arg i) there e = absurd there
        by Before bases.Result there e = absurd there
        by After bases.Result there e =
            let kind = number_of is.clause.result there in
            let before : is_before (site b p).phase ≡ false = ap (λ (q : Phase). is_before (phase_of q)) (sym e) in
            let after : is_after (site b p).phase ≡ true = ap (λ (q : Phase). is_after (phase_of q)) (sym e) in
            let pushed = of_local base terms.Result
            (result_pushed (rules b) (site b p) is.clause (as_taken b.policy) kind.0 before after kind.1 kind.2) in
            record { term = pushed.0; calls_nothing = pushed.1 }
        by Exceptional bases.Result there e = absurd there

    -- A constant is pushed.
    constant_pushed : (holding : ℕ) (map list : List Term) (value : ℤ)
        → (rows_of holding map list (shape_of (at_place (push value))) (names (push value))
        ≡ gives (notes.Held (site b p) n holding (list ++ terms.Const value ∷ []) map))
        × (calls (shape_of (at_place (push value))) ≡ false)
    constant_pushed holding map list value =
        pushed pool fronts begin own b.state ref value
        (λ s t. (rows_of holding map list s t ≡ gives (notes.Held (site b p) n holding (list ++ terms.Const value ∷ []) map)) × (calls s ≡ false))
        (held_pushes (rules b) (site b p) is.clause is.found n holding map list (shapes.Push value) target.None (terms.Const value) refl, refl) (
          held_pushes (rules b) (site b p) is.clause is.found n holding map list (shapes.Heap heap.Constant) (target.Number value)
              (terms.Const value) refl,
          refl,
        )

    -- ---- an atom

    module _ (m : ℕ) (atom : Atom) (there : slice_get branch.atoms m ≡ Some atom) where
      asks_base : IsPushed atom.base
      asks_base =
          base_pushed atom.base
          (all_get (λ (a : Atom). IsBase (length b.policy.vars) (asked p is.clause.args is.clause.result) a.base) branch.atoms m atom is.is.atoms there)

      -- what comes next, in the comparison and after it
      goes_on : (done : ℕ) → next b.mode (clauses b) (roles.Ask p n m done) ≡ ask_goes p n m done branch (Some atom)
      goes_on done =
          ap (compared p n m done) (ap (λ (bs : List Branch). slice_get bs n) (sym (branches_are b p)) ∙ is.at)
          ∙ ap (ask_goes p n m done branch) there

      more : (done : ℕ) → (done + 1 == ask_size atom) ≡ false → (wants : Asked) → Arrives b wants (roles.Ask p n m (done + 1))
          → Arrives b wants (next b.mode (clauses b) (roles.Ask p n m done))
      more done some wants arrives =
          subst (Arrives b wants)
          (sym (goes_on done ∙ ap (λ (c : Bool). cond c (held_in p n (m + 1) branch) (roles.Ask p n m (done + 1))) some)) arrives

      ask_first : Is (roles.Ask p n m 0) (push_base bools base atom.base)
      ask_first =
          held_noted b pool fronts begin own ref (roles.Ask p n m 0) (push_base bools base atom.base)
          (notes.Held (site b p) n m [] (as_taken b.policy)) (ask_is b p n branch is m 0 atom there) refl asks_base.calls_nothing _
          (held_pushes (rules b) (site b p) is.clause is.found n m (as_taken b.policy) [] (shape_of (at_place (push_base bools base atom.base)))
          (names (push_base bools base atom.base)) (base_term atom.base) asks_base.term)
          (λ q. more 0 refl (Given (notes.Held (site b p) n m (base_term atom.base ∷ []) (as_taken b.policy)))
          (same_inside b (notes.Held (site b p) n m (base_term atom.base ∷ []) (as_taken b.policy)) (roles.Ask p n m 1)
          (ask_is b p n branch is m 1 atom there)))
          (λ j. never (sym (ap is_some (base_stays bools base atom.base)) ∙ j)) refl

      ask_second : Is (roles.Ask p n m 1) (push atom.value)
      ask_second =
          let row = constant_pushed m (as_taken b.policy) (base_term atom.base ∷ []) atom.value in
          held_noted b pool fronts begin own ref (roles.Ask p n m 1) (push atom.value)
          (notes.Held (site b p) n m (base_term atom.base ∷ []) (as_taken b.policy)) (ask_is b p n branch is m 1 atom there) refl row.1 _ row.0
          (λ q. more 1 refl (Given (notes.Held (site b p) n m (base_term atom.base ∷ terms.Const atom.value ∷ []) (as_taken b.policy)))
          (same_inside b (notes.Held (site b p) n m (base_term atom.base ∷ terms.Const atom.value ∷ []) (as_taken b.policy))
          (roles.Ask p n m 2) (ask_is b p n branch is m 2 atom there)))
          (λ j. never (sym (ap is_some (push_stays atom.value)) ∙ j)) refl

      held_next : (done : ℕ) → (done + 1 == ask_size atom) ≡ true
          → Arrives b (Given (notes.Held (site b p) n (m + 1) [] (as_taken b.policy))) (next b.mode (clauses b) (roles.Ask p n m done))
      held_next done last =
          subst (Arrives b (Given (notes.Held (site b p) n (m + 1) [] (as_taken b.policy))))
          (sym (goes_on done ∙ ap (λ (c : Bool). cond c (held_in p n (m + 1) branch) (roles.Ask p n m (done + 1))) last))
          (held_arrives b p n branch is (Given (notes.Held (site b p) n (m + 1) [] (as_taken b.policy))) (m + 1)
          (omega (arith, slice_get_within branch.atoms m atom there)) (held_wide b n p (m + 1) (as_taken b.policy)))

      fails_next : Arrives b (Given (notes.Held (site b p) (n + 1) 0 [] (as_taken b.policy))) (tries p (n + 1) (branches_in (clauses b) p))
      fails_next =
          subst (λ (bs : List Branch). Arrives b (Given (notes.Held (site b p) (n + 1) 0 [] (as_taken b.policy))) (tries p (n + 1) bs))
          (sym (ap branches_told is.there))
          (tries_arrives b (Given (notes.Held (site b p) (n + 1) 0 [] (as_taken b.policy))) p is.clause is.there (n + 1)
          (omega (arith, slice_get_within is.clause.branches n branch is.listed)) (held_wide b (n + 1) p 0 (as_taken b.policy)))

      ask_last : (to : ℕ) → Is (roles.Ask p n m 2) (Jump (negated atom.rel) to)
      ask_last to =
          let shape = compares pool fronts begin own b.state ref atom.rel to in
          held_noted b pool fronts begin own ref (roles.Ask p n m 2) (Jump (negated atom.rel) to)
          (notes.Held (site b p) n m (base_term atom.base ∷ terms.Const atom.value ∷ []) (as_taken b.policy))
          (ask_is b p n branch is m 2 atom there) refl (ap calls shape)
          (tested (rules b) (site b p) is.clause is.found n m (as_taken b.policy))
          (ap (λ (s : Shape). rows_of m (as_taken b.policy) (base_term atom.base ∷ terms.Const atom.value ∷ []) s target.None) shape
          ∙ held_tests (rules b) (site b p) is.clause is.found n m (as_taken b.policy) branch atom (begin + to) is.listed there)
          (λ q. held_next 2 refl) (λ j. fails_next) refl

      pub ask : (to done : ℕ) (x : BlockInsn) → step_insn bools base to (ask_steps atom) done ≡ Some x → Is (roles.Ask p n m done) x
      ask to zero x e = subst (Is (roles.Ask p n m 0)) (some_is _ x e) ask_first
      ask to (suc zero) x e = subst (Is (roles.Ask p n m 1)) (some_is _ x e) ask_second
      ask to (suc (suc zero)) x e = subst (Is (roles.Ask p n m 2)) (some_is _ x e) (ask_last to)
      ask to (suc (suc (suc done))) x e = absurd cc

    -- ---- an update

    module _ (u : ℕ) (update : Update) (there : slice_get branch.updates u ≡ Some update) where
      abbrev so_far : List Term
      so_far = after_updates b.policy (take u branch.updates)

      abbrev count : ℕ
      count = length branch.atoms

      canonical : (done : ℕ) → note b (roles.Update p n u done) ≡ notes.Held (site b p) n count (terms_before (update_steps update) done) so_far
      canonical done = update_is b p n branch is u done update there

      fits : IsUpdateIn b.policy.vars b.policy.maxint update
      fits = all_get (IsUpdateIn b.policy.vars b.policy.maxint) branch.updates u update is.is.updates there

      -- what comes next, in the update and after it
      goes : (done : ℕ) → next b.mode (clauses b) (roles.Update p n u done) ≡ update_goes p n u done branch (Some update)
      goes done =
          ap (updated p n u done) (ap (λ (bs : List Branch). slice_get bs n) (sym (branches_are b p)) ∙ is.at)
          ∙ ap (update_goes p n u done branch) there

      steps : (done : ℕ) → (done + 1 == update_size update) ≡ false → (wants : Asked) → Arrives b wants (roles.Update p n u (done + 1))
          → Arrives b wants (next b.mode (clauses b) (roles.Update p n u done))
      steps done more wants arrives =
          subst (Arrives b wants)
          (sym (goes done ∙ ap (λ (c : Bool). cond c (made p n (u + 1) branch) (roles.Update p n u (done + 1))) more)) arrives

      ends : (done : ℕ) → (done + 1 == update_size update) ≡ true → (wants : Asked) → Arrives b wants (made p n (u + 1) branch)
          → Arrives b wants (next b.mode (clauses b) (roles.Update p n u done))
      ends done last wants arrives =
          subst (Arrives b wants)
          (sym (goes done ∙ ap (λ (c : Bool). cond c (made p n (u + 1) branch) (roles.Update p n u (done + 1))) last)) arrives

      -- The variable is written.
      made_next : (done var : ℕ) → updated_variable update ≡ var → (done + 1 == update_size update) ≡ true
          → Arrives b (Given (notes.Held (site b p) n count [] (slice_set so_far var (written_term update))))
          (next b.mode (clauses b) (roles.Update p n u done))
      made_next done var of last =
          let map : slice_set so_far var (written_term update) ≡ after_updates b.policy (take (u + 1) branch.updates) =
          ap (λ (v : ℕ). slice_set so_far v (written_term update)) (sym of)
          ∙ update_made branch.updates u update there is.is.once (length b.policy.vars)
          ∙ ap (λ (k : ℕ). after_updates b.policy (take k branch.updates)) (sym (add_one u)) in
          subst (λ (m : List Term). Arrives b (Given (notes.Held (site b p) n count [] m)) (next b.mode (clauses b) (roles.Update p n u done)))
          (sym map)
          (ends done last (Given (notes.Held (site b p) n count [] (after_updates b.policy (take (u + 1) branch.updates))))
          (made_arrives b p n branch is (Given (notes.Held (site b p) n count [] (after_updates b.policy (take (u + 1) branch.updates)))) (u + 1)
          (omega (arith, slice_get_within branch.updates u update there))
          (held_wide b n p count (after_updates b.policy (take (u + 1) branch.updates)))))

      writes : (done var : ℕ) (x : BlockInsn) → x ≡ Want PUTSTATIC (field bools var) → terms_before (update_steps update) done ≡ written_term update ∷ []
          → updated_variable update ≡ var → (done + 1 == update_size update) ≡ true → Is (roles.Update p n u done) x
      writes done var x e list of last =
          subst (Is (roles.Update p n u done)) (sym e)
          (held_noted b pool fronts begin own ref (roles.Update p n u done) (Want PUTSTATIC (field bools var))
          (notes.Held (site b p) n count (written_term update ∷ []) so_far)
          (canonical done ∙ ap (λ (ts : List Term). notes.Held (site b p) n count ts so_far) list) refl refl _
          (held_writes (rules b) (site b p) is.clause is.found n count so_far branch (written_term update) var is.listed refl)
          (λ q. made_next done var of last) (λ j. tt) refl)

      -- A number is pushed.
      pushes : (done : ℕ) (list : List Term) (value : ℤ) (x : BlockInsn) → x ≡ push value → terms_before (update_steps update) done ≡ list
          → terms_before (update_steps update) (done + 1) ≡ list ++ terms.Const value ∷ [] → (done + 1 == update_size update) ≡ false
          → Is (roles.Update p n u done) x
      pushes done list value x e before after more =
          let row = constant_pushed count so_far list value in
          subst (Is (roles.Update p n u done)) (sym e)
          (held_noted b pool fronts begin own ref (roles.Update p n u done) (push value) (notes.Held (site b p) n count list so_far)
          (canonical done ∙ ap (λ (ts : List Term). notes.Held (site b p) n count ts so_far) before) refl row.1 _ row.0
          (λ q. steps done more (Given (notes.Held (site b p) n count (list ++ terms.Const value ∷ []) so_far)) (same_inside b (notes.Held (site b p) n count (list ++ terms.Const value ∷ []) so_far) (roles.Update p n u (done + 1))
          (canonical (done + 1) ∙ ap (λ (ts : List Term). notes.Held (site b p) n count ts so_far) after)))
          (λ j. tt) refl)

    module _ (u var : ℕ) (by : ℤ) (there : slice_get branch.updates u ≡ Some (Add var by)) where
      abbrev now : List Term
      now = after_updates b.policy (take u branch.updates)

      here : IsUpdateIn b.policy.vars b.policy.maxint (Add var by)
      here = fits u (Add var by) there

      -- The variable is read, as it was when the lock was taken.
      reads : Is (roles.Update p n u 0) (Want GETSTATIC (field bools var))
      reads =
          let at : 0 + var ≡ var = omega arith in
          let stands : slice_get now var ≡ Some (terms.Var var) =
          variable_there (take u branch.updates) 0 (length b.policy.vars) var (slice_get_within b.policy.vars var here.variable here.there)
          ∙ ap (λ (i : ℕ). Some (variable_after (take u branch.updates) i)) at
          ∙ ap Some (unchanged branch.updates u (Add var by) there is.is.once) in
          held_noted b pool fronts begin own ref (roles.Update p n u 0) (Want GETSTATIC (field bools var))
          (notes.Held (site b p) n (length branch.atoms) [] now) (canonical u (Add var by) there 0) refl refl _
          (held_pushes (rules b) (site b p) is.clause is.found n (length branch.atoms) now [] (shapes.Heap heap.ReadStatic) (target.Field b.state var)
          (terms.Var var) (variable_pushed (rules b) (site b p) is.clause now var (terms.Var var) stands))
          (λ q. steps u (Add var by) there 0 refl (Given (notes.Held (site b p) n (length branch.atoms) (terms.Var var ∷ []) now))
          (same_inside b (notes.Held (site b p) n (length branch.atoms) (terms.Var var ∷ []) now) (roles.Update p n u 1)
          (canonical u (Add var by) there 1)))
          (λ j. tt) refl

      small : is_addend by ≡ true
      small =
          let low : int_le (pos 0 -ℤ pos 1000000000) by ≡ true = grind (arith, ints, here.fits.1.0) in
          let high : int_le by (pos 1000000000) ≡ true = grind (arith, ints, here.fits.1.1) in
          and_from _ _ low high

      sums : Is (roles.Update p n u 2) (Plain IADD)
      sums =
          held_noted b pool fronts begin own ref (roles.Update p n u 2) (Plain IADD)
          (notes.Held (site b p) n (length branch.atoms) (terms.Var var ∷ terms.Const by ∷ []) now) (canonical u (Add var by) there 2) refl refl _
          (held_adds (rules b) (site b p) is.clause is.found n (length branch.atoms) now var by small)
          (λ q. steps u (Add var by) there 2 refl (Given (notes.Held (site b p) n (length branch.atoms) (terms.VarAdd var by ∷ []) now))
          (same_inside b (notes.Held (site b p) n (length branch.atoms) (terms.VarAdd var by ∷ []) now) (roles.Update p n u 3)
          (canonical u (Add var by) there 3)))
          (λ j. tt) refl

    pub update : (u done : ℕ) (what : Update) (x : BlockInsn) → slice_get branch.updates u ≡ Some what → step_insn bools 0 0 (update_steps what) done ≡ Some x
        → Is (roles.Update p n u done) x
    update u zero (Set var value) x there e = pushes u (Set var value) there 0 [] value x (sym (some_is _ x e)) refl refl refl
    update u (suc zero) (Set var value) x there e = writes u (Set var value) there 1 var x (sym (some_is _ x e)) refl refl refl
    update u (suc (suc done)) (Set var value) x there e = absurd cc
    update u zero (Add var by) x there e = subst (Is (roles.Update p n u 0)) (some_is _ x e) (reads u var by there)
    update u (suc zero) (Add var by) x there e = pushes u (Add var by) there 1 (terms.Var var ∷ []) by x (sym (some_is _ x e)) refl refl refl
    update u (suc (suc zero)) (Add var by) x there e = subst (Is (roles.Update p n u 2)) (some_is _ x e) (sums u var by there)
    update u (suc (suc (suc zero))) (Add var by) x there e = writes u (Add var by) there 3 var x (sym (some_is _ x e)) refl refl refl
    update u (suc (suc (suc (suc done)))) (Add var by) x there e = absurd cc

    -- ---- the check is done

    abbrev finished : Note
    finished = notes.Held (site b p) n (length branch.atoms) [] (after_updates b.policy (take (length branch.updates) branch.updates))

    done_arrives : Arrives b (Given finished) (checked_in b.mode (clauses b) p)
    done_arrives = by b.mode p refl
      where
        by : (mode : Mode) (q : Phase) → q ≡ p → Arrives b (Given finished) (checked_in mode (clauses b) q)
        by Release Before e = done_wide b p n branch is (note b (roles.Unlock Before true false)) (ap (λ (r : Phase). done b.policy (site b r)) e)
        by Release After e = done_wide b p n branch is (note b (roles.Unlock After true false)) (ap (λ (r : Phase). done b.policy (site b r)) e)
        by Release Exceptional e = done_wide b p n branch is (note b (roles.Unlock Exceptional true false)) (ap (λ (r : Phase). done b.policy (site b r)) e)
        by Hold Before e =
            loading_arrives b (Given finished) 0 true (omega arith)
            (λ canonical is_so. done_wide b p n branch is canonical (is_so ∙ ap (λ (r : Phase). done b.policy (site b r)) e))
        by Hold After e = done_wide b p n branch is (note b (roles.Unlock After true false)) (ap (λ (r : Phase). done b.policy (site b r)) e)
        by Hold Exceptional e = done_wide b p n branch is (note b (roles.Unlock Exceptional true false)) (ap (λ (r : Phase). done b.policy (site b r)) e)

    pub taken_row : (to : ℕ) → Is (roles.Taken p n) (Jump GOTO to)
    taken_row to =
        held_noted b pool fronts begin own ref (roles.Taken p n) (Jump GOTO to) finished (taken_is b p n branch is) refl refl _
        (held_goes (rules b) (site b p) is.clause is.found n (length branch.atoms)
        (after_updates b.policy (take (length branch.updates) branch.updates)) [] (begin + to))
        (λ q. never q) (λ j. done_arrives) refl
