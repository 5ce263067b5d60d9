-- Each role of a block has a row of its note, and so has the call.
use Rattle.std.proofs.Common.{◌≡◌, ℕ, zero, suc, ◌+◌, Bool, true, false, cond, List, [], Option, Some, None, refl, sym, ap, subst, ◌∙◌, arith}
use Rattle.std.specs.Prelude.{◌==◌, ◌||◌, is_some, nat_lt, slice_get, option_and_then, option_map}
use Rattle.std.specs.Option.{option_map_or}
use Rattle.std.proofs.lemmas.Bool.{false≢true}
use Rattle.class_codec.specs.declared.tree.Const.{Const}
use Rattle.insn_codec.specs.declared.insn.Insn.{Insn}
use Rattle.insn_codec.specs.declared.opcodes.TheConstants.{GOTO}
use Rattle.insn_codec.specs.declared.shape.Heap.TheVariants as heap
use Rattle.insn_codec.specs.declared.shape.How.{How}
use Rattle.insn_codec.specs.declared.shape.Shape.TheVariants as shapes
use Rattle.bytecode_model.specs.declared.program.Target.{Target}
use Rattle.bytecode_model.specs.declared.program.Target.TheVariants as target
use Rattle.bytecode_model.proofs.Lists.{some_is}
use Rattle.cert_format.specs.declared.certificate.Mode.{Mode}
use Rattle.cert_format.specs.declared.certificate.Mode.TheVariants.{Hold, Release}
use Rattle.cert_format.specs.declared.note.Note.{Note}
use Rattle.cert_format.specs.declared.note.Note.TheVariants as notes
use Rattle.cert_format.specs.declared.note.Phase8.TheVariants as sites
use Rattle.conspec_tree.specs.declared.types.Atom.{Atom}
use Rattle.conspec_tree.specs.declared.types.Kind.{Kind}
use Rattle.conspec_tree.specs.declared.types.Phase.{Phase}
use Rattle.conspec_tree.specs.declared.types.Phase.TheVariants.{Before, After, Exceptional}
use Rattle.conspec_tree.specs.declared.types.Update.{Update}
use Rattle.conspec_automaton.specs.declared.policy.Branch.{Branch}
use Rattle.conspec_automaton.specs.declared.policy.Clause.{Clause}
use Rattle.offset_patch.specs.declared.block.BlockInsn.{BlockInsn}
use Rattle.offset_patch.specs.declared.block.BlockInsn.TheVariants.{Jump, Call}
use Rattle.offset_patch.specs.Splicing.{is_call}
use Rattle.block_template.specs.declared.item.Role.{Role}
use Rattle.block_template.specs.declared.item.Role.TheVariants as roles
use Rattle.block_template.specs.Blocks.{bools_of, catches, is_locked}
use Rattle.block_template.specs.Flow.{after_return, thrown, tries, argument_at, branch_at as branch_in, check_after, clause_in, insn_of, kept_by, result_in}
use Rattle.block_template.specs.Pushing.{load as load_insn, store as store_insn}
use Rattle.block_template.specs.Steps.{ask_steps, step_insn, update_steps}
use Rattle.block_logic.specs.Annotations.{held_in, holds_round}
use Rattle.block_logic.specs.Clauses.{clause_at, needs, result_kind}
use Rattle.block_logic.specs.Notes.{is_granted}
use Rattle.block_logic.specs.Operands.{calls}
use Rattle.block_logic.specs.Rows as rows
use Rattle.block_logic.specs.Rows.{Asked, Given, Open}
use Rattle.block_logic.specs.Weakening.{asks_kept, done}
use Rattle.cert_maker.proofs.Checks.{Arrives, Blocked, branch_is, clause_of_site, clauses, note, rules, same_inside, site, tries_arrives}
use Rattle.cert_maker.proofs.RoleRows.{give, leave, load, lock_class, lock_taken, of_does, rethrow, save, stop, unlock_class, unlock_left}
use Rattle.cert_maker.proofs.CheckRows.{ask, taken_row, update}
use Rattle.cert_maker.proofs.ClausesAlike.{clause_alike}
use Rattle.cert_maker.proofs.Roles.{IsNoted, call_note, held_noted, owed_wide, result_told}
use Rattle.cert_maker.proofs.Rows.{owed_keeps, called, granted_calls}
use Rattle.cert_maker.proofs.Same.{same_bool, same_number}
use Rattle.cert_maker.proofs.Shapes.{held, pushed, stored}
use Rattle.block_template.proofs.Suits.{Suits}

module _ (b : Blocked) where
  -- what comes after the call, or where it throws, once its result is kept
  kept_told : (c : Clause) → (clauses b).after ≡ Some c → (k : Bool) → is_some c.result ≡ k → asks_kept b.policy (site b After) ≡ k
  kept_told c e k is = result_told b c e ∙ is

  -- The update is due, with the lock held: its check begins.
  due_held : (p : Phase) (clause : Clause) → clause_in (clauses b) p ≡ Some clause → (kept : Bool) → asks_kept b.policy (site b p) ≡ kept
      → Arrives b (Given (notes.Owed (site b p) 1 kept false)) (tries p 0 clause.branches)
  due_held p clause e kept is =
      tries_arrives b (Given (notes.Owed (site b p) 1 kept false)) p clause e 0 (omega arith)
      (owed_wide b p kept (ap is_some (clause_of_site b p ∙ e)) is)

  -- It is due, with the lock to be taken.
  due_free : (p : Phase) (kept : Bool) → note b (roles.Lock p false) ≡ notes.Owed (site b p) 0 (asks_kept b.policy (site b p)) false
      → asks_kept b.policy (site b p) ≡ kept → Arrives b (Given (notes.Owed (site b p) 0 kept false)) (roles.Lock p false)
  due_free p kept e is =
      same_inside b (notes.Owed (site b p) 0 kept false) (roles.Lock p false)
      (e ∙ ap (λ (k : Bool). notes.Owed (site b p) 0 k false) is)

  abbrev pub stage_of : Bool → ℕ
  stage_of locked = cond locked 1 0

  due : (mode : Mode) (p : Phase) (clause : Clause) → clause_in (clauses b) p ≡ Some clause
      → note b (roles.Lock p false) ≡ notes.Owed (site b p) 0 (asks_kept b.policy (site b p)) false
      → (kept : Bool) → asks_kept b.policy (site b p) ≡ kept
      → Arrives b (Given (notes.Owed (site b p) (stage_of (is_locked mode)) kept false)) (check_after mode p clause)
  due Release p clause e canonical kept is = due_free p kept canonical is
  due Hold p clause e canonical kept is = due_held p clause e kept is

  -- ---- where the call returns

  after_is : clause_at b.policy (site b Before).method sites.After ≡ (clauses b).after
  after_is = ap (λ (m : ℕ). clause_at b.policy m sites.After) b.few ∙ clause_alike b.policy b.call.callee After

  exceptional_is : clause_at b.policy (site b Before).method sites.Exceptional ≡ (clauses b).exceptional
  exceptional_is = ap (λ (m : ℕ). clause_at b.policy m sites.Exceptional) b.few ∙ clause_alike b.policy b.call.callee Exceptional

  keeps_or_checks : (mode : Mode) (c : Clause) → (clauses b).after ≡ Some c → (k : Bool) → is_some c.result ≡ k
      → Arrives b (Given (notes.Owed (site b After) (stage_of (is_locked mode)) false false))
      (cond k (roles.Keep (is_locked mode)) (check_after mode After c))
  keeps_or_checks mode c e true is = same_inside b (notes.Owed (site b After) (stage_of (is_locked mode)) false false) (roles.Keep (is_locked mode)) refl
  keeps_or_checks mode c e false is = due mode After c e refl false (kept_told c e false is)

  abbrev held_round : Mode → Bool
  held_round mode = holds_round (held_in mode) (site b Before).method

  abbrev following : Mode → Option Clause → Asked
  following mode o =
      cond (held_round mode) (Given (notes.Owed (site b After) 1 false false))
      (cond (is_some o) (Given (notes.Owed (site b After) 0 false false)) Open)

  returns_by : (mode : Mode) (o : Option Clause) → (clauses b).after ≡ o → Arrives b (following mode o) (after_return mode o)
  returns_by Release None e = refl
  returns_by Hold None e = same_inside b (notes.Owed (site b After) 1 false false) (roles.Unlock After false false) refl
  returns_by Release (Some c) e = keeps_or_checks Release c e (is_some c.result) refl
  returns_by Hold (Some c) e = keeps_or_checks Hold c e (is_some c.result) refl

  pub returns : Arrives b (rows.returned (rules b) (site b Before)) (after_return b.mode (clauses b).after)
  returns =
      subst (λ (o : Option Clause). Arrives b (following b.mode o) (after_return b.mode (clauses b).after)) (sym after_is)
      (returns_by b.mode (clauses b).after refl)

  -- ---- where it throws

  abbrev where_thrown : Mode → Option Clause → Asked
  where_thrown mode o =
      cond (held_round mode || is_some o) (Given (notes.Owed (site b Exceptional) (rows.stage_after (held_round mode)) false false)) Open

  throws_by : (mode : Mode) (o : Option Clause) → (clauses b).exceptional ≡ o → catches mode o ≡ true
      → Arrives b (where_thrown mode o) (thrown mode o)
  throws_by Release None e caught = absurd (false≢true caught)
  throws_by Hold None e caught = same_inside b (notes.Owed (site b Exceptional) 1 false false) (roles.Unlock Exceptional false false) refl
  throws_by Release (Some c) e caught = due_free Exceptional false refl refl
  throws_by Hold (Some c) e caught = due_held Exceptional c e false refl

  pub throws : catches b.mode (clauses b).exceptional ≡ true → Arrives b (rows.thrown (rules b) (site b Before)) (thrown b.mode (clauses b).exceptional)
  throws caught =
      subst (λ (o : Option Clause). Arrives b (where_thrown b.mode o) (thrown b.mode (clauses b).exceptional)) (sym exceptional_is)
      (throws_by b.mode (clauses b).exceptional refl caught)

  passes_by : (mode : Mode) (o : Option Clause) → catches mode o ≡ false → where_thrown mode o ≡ Open
  passes_by Release None caught = refl
  passes_by Hold None caught = absurd (false≢true (sym caught))
  passes_by Release (Some c) caught = absurd (false≢true (sym caught))
  passes_by Hold (Some c) caught = absurd (false≢true (sym caught))

  -- Where nothing is caught, nothing is due.
  pub throws_on : catches b.mode (clauses b).exceptional ≡ false → rows.thrown (rules b) (site b Before) ≡ Open
  throws_on caught = ap (where_thrown b.mode) exceptional_is ∙ passes_by b.mode (clauses b).exceptional caught

  -- ---- the call

  hold_is : (mode : Mode) → held_round mode ≡ is_locked mode
  hold_is Hold = refl
  hold_is Release = refl

  abbrev pub granted : Note
  granted = notes.Granted (site b Before) (held_round b.mode) (needs b.policy (site b Before).method) false

  pub call_told : (locked : Bool) → locked ≡ is_locked b.mode → note b (roles.Call locked) ≡ granted
  call_told locked is =
      call_note b locked
      ∙ ap (λ (l : Bool). notes.Granted (site b Before) l (needs b.policy (site b Before).method) false) (is ∙ sym (hold_is b.mode))

  pub call_row : (how : How) → rows.row (rules b) granted (shapes.Heap (heap.Call how)) (target.ApiMethod b.call.callee) ≡ Some (called (rules b) (site b Before))
  call_row how =
      ap (λ (m : ℕ). rows.row (rules b) granted (shapes.Heap (heap.Call how)) (target.ApiMethod m)) (sym b.few)
      ∙ granted_calls (rules b) (site b Before) how

  pub call_granted : is_granted (rules b) (target.ApiMethod b.call.callee) granted ≡ true
  call_granted =
      let same : (b.call.callee == (site b Before).method) ≡ true =
      ap (λ (m : ℕ). b.call.callee == m) b.few ∙ same_number b.call.callee in
      rw (same, same_number (needs b.policy (site b Before).method), same_bool (held_round b.mode)) refl

-- ---- all roles but the call's

module _ (b : Blocked) (pool : List Const) (fronts : List ℕ) (begin : ℕ) (own : Insn) (ref : Target) where
  abbrev Is : Role → BlockInsn → Type 0
  Is role x = IsNoted b pool fronts begin own ref role x

  abbrev base : ℕ
  base = b.call.base

  abbrev bools : List Bool
  bools = bools_of b.policy

  -- The result is kept.
  keep_next : (locked : Bool) → locked ≡ is_locked b.mode → (o : Option Clause) → (clauses b).after ≡ o → is_some (option_and_then (λ (c : Clause). c.result) o) ≡ true
      → Arrives b (Given (notes.Owed (site b After) (stage_of b locked) true false)) (kept_by b.mode o)
  keep_next locked is None e some = absurd (false≢true some)
  keep_next locked is (Some c) e some =
      subst (λ (l : Bool). Arrives b (Given (notes.Owed (site b After) (stage_of b l) true false)) (check_after b.mode After c)) (sym is)
      (due b b.mode After c e refl true (kept_told b c e true some))

  keeps_told : (o : Option Clause) → (clauses b).after ≡ o → is_some (option_and_then (λ (c : Clause). c.result) o) ≡ true
      → is_some (result_kind b.policy (site b After).method) ≡ true
  keeps_told None e some = absurd (false≢true some)
  keeps_told (Some c) e some = result_told b c e ∙ some

  early : (locked : Bool) → nat_lt (stage_of b locked) 2 ≡ true
  early true = refl
  early false = refl

  keep : (locked : Bool) (kind : Kind) → locked ≡ is_locked b.mode → result_in (clauses b) ≡ Some kind → Is (roles.Keep locked) (store_insn kind base)
  keep locked kind is e =
      let x : BlockInsn = store_insn kind base in
      let does = stored pool fronts begin own b.state ref kind base in
      let some : is_some (result_in (clauses b)) ≡ true = ap is_some e in
      held_noted b pool fronts begin own ref (roles.Keep locked) x (notes.Owed (site b After) (stage_of b locked) false false) refl refl (ap calls does.is) _
      (of_does b pool fronts begin own ref (rows.row (rules b) (notes.Owed (site b After) (stage_of b locked) false false)) x
      (shapes.Store (held kind) base) target.None does
      ∙ owed_keeps (rules b) (site b After) (stage_of b locked) (held kind) target.None refl (early locked) (keeps_told (clauses b).after refl some))
      (λ p. keep_next locked is (clauses b).after refl some) (λ j. tt) refl

  -- ---- lookups

  each_of : (role : Role) (f : Kind → BlockInsn) (o : Option Kind) (x : BlockInsn) → option_map f o ≡ Some x
      → ((kind : Kind) → o ≡ Some kind → Is role (f kind)) → Is role x
  each_of role f None x e all = absurd cc
  each_of role f (Some kind) x e all = subst (Is role) (some_is (f kind) x e) (all kind refl)

  so : (role : Role) (y x : BlockInsn) → ◌≡◌ {A = Option BlockInsn} (Some y) (Some x) → Is role y → Is role x
  so role y x e is = subst (Is role) (some_is y x e) is

  ask_of : (p : Phase) (n m to done : ℕ) (x : BlockInsn) (o : Option Branch) → branch_in (clauses b) p n ≡ o
      → step_insn bools base to (option_map_or ask_steps (option_and_then (λ (c : Branch). slice_get c.atoms m) o) []) done ≡ Some x
      → Is (roles.Ask p n m done) x
  ask_of p n m to done x None e f = absurd cc
  ask_of p n m to done x (Some branch) e f = by (slice_get branch.atoms m) refl f
    where
      by : (o : Option Atom) → slice_get branch.atoms m ≡ o → step_insn bools base to (option_map_or ask_steps o []) done ≡ Some x
          → Is (roles.Ask p n m done) x
      by None g f = absurd cc
      by (Some atom) g f = ask b pool fronts begin own ref p n branch (branch_is b p n branch e) m atom g to done x f

  update_of : (p : Phase) (n u done : ℕ) (x : BlockInsn) (o : Option Branch) → branch_in (clauses b) p n ≡ o
      → step_insn bools 0 0 (option_map_or update_steps (option_and_then (λ (c : Branch). slice_get c.updates u) o) []) done ≡ Some x
      → Is (roles.Update p n u done) x
  update_of p n u done x None e f = absurd cc
  update_of p n u done x (Some branch) e f = by (slice_get branch.updates u) refl f
    where
      by : (o : Option Update) → slice_get branch.updates u ≡ o → step_insn bools 0 0 (option_map_or update_steps o []) done ≡ Some x
          → Is (roles.Update p n u done) x
      by None g f = absurd cc
      by (Some what) g f = update b pool fronts begin own ref p n branch (branch_is b p n branch e) u done what x g f

  -- ---- the law

  taken_of : (p : Phase) (n to : ℕ) (o : Option Branch) → branch_in (clauses b) p n ≡ o → is_some o ≡ true → Is (roles.Taken p n) (Jump GOTO to)
  taken_of p n to None e some = absurd (false≢true some)
  taken_of p n to (Some branch) e some = taken_row b pool fronts begin own ref p n branch (branch_is b p n branch e) to

  pub noted : (role : Role) (x : BlockInsn) (end to : ℕ) → insn_of bools base (clauses b) end to role ≡ Some x → is_call x ≡ false
      → Suits b.mode (clauses b) role → Is role x
  noted (roles.Save zero) x end to e other suits = absurd cc
  noted (roles.Save (suc n)) x end to e other suits =
      each_of (roles.Save (suc n)) (λ (k : Kind). store_insn k (base + n)) (argument_at (clauses b) n) x e (λ kind f. save b pool fronts begin own ref n kind)
  noted (roles.Lock p false) x end to e other suits = so (roles.Lock p false) _ x e (lock_class b pool fronts begin own ref p)
  noted (roles.Lock p true) x end to e other suits = so (roles.Lock p true) _ x e (lock_taken b pool fronts begin own ref p)
  noted (roles.Ask p n m done) x end to e other suits = ask_of p n m to done x (branch_in (clauses b) p n) refl e
  noted (roles.Update p n u done) x end to e other suits = update_of p n u done x (branch_in (clauses b) p n) refl e
  noted (roles.Taken p n) x end to e other suits = so (roles.Taken p n) _ x e (taken_of p n to (branch_in (clauses b) p n) refl suits)
  noted (roles.Stop p done) x end to e other suits = stop b pool fronts begin own ref p done x e
  noted (roles.Unlock p checked false) x end to e other suits =
      so (roles.Unlock p checked false) _ x e (unlock_class b pool fronts begin own ref p checked suits)
  noted (roles.Unlock p checked true) x end to e other suits =
      so (roles.Unlock p checked true) _ x e (unlock_left b pool fronts begin own ref p checked suits)
  noted (roles.Load n locked) x end to e other suits =
      each_of (roles.Load n locked) (λ (k : Kind). load_insn k (base + n)) (argument_at (clauses b) n) x e
      (λ kind f. load b pool fronts begin own ref n locked kind f)
  noted (roles.Call locked) x end to e other suits =
      absurd (false≢true (sym (subst (λ (i : BlockInsn). is_call i ≡ false) (sym (some_is Call x e)) other)))
  noted (roles.Keep locked) x end to e other suits =
      each_of (roles.Keep locked) (λ (k : Kind). store_insn k base) (result_in (clauses b)) x e (λ kind f. keep locked kind suits f)
  noted roles.Give x end to e other suits =
      each_of roles.Give (λ (k : Kind). load_insn k base) (result_in (clauses b)) x e (λ kind f. give b pool fronts begin own ref kind)
  noted roles.Leave x end to e other suits = so roles.Leave _ x e (leave b pool fronts begin own ref end)
  noted roles.Rethrow x end to e other suits = so roles.Rethrow _ x e (rethrow b pool fronts begin own ref)
  noted roles.Unreached x end to e other suits = absurd cc
