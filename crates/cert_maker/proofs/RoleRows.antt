-- Each role of a block: its instruction has a row of its note, and what comes next meets it.
use Rattle.std.proofs.Common.{◌≡◌, ℕ, zero, suc, ◌+◌, ◌<◌, pos, Bool, true, false, cond, List, [], length, Option, Some, None, refl, sym, ap, subst, ◌∙◌, arith}
use Rattle.std.specs.Prelude.{◌==◌, is_some, nat_lt}
use Rattle.std.specs.Option.{option_map_or}
use Rattle.std.proofs.lemmas.Bool.{false≢true, lt-ltb}
use Rattle.class_codec.specs.declared.tree.Const.{Const}
use Rattle.insn_codec.specs.declared.insn.Insn.{Insn}
use Rattle.insn_codec.specs.declared.opcodes.TheConstants.{ATHROW, GOTO, INVOKESTATIC, LDC_W, MONITORENTER, MONITOREXIT, ACONST_NULL}
use Rattle.insn_codec.specs.declared.shape.Heap.TheVariants as heap
use Rattle.insn_codec.specs.declared.shape.Shape.{Shape}
use Rattle.insn_codec.specs.declared.shape.Shape.TheVariants as shapes
use Rattle.insn_codec.specs.Shapes.{shape_of}
use Rattle.bytecode_model.specs.declared.program.Target.{Target}
use Rattle.bytecode_model.specs.declared.program.Target.TheVariants as target
use Rattle.bytecode_model.proofs.Lists.{some_is}
use Rattle.cert_format.specs.declared.note.Note.{Note}
use Rattle.cert_format.specs.declared.note.Note.TheVariants as notes
use Rattle.conspec_tree.specs.declared.types.Kind.{Kind}
use Rattle.conspec_tree.specs.declared.types.Phase.{Phase}
use Rattle.conspec_tree.specs.declared.types.Phase.TheVariants.{Before, After, Exceptional}
use Rattle.conspec_automaton.specs.declared.policy.Clause.{Clause}
use Rattle.conspec_automaton.specs.Next.{has_clauses}
use Rattle.offset_patch.specs.declared.block.BlockInsn.{BlockInsn}
use Rattle.offset_patch.specs.declared.block.BlockInsn.TheVariants.{Plain, Byte, Want, Jump}
use Rattle.offset_patch.specs.declared.block.PoolWant.TheVariants.{StateClass, Exit}
use Rattle.offset_patch.specs.Entries.{state_name}
use Rattle.block_template.specs.declared.item.Role.{Role}
use Rattle.block_template.specs.declared.item.Role.TheVariants as roles
use Rattle.block_template.specs.Flow.{argument_at, clause_in, keeps_result, locked_for, saving, stop_insn, unlocked_in}
use Rattle.block_template.specs.Frames.{kept_arguments}
use Rattle.block_template.specs.Pushing.{load as load_insn, store as store_insn}
use Rattle.block_logic.specs.Clauses.{clause_of, needs}
use Rattle.block_logic.specs.Operands.{calls, pushes_state}
use Rattle.block_logic.specs.Rows as rows
use Rattle.block_logic.specs.Rows.{Given, Open, Taking, may_leave, may_push, note_taken}
use Rattle.block_logic.specs.Weakening.{asks_kept, begun, done}
use Rattle.block_logic.specs.Terms.{as_taken}
use Rattle.cert_maker.proofs.Checks.{Arrives, Blocked, clause_of_site, clauses, held_wide, note, rules, same_inside, site, tries_arrives}
use Rattle.cert_maker.proofs.Roles.{IsNoted, argument_few, byte_is, call_note, count_is, exit_is, few_arguments, free_noted, granted_wide, held_noted, loading_arrives}
use Rattle.cert_maker.proofs.Rows.{granted_leaves, granted_loads, granted_pushes, owed_enters, owed_leaves, owed_pushes}
use Rattle.cert_maker.proofs.Shapes.{Does, held, loaded, named, placed, stored}

module _ (b : Blocked) (pool : List Const) (fronts : List ℕ) (begin : ℕ) (own : Insn) (ref : Target) where
  abbrev Is : Role → BlockInsn → Type 0
  Is role x = IsNoted b pool fronts begin own ref role x

  abbrev base : ℕ
  base = b.call.base

  abbrev at_place : BlockInsn → Insn
  at_place x = placed pool fronts begin own b.state ref x

  abbrev names : BlockInsn → Target
  names x = named pool fronts begin own b.state ref x

  never : {X : Type 0} → false ≡ true → X
  never e = absurd (false≢true e)

  -- one thing that comes of what an instruction does
  pub of_does : {X : Type 0} (f : Shape → Target → X) (x : BlockInsn) (s : Shape) (t : Target) → Does (at_place x) (names x) s t
      → f (shape_of (at_place x)) (names x) ≡ f s t
  of_does f x s t does = ap (λ (u : Shape). f u (names x)) does.is ∙ ap (f s) does.names

  -- ---- arguments

  saving_opens : (n : ℕ) → Arrives b Open (saving n)
  saving_opens zero = refl
  saving_opens (suc n) = refl

  pub save : (n : ℕ) (kind : Kind) → Is (roles.Save (suc n)) (store_insn kind (base + n))
  save n kind =
      let x : BlockInsn = store_insn kind (base + n) in
      let does = stored pool fronts begin own b.state ref kind (base + n) in
      free_noted b pool fronts begin own ref (roles.Save (suc n)) x refl (ap calls does.is)
      (of_does pushes_state x (shapes.Store (held kind) (base + n)) target.None does) does.names (saving_opens n) tt

  pub load : (n : ℕ) (locked : Bool) (kind : Kind) → argument_at (clauses b) n ≡ Some kind → Is (roles.Load n locked) (load_insn kind (base + n))
  load n locked kind e =
      let x : BlockInsn = load_insn kind (base + n) in
      let does = loaded pool fronts begin own b.state ref kind (base + n) in
      let less : n < kept_arguments (clauses b) = argument_few b n kind e in
      let few : nat_lt n (needs b.policy (site b Before).method) ≡ true = lt-ltb _ _ (omega (arith, less, count_is b)) in
      held_noted b pool fronts begin own ref (roles.Load n locked) x (notes.Granted (site b Before) locked n false)
      (ap (λ (m : ℕ). notes.Granted (site b Before) locked m false) (byte_is b n (omega (arith, less, few_arguments b)))) refl (ap calls does.is) _
      (of_does (rows.row (rules b) (notes.Granted (site b Before) locked n false)) x (shapes.Load (held kind) (base + n)) target.None does
      ∙ granted_loads (rules b) (site b Before) locked n (held kind) target.None few)
      (λ p. loading_arrives b (Given (notes.Granted (site b Before) locked (n + 1) false)) (n + 1) locked (omega (arith, less))
      (granted_wide b (n + 1) locked)) (λ j. tt) refl

  -- ---- the lock is taken

  lock_free : Is (roles.Lock Before false) (Want LDC_W StateClass)
  lock_free = record {
    row = record { past = Taking; jump = Taking; thrown = Open };
    is = refl;
    variable = λ free. refl;
    pushes = λ free class. (refl, refl);
    called = λ at. refl;
    catches = refl;
    passes = λ p. ap (has_clauses b.policy) b.few ∙ b.has;
    lands = λ j. tt;
    thrown = refl;
  }

  lock_owed : (p : Phase) (kept : Bool) → note b (roles.Lock p false) ≡ notes.Owed (site b p) 0 kept false
      → note b (roles.Lock p true) ≡ notes.Owed (site b p) 0 kept true → Is (roles.Lock p false) (Want LDC_W StateClass)
  lock_owed p kept e f =
      held_noted b pool fronts begin own ref (roles.Lock p false) (Want LDC_W StateClass) (notes.Owed (site b p) 0 kept false) e refl refl _
      (owed_pushes (rules b) (site b p) 0 kept (shapes.Heap heap.Constant) (target.ClassName state_name) refl refl refl)
      (λ q. same_inside b (notes.Owed (site b p) 0 kept true) (roles.Lock p true) f) (λ j. tt) refl

  pub lock_class : (p : Phase) → Is (roles.Lock p false) (Want LDC_W StateClass)
  lock_class Before = lock_free
  lock_class After = lock_owed After (asks_kept b.policy (site b After)) refl refl
  lock_class Exceptional = lock_owed Exceptional (asks_kept b.policy (site b Exceptional)) refl refl

  pub begins : (p : Phase) (clause : Clause) → clause_in (clauses b) p ≡ Some clause
      → Arrives b (Given (begun b.policy (site b p))) (locked_for (Some clause) p)
  begins p clause e =
      tries_arrives b (Given (begun b.policy (site b p))) p clause e 0 (omega arith) (held_wide b 0 p 0 (as_taken b.policy))

  taken_for : (o : Option Clause) → (clauses b).before ≡ o → Arrives b (Given (note_taken b.policy (site b Before))) (locked_for o Before)
  taken_for o e = by o e (ap is_some (clause_of_site b Before ∙ e))
    where
      by : (o : Option Clause) → (clauses b).before ≡ o → is_some (clause_of b.policy (site b Before)) ≡ is_some o
          → Arrives b (Given (note_taken b.policy (site b Before))) (locked_for o Before)
      by (Some clause) e is =
          let what : note_taken b.policy (site b Before) ≡ begun b.policy (site b Before) =
          ap (λ (c : Bool). cond c (begun b.policy (site b Before)) (notes.Granted (site b Before) true 0 false)) is in
          subst (λ (n : Note). Arrives b (Given n) (locked_for (Some clause) Before)) (sym what) (begins Before clause e)
      by None e is =
          let what : note_taken b.policy (site b Before) ≡ notes.Granted (site b Before) true 0 false =
          ap (λ (c : Bool). cond c (begun b.policy (site b Before)) (notes.Granted (site b Before) true 0 false)) is in
          let none : kept_arguments (clauses b) ≡ 0 = ap (λ (o : Option Clause). length (option_map_or (λ (c : Clause). c.args) o [])) e in
          subst (λ (n : Note). Arrives b (Given n) (roles.Call true)) (sym what)
          (same_inside b (notes.Granted (site b Before) true 0 false) (roles.Call true)
          (call_note b true ∙ ap (λ (m : ℕ). notes.Granted (site b Before) true m false) (count_is b ∙ none)))

  lock_before : Is (roles.Lock Before true) (Plain MONITORENTER)
  lock_before =
      held_noted b pool fronts begin own ref (roles.Lock Before true) (Plain MONITORENTER) (notes.Taking (site b Before)) refl refl refl _ refl
      (λ p. taken_for (clauses b).before refl) (λ j. tt) refl

  begins_of : (p : Phase) → (p ≡ Before → ⊥) → (o : Option Clause) → clause_in (clauses b) p ≡ o
      → Arrives b (Given (begun b.policy (site b p))) (locked_for o p)
  begins_of p other (Some clause) e = begins p clause e
  begins_of Before other None e = absurd (other refl)
  begins_of After other None e = tt
  begins_of Exceptional other None e = tt

  lock_after : (p : Phase) → (p ≡ Before → ⊥) → note b (roles.Lock p true) ≡ notes.Owed (site b p) 0 (asks_kept b.policy (site b p)) true
      → Is (roles.Lock p true) (Plain MONITORENTER)
  lock_after p other e =
      held_noted b pool fronts begin own ref (roles.Lock p true) (Plain MONITORENTER)
      (notes.Owed (site b p) 0 (asks_kept b.policy (site b p)) true) e refl refl _
      (owed_enters (rules b) (site b p) (asks_kept b.policy (site b p)) target.None refl)
      (λ q. begins_of p other (clause_in (clauses b) p) refl) (λ j. tt) refl

  pub lock_taken : (p : Phase) → Is (roles.Lock p true) (Plain MONITORENTER)
  lock_taken Before = lock_before
  lock_taken After = lock_after After (λ e. absurd cc) refl
  lock_taken Exceptional = lock_after Exceptional (λ e. absurd cc) refl

  -- ---- the lock is left

  unlock_before : (checked : Bool) → Is (roles.Unlock Before checked false) (Want LDC_W StateClass)
  unlock_before checked =
      held_noted b pool fronts begin own ref (roles.Unlock Before checked false) (Want LDC_W StateClass) (notes.Granted (site b Before) true 0 false)
      refl refl refl _
      (granted_pushes (rules b) (site b Before) 0 (shapes.Heap heap.Constant) (target.ClassName state_name) refl refl)
      (λ p. same_inside b (notes.Granted (site b Before) true 0 true) (roles.Unlock Before checked true) refl) (λ j. tt) refl

  left_before : (checked : Bool) → Is (roles.Unlock Before checked true) (Plain MONITOREXIT)
  left_before checked =
      held_noted b pool fronts begin own ref (roles.Unlock Before checked true) (Plain MONITOREXIT) (notes.Granted (site b Before) true 0 true)
      refl refl refl _ (granted_leaves (rules b) (site b Before) 0 target.None)
      (λ p. loading_arrives b (Given (notes.Granted (site b Before) false 0 false)) 0 false (omega arith) (granted_wide b 0 false)) (λ j. tt) refl

  -- What comes once the lock is left is in no block.
  unlocked_opens : (p : Phase) → (p ≡ Before → ⊥) → Arrives b Open (unlocked_in (clauses b) p)
  unlocked_opens Before other = absurd (other refl)
  unlocked_opens After other = by (keeps_result (clauses b))
    where
      by : (c : Bool) → Arrives b Open (cond c roles.Give roles.Leave)
      by true = refl
      by false = refl
  unlocked_opens Exceptional other = refl

  module _ (p : Phase) (other : p ≡ Before → ⊥) (checked : Bool) (stage : ℕ) (kept : Bool)
      (first : note b (roles.Unlock p checked false) ≡ notes.Owed (site b p) stage kept false)
      (second : note b (roles.Unlock p checked true) ≡ notes.Owed (site b p) stage kept true)
      (push : may_push b.policy (site b p) stage ≡ true) (leave : may_leave b.policy (site b p) stage ≡ true)
      (late : (stage == 0) ≡ false) where
    unlock_owed : Is (roles.Unlock p checked false) (Want LDC_W StateClass)
    unlock_owed =
        held_noted b pool fronts begin own ref (roles.Unlock p checked false) (Want LDC_W StateClass) (notes.Owed (site b p) stage kept false)
        first refl refl _
        (owed_pushes (rules b) (site b p) stage kept (shapes.Heap heap.Constant) (target.ClassName state_name) refl push refl)
        (λ q. same_inside b (notes.Owed (site b p) stage kept true) (roles.Unlock p checked true) second) (λ j. tt) refl

    left_owed : Is (roles.Unlock p checked true) (Plain MONITOREXIT)
    left_owed =
        held_noted b pool fronts begin own ref (roles.Unlock p checked true) (Plain MONITOREXIT) (notes.Owed (site b p) stage kept true)
        second refl refl _
        (owed_leaves (rules b) (site b p) stage kept (shapes.Heap heap.Exit) target.None refl leave late refl)
        (λ q. unlocked_opens p other) (λ j. tt) refl

  unchecked : (p : Phase) → false ≡ is_some (clause_in (clauses b) p) → is_some (clause_of b.policy (site b p)) ≡ false
  unchecked p suits = ap is_some (clause_of_site b p) ∙ sym suits

  push_unchecked : (p : Phase) → false ≡ is_some (clause_in (clauses b) p) → may_push b.policy (site b p) 1 ≡ true
  push_unchecked p suits = rw (unchecked p suits) refl

  leave_unchecked : (p : Phase) → false ≡ is_some (clause_in (clauses b) p) → may_leave b.policy (site b p) 1 ≡ true
  leave_unchecked p suits = rw (unchecked p suits) refl

  pub unlock_class : (p : Phase) (checked : Bool) → checked ≡ is_some (clause_in (clauses b) p) → Is (roles.Unlock p checked false) (Want LDC_W StateClass)
  unlock_class Before checked suits = unlock_before checked
  unlock_class After true suits = unlock_owed After (λ e. absurd cc) true 2 (asks_kept b.policy (site b After)) refl refl refl refl refl
  unlock_class After false suits =
      unlock_owed After (λ e. absurd cc) false 1 false refl refl (push_unchecked After suits) (leave_unchecked After suits) refl
  unlock_class Exceptional true suits =
      unlock_owed Exceptional (λ e. absurd cc) true 2 (asks_kept b.policy (site b Exceptional)) refl refl refl refl refl
  unlock_class Exceptional false suits =
      unlock_owed Exceptional (λ e. absurd cc) false 1 false refl refl (push_unchecked Exceptional suits) (leave_unchecked Exceptional suits) refl

  pub unlock_left : (p : Phase) (checked : Bool) → checked ≡ is_some (clause_in (clauses b) p) → Is (roles.Unlock p checked true) (Plain MONITOREXIT)
  unlock_left Before checked suits = left_before checked
  unlock_left After true suits = left_owed After (λ e. absurd cc) true 2 (asks_kept b.policy (site b After)) refl refl refl refl refl
  unlock_left After false suits =
      left_owed After (λ e. absurd cc) false 1 false refl refl (push_unchecked After suits) (leave_unchecked After suits) refl
  unlock_left Exceptional true suits =
      left_owed Exceptional (λ e. absurd cc) true 2 (asks_kept b.policy (site b Exceptional)) refl refl refl refl refl
  unlock_left Exceptional false suits =
      left_owed Exceptional (λ e. absurd cc) false 1 false refl refl (push_unchecked Exceptional suits) (leave_unchecked Exceptional suits) refl

  -- ---- the way out

  pub stop : (p : Phase) (done : ℕ) (x : BlockInsn) → stop_insn done ≡ Some x → Is (roles.Stop p done) x
  stop p zero x e =
      subst (Is (roles.Stop p 0)) (some_is (Byte (pos 77)) x e)
      (held_noted b pool fronts begin own ref (roles.Stop p 0) (Byte (pos 77)) (notes.Stop (site b p) 0) refl refl refl _ refl
      (λ q. same_inside b (notes.Stop (site b p) 1) (roles.Stop p 1) refl) (λ j. tt) refl)
  stop p (suc zero) x e =
      subst (Is (roles.Stop p 1)) (some_is (Want INVOKESTATIC Exit) x e) record {
        row = record { past = Given (notes.Stop (site b p) 2); jump = Given (notes.Stop (site b p) 2); thrown = Open };
        is = rw exit_is refl;
        variable = λ free. refl;
        pushes = λ free. never free;
        called = λ at. exit_is;
        catches = refl;
        passes = λ q. same_inside b (notes.Stop (site b p) 2) (roles.Stop p 2) refl;
        lands = λ j. tt;
        thrown = refl;
      }
  stop p (suc (suc zero)) x e =
      subst (Is (roles.Stop p 2)) (some_is (Plain ACONST_NULL) x e)
      (held_noted b pool fronts begin own ref (roles.Stop p 2) (Plain ACONST_NULL) (notes.Stop (site b p) 2) refl refl refl _ refl
      (λ q. same_inside b (notes.Stop (site b p) 3) (roles.Stop p 3) refl) (λ j. tt) refl)
  stop p (suc (suc (suc zero))) x e =
      subst (Is (roles.Stop p 3)) (some_is (Plain ATHROW) x e)
      (held_noted b pool fronts begin own ref (roles.Stop p 3) (Plain ATHROW) (notes.Stop (site b p) 3) refl refl refl _ refl
      (λ q. never q) (λ j. tt) refl)
  stop p (suc (suc (suc (suc done)))) x e = absurd cc

  -- ---- where the block is left

  pub give : (kind : Kind) → Is roles.Give (load_insn kind base)
  give kind =
      let x : BlockInsn = load_insn kind base in
      let does = loaded pool fronts begin own b.state ref kind base in
      free_noted b pool fronts begin own ref roles.Give x refl (ap calls does.is)
      (of_does pushes_state x (shapes.Load (held kind) base) target.None does) does.names refl tt

  pub leave : (end : ℕ) → Is roles.Leave (Jump GOTO end)
  leave end = free_noted b pool fronts begin own ref roles.Leave (Jump GOTO end) refl refl refl refl tt refl

  pub rethrow : Is roles.Rethrow (Plain ATHROW)
  rethrow = free_noted b pool fronts begin own ref roles.Rethrow (Plain ATHROW) refl refl refl refl tt tt
