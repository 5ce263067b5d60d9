-- From what is reached in a block control comes to what is reached alone.
use Rattle.std.proofs.Common.{
  ◌≡◌,
  ℕ,
  zero,
  suc,
  ◌+◌,
  Bool,
  true,
  false,
  cond,
  List,
  [],
  length,
  Option,
  Some,
  None,
  refl,
  sym,
  ap,
  subst,
  ◌∙◌,
  ◌⊎◌,
  inl,
  inr,
}
use Rattle.std.specs.Prelude.{IfSome, is_some, option_and_then, option_map, slice_get}
use Rattle.std.specs.Option.{option_map_or}
use Rattle.std.proofs.lemmas.Bool.{false≢true}
use Rattle.cert_format.specs.declared.certificate.Mode.{Mode}
use Rattle.cert_format.specs.declared.certificate.Mode.TheVariants.{Hold, Release}
use Rattle.conspec_tree.specs.declared.types.Atom.{Atom}
use Rattle.conspec_tree.specs.declared.types.Kind.{Kind}
use Rattle.conspec_tree.specs.declared.types.Phase.{Phase}
use Rattle.conspec_tree.specs.declared.types.Phase.TheVariants.{Before, After, Exceptional}
use Rattle.conspec_tree.specs.declared.types.Update.{Update}
use Rattle.conspec_tree.specs.declared.types.Update.TheVariants.{Set, Add}
use Rattle.conspec_automaton.specs.declared.policy.Branch.{Branch}
use Rattle.conspec_automaton.specs.declared.policy.Clause.{Clause}
use Rattle.bytecode_model.proofs.Lists.{all_get, some_is}
use Rattle.offset_patch.specs.declared.block.BlockInsn.{BlockInsn}
use Rattle.offset_patch.specs.declared.block.BlockInsn.TheVariants.{Plain, Jump}
use Rattle.insn_codec.specs.declared.opcodes.TheConstants.{GOTO, ATHROW}
use Rattle.block_template.specs.declared.item.Item.{Item}
use Rattle.block_template.specs.declared.item.Role.{Role}
use Rattle.block_template.specs.declared.item.Role.TheVariants as roles
use Rattle.block_template.specs.Blocks.{Clauses, catches, handler_at, items}
use Rattle.block_template.specs.Flow.{
  ask_goes,
  compared,
  branch_at,
  branches_in,
  check_after,
  checked_in,
  clause_in,
  entered,
  held,
  insn_of,
  jump_of,
  jumps,
  kept_by,
  loading,
  locked_for,
  made,
  may_pass,
  next,
  after_return,
  role_at,
  saving,
  stop_insn,
  thrown,
  tries,
  unlocked_in,
  update_at,
  update_goes,
  updated,
}
use Rattle.block_template.specs.Pushing.{load, store}
use Rattle.block_template.specs.Reached.{BlocksAreReached, IsReached}
use Rattle.block_template.specs.Steps.{ask_steps, step_insn, update_steps}
use Rattle.block_template.proofs.BlockFlows.{blocks_flow}
use Rattle.block_template.proofs.CheckFlows.{load_stays, push_stays, store_stays}
use Rattle.block_template.proofs.Suits.{Suits, items_suit}

-- ---- roles that come first

made_of : (phase : Phase) (n u : ℕ) (o : Option Update)
    → IsReached (option_map_or (λ (x : Update). roles.Update phase n u 0) o (roles.Taken phase n))
made_of phase n u None = λ e. absurd cc
made_of phase n u (Some x) = λ e. absurd cc

made_reached : (phase : Phase) (n u : ℕ) (branch : Branch) → IsReached (made phase n u branch)
made_reached phase n u branch = made_of phase n u (slice_get branch.updates u)

held_of : (phase : Phase) (n a : ℕ) (branch : Branch) (o : Option Atom)
    → IsReached (option_map_or (λ (x : Atom). roles.Ask phase n a 0) o (made phase n 0 branch))
held_of phase n a branch None = made_reached phase n 0 branch
held_of phase n a branch (Some x) = λ e. absurd cc

held_reached : (phase : Phase) (n a : ℕ) (branch : Branch) → IsReached (held phase n a branch)
held_reached phase n a branch = held_of phase n a branch (slice_get branch.atoms a)

tries_of : (phase : Phase) (n : ℕ) (o : Option Branch) → IsReached (option_map_or (held phase n 0) o (roles.Stop phase 0))
tries_of phase n None = λ e. absurd cc
tries_of phase n (Some branch) = held_reached phase n 0 branch

tries_reached : (phase : Phase) (n : ℕ) (bs : List Branch) → IsReached (tries phase n bs)
tries_reached phase n bs = tries_of phase n (slice_get bs n)

saving_reached : (n : ℕ) → IsReached (saving n)
saving_reached zero = λ e. absurd cc
saving_reached (suc n) = λ e. absurd cc

after_reached : (mode : Mode) (phase : Phase) (clause : Clause) → IsReached (check_after mode phase clause)
after_reached Release phase clause = λ e. absurd cc
after_reached Hold phase clause = tries_reached phase 0 clause.branches

either : (b : Bool) (x y : Role) → IsReached x → IsReached y → IsReached (cond b x y)
either true x y p q = p
either false x y p q = q

returned_reached : (mode : Mode) (o : Option Clause) → IsReached (after_return mode o)
returned_reached Release None = λ e. absurd cc
returned_reached Hold None = λ e. absurd cc
returned_reached Release (Some clause) =
    either (is_some clause.result) (roles.Keep false) (check_after Release After clause) (λ e. absurd cc)
    (after_reached Release After clause)
returned_reached Hold (Some clause) =
    either (is_some clause.result) (roles.Keep true) (check_after Hold After clause) (λ e. absurd cc) (after_reached Hold After clause)

entered_reached : (mode : Mode) (o : Option Clause) → IsReached (entered mode o)
entered_reached Release None = λ e. absurd cc
entered_reached Hold None = λ e. absurd cc
entered_reached Release (Some clause) = saving_reached (length clause.args)
entered_reached Hold (Some clause) = saving_reached (length clause.args)

thrown_reached : (mode : Mode) (o : Option Clause) → catches mode o ≡ true → IsReached (thrown mode o)
thrown_reached Release None e = absurd (false≢true e)
thrown_reached Hold None e = λ u. absurd cc
thrown_reached Release (Some clause) e = after_reached Release Exceptional clause
thrown_reached Hold (Some clause) e = after_reached Hold Exceptional clause

module _ (clauses : Clauses) where
  loading_of : (n : ℕ) (locked : Bool) (o : Option Kind)
      → IsReached (option_map_or (λ (k : Kind). roles.Load n locked) o (roles.Call locked))
  loading_of n locked None = λ e. absurd cc
  loading_of n locked (Some kind) = λ e. absurd cc

  loading_reached : (n : ℕ) (locked : Bool) → IsReached (loading clauses n locked)
  loading_reached n locked = loading_of n locked _

  checked_reached : (mode : Mode) (phase : Phase) → IsReached (checked_in mode clauses phase)
  checked_reached Release phase = λ e. absurd cc
  checked_reached Hold Before = loading_reached 0 true
  checked_reached Hold After = λ e. absurd cc
  checked_reached Hold Exceptional = λ e. absurd cc

  unlocked_reached : (phase : Phase) → IsReached (unlocked_in clauses phase)
  unlocked_reached Before = loading_reached 0 false
  unlocked_reached After = either _ roles.Give roles.Leave (λ e. absurd cc) (λ e. absurd cc)
  unlocked_reached Exceptional = λ e. absurd cc

  -- ---- locks

  locked_reached : (mode : Mode) (phase : Phase) (o : Option Clause) → clause_in clauses phase ≡ o → Suits mode clauses (roles.Lock phase true)
      → IsReached (locked_for o phase)
  locked_reached mode phase (Some clause) e suits = tries_reached phase 0 clause.branches
  locked_reached mode Before None e suits = λ u. absurd cc
  locked_reached mode After None e suits = absurd (false≢true (sym (ap is_some e) ∙ suits))
  locked_reached mode Exceptional None e suits = absurd (false≢true (sym (ap is_some e) ∙ suits))

  -- ---- what comes next

  module _ (mode : Mode) (bools : List Bool) (base end to : ℕ) where
    passing : {X : Type 0} → false ≡ true → X
    passing e = absurd (false≢true e)

    goes_by : (phase : Phase) (n u done : ℕ) (branch : Branch) (x : Update) → IsReached (update_goes phase n u done branch (Some x))
    goes_by phase n u done branch x =
        either _ (made phase n (u + 1) branch) (roles.Update phase n u (done + 1)) (made_reached phase n (u + 1) branch) (λ e. absurd cc)

    update_of : (phase : Phase) (n u done : ℕ) (insn : BlockInsn) (branch : Branch) (o : Option Update)
        → step_insn bools 0 0 (option_map_or update_steps o []) done ≡ Some insn → IsReached (update_goes phase n u done branch o)
    update_of phase n u done insn branch None e = absurd cc
    update_of phase n u done insn branch (Some x) e = goes_by phase n u done branch x

    updated_reached : (phase : Phase) (n u done : ℕ) (insn : BlockInsn) (o : Option Branch)
        → step_insn bools 0 0 (option_map_or update_steps (option_and_then (λ (b : Branch). slice_get b.updates u) o) []) done ≡ Some insn
        → IsReached (updated phase n u done o)
    updated_reached phase n u done insn None e = absurd cc
    updated_reached phase n u done insn (Some branch) e = update_of phase n u done insn branch (slice_get branch.updates u) e

    ask_by : (phase : Phase) (n m done : ℕ) (branch : Branch) (x : Atom) → IsReached (ask_goes phase n m done branch (Some x))
    ask_by phase n m done branch x =
        either _ (held phase n (m + 1) branch) (roles.Ask phase n m (done + 1)) (held_reached phase n (m + 1) branch) (λ e. absurd cc)

    ask_of : (phase : Phase) (n m done : ℕ) (insn : BlockInsn) (branch : Branch) (o : Option Atom)
        → step_insn bools base to (option_map_or ask_steps o []) done ≡ Some insn → IsReached (ask_goes phase n m done branch o)
    ask_of phase n m done insn branch None e = absurd cc
    ask_of phase n m done insn branch (Some x) e = ask_by phase n m done branch x

    compared_reached : (phase : Phase) (n m done : ℕ) (insn : BlockInsn) (o : Option Branch)
        → step_insn bools base to (option_map_or ask_steps (option_and_then (λ (b : Branch). slice_get b.atoms m) o) []) done ≡ Some insn
        → IsReached (compared phase n m done o)
    compared_reached phase n m done insn None e = absurd cc
    compared_reached phase n m done insn (Some branch) e = ask_of phase n m done insn branch (slice_get branch.atoms m) e

    kept_reached : (insn : BlockInsn) (o : Option Clause)
        → option_map (λ (k : Kind). store k base) (option_and_then (λ (c : Clause). c.result) o) ≡ Some insn → IsReached (kept_by mode o)
    kept_reached insn None e = absurd cc
    kept_reached insn (Some clause) e = after_reached mode After clause

    never_passes : (one insn : BlockInsn) → ◌≡◌ {A = Option BlockInsn} (Some one) (Some insn) → may_pass one ≡ false
        → may_pass insn ≡ true → ⊥
    never_passes one insn e stays passes = false≢true (sym stays ∙ ap may_pass (some_is one insn e) ∙ passes)

    pub next_reached : (role : Role) (insn : BlockInsn) → insn_of bools base clauses end to role ≡ Some insn → Suits mode clauses role
        → may_pass insn ≡ true → IsReached (next mode clauses role)
    next_reached (roles.Save zero) insn e suits passes = absurd cc
    next_reached (roles.Save (suc n)) insn e suits passes = saving_reached n
    next_reached (roles.Lock phase false) insn e suits passes = λ u. absurd cc
    next_reached (roles.Lock phase true) insn e suits passes = locked_reached mode phase (clause_in clauses phase) refl suits
    next_reached (roles.Ask phase n m done) insn e suits passes = compared_reached phase n m done insn (branch_at clauses phase n) e
    next_reached (roles.Update phase n u done) insn e suits passes = updated_reached phase n u done insn (branch_at clauses phase n) e
    next_reached (roles.Taken phase n) insn e suits passes = absurd (never_passes (Jump GOTO to) insn e refl passes)
    next_reached (roles.Stop phase done) insn e suits passes = λ u. absurd cc
    next_reached (roles.Unlock phase checked false) insn e suits passes = λ u. absurd cc
    next_reached (roles.Unlock phase checked true) insn e suits passes = unlocked_reached phase
    next_reached (roles.Load n locked) insn e suits passes = loading_reached (n + 1) locked
    next_reached (roles.Call locked) insn e suits passes = returned_reached mode clauses.after
    next_reached (roles.Keep locked) insn e suits passes = kept_reached insn clauses.after e
    next_reached roles.Give insn e suits passes = λ u. absurd cc
    next_reached roles.Leave insn e suits passes = absurd (never_passes (Jump GOTO end) insn e refl passes)
    next_reached roles.Rethrow insn e suits passes = absurd (never_passes (Plain ATHROW) insn e refl passes)
    next_reached roles.Unreached insn e suits passes = absurd cc

    -- ---- where it jumps

    -- It does not jump, or to what is reached.
    abbrev Lands : Role → BlockInsn → Type 0
    Lands role insn = (jump_of insn ≡ None) ⊎ IsReached (jumps mode clauses role)

    so : (role : Role) (one insn : BlockInsn) → ◌≡◌ {A = Option BlockInsn} (Some one) (Some insn) → jump_of one ≡ None → Lands role insn
    so role one insn e stays = inl (sym (ap jump_of (some_is one insn e)) ∙ stays)

    each_stays : (f : Kind → BlockInsn) (o : Option Kind) (insn : BlockInsn) → ((k : Kind) → jump_of (f k) ≡ None)
        → option_map f o ≡ Some insn → jump_of insn ≡ None
    each_stays f None insn stays e = absurd cc
    each_stays f (Some kind) insn stays e = sym (ap jump_of (some_is (f kind) insn e)) ∙ stays kind

    update_lands : (role : Role) (done : ℕ) (x : Update) (insn : BlockInsn) → step_insn bools 0 0 (update_steps x) done ≡ Some insn
        → Lands role insn
    update_lands role zero (Set var value) insn e = so role _ insn e (push_stays value)
    update_lands role (suc zero) (Set var value) insn e = so role _ insn e refl
    update_lands role (suc (suc done)) (Set var value) insn e = absurd cc
    update_lands role zero (Add var by) insn e = so role _ insn e refl
    update_lands role (suc zero) (Add var by) insn e = so role _ insn e (push_stays by)
    update_lands role (suc (suc zero)) (Add var by) insn e = so role _ insn e refl
    update_lands role (suc (suc (suc zero))) (Add var by) insn e = so role _ insn e refl
    update_lands role (suc (suc (suc (suc done)))) (Add var by) insn e = absurd cc

    update_in : (role : Role) (done : ℕ) (o : Option Update) (insn : BlockInsn)
        → step_insn bools 0 0 (option_map_or update_steps o []) done ≡ Some insn → Lands role insn
    update_in role done None insn e = absurd cc
    update_in role done (Some x) insn e = update_lands role done x insn e

    stop_lands : (role : Role) (done : ℕ) (insn : BlockInsn) → stop_insn done ≡ Some insn → Lands role insn
    stop_lands role zero insn e = so role _ insn e refl
    stop_lands role (suc zero) insn e = so role _ insn e refl
    stop_lands role (suc (suc zero)) insn e = so role _ insn e refl
    stop_lands role (suc (suc (suc zero))) insn e = so role _ insn e refl
    stop_lands role (suc (suc (suc (suc done)))) insn e = absurd cc

    pub lands : (role : Role) (insn : BlockInsn) → insn_of bools base clauses end to role ≡ Some insn → Lands role insn
    lands (roles.Save zero) insn e = absurd cc
    lands (roles.Save (suc n)) insn e = inl (each_stays (λ (k : Kind). store k (base + n)) _ insn (λ k. store_stays k (base + n)) e)
    lands (roles.Lock phase false) insn e = so (roles.Lock phase false) _ insn e refl
    lands (roles.Lock phase true) insn e = so (roles.Lock phase true) _ insn e refl
    lands (roles.Ask phase n m done) insn e = inr (tries_reached phase (n + 1) (branches_in clauses phase))
    lands (roles.Update phase n u done) insn e = update_in (roles.Update phase n u done) done (update_at clauses phase n u) insn e
    lands (roles.Taken phase n) insn e = inr (checked_reached mode phase)
    lands (roles.Stop phase done) insn e = stop_lands (roles.Stop phase done) done insn e
    lands (roles.Unlock phase checked false) insn e = so (roles.Unlock phase checked false) _ insn e refl
    lands (roles.Unlock phase checked true) insn e = so (roles.Unlock phase checked true) _ insn e refl
    lands (roles.Load n locked) insn e = inl (each_stays (λ (k : Kind). load k (base + n)) _ insn (λ k. load_stays k (base + n)) e)
    lands (roles.Call locked) insn e = so (roles.Call locked) _ insn e refl
    lands (roles.Keep locked) insn e = inl (each_stays (λ (k : Kind). store k base) _ insn (λ k. store_stays k base) e)
    lands roles.Give insn e = inl (each_stays (λ (k : Kind). load k base) _ insn (λ k. load_stays k base) e)
    lands roles.Leave insn e = inr (λ u. absurd cc)
    lands roles.Rethrow insn e = so roles.Rethrow _ insn e refl
    lands roles.Unreached insn e = absurd cc

-- ---- blocks

landed : (there : ℕ → Role) (role : Role) (o : Option ℕ) → IfSome o (λ place. there place ≡ role) → (o ≡ None) ⊎ IsReached role
    → IfSome o (λ place. IsReached (there place))
landed there role None h e = tt
landed there role (Some place) h (inl e) = absurd cc
landed there role (Some place) h (inr reached) = subst IsReached (sym h) reached

handled : (there : ℕ → Role) (role : Role) (b : Bool) (o : Option ℕ) → is_some o ≡ b → (b ≡ true → IsReached role)
    → IfSome o (λ place. there place ≡ role) → IfSome o (λ place. IsReached (there place))
handled there role b None e reached h = tt
handled there role b (Some place) e reached h = subst IsReached (sym h) (reached (sym e))

pub blocks_are_reached : BlocksAreReached
blocks_are_reached mode bools base clauses phases =
    let all : List Item = items mode bools base clauses in
    let flows = blocks_flow mode bools base clauses phases in
    record {
      begins = subst IsReached (sym flows.begins) (entered_reached mode clauses.before);
      goes =
          λ at i there reached.
          let led = flows.goes at i there reached in
          let suits = all_get (λ (x : Item). Suits mode clauses x.role) all at i (items_suit mode clauses phases bools base) there in
          record {
            passes =
                λ p. subst IsReached (sym (led.passes p))
                (next_reached clauses mode bools base (length all) led.is.0 i.role i.insn led.is.1 suits p);
            lands = landed (role_at all) (jumps mode clauses i.role) (jump_of i.insn) led.lands
                (lands clauses mode bools base (length all) led.is.0 i.role i.insn led.is.1);
          };
      caught =
          λ e. handled (role_at all) (thrown mode clauses.exceptional) (catches mode clauses.exceptional)
          (handler_at mode bools base clauses) flows.handles
          (thrown_reached mode clauses.exceptional) (flows.caught e);
    }
