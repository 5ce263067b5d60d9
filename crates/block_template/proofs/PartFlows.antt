-- The parts of a block besides its checks flow as the graph tells.
use Rattle.std.proofs.Common.{
  ◌≡◌,
  ℕ,
  suc,
  ◌+◌,
  Bool,
  true,
  false,
  List,
  [],
  ◌∷◌,
  ◌++◌,
  length,
  Option,
  Some,
  None,
  refl,
  ap,
  subst,
  sym,
  ◌∙◌,
  arith,
}
use Rattle.std.specs.Prelude.{if◌then◌else◌, is_some, not, slice_get, option_map, option_and_then}
use Rattle.std.specs.Option.{option_map_or}
use Rattle.insn_codec.specs.declared.opcodes.TheConstants.{GOTO}
use Rattle.cert_format.specs.declared.certificate.Mode.{Mode}
use Rattle.conspec_tree.specs.declared.types.Kind.{Kind}
use Rattle.conspec_tree.specs.declared.types.Phase.{Phase}
use Rattle.conspec_tree.specs.declared.types.Phase.TheVariants.{Before, After}
use Rattle.conspec_automaton.specs.declared.policy.Branch.{Branch}
use Rattle.conspec_automaton.specs.declared.policy.Clause.{Clause}
use Rattle.offset_patch.specs.declared.block.BlockInsn.TheVariants.{Jump, Call}
use Rattle.block_template.specs.declared.item.Item.{Item}
use Rattle.block_template.specs.declared.item.Role.{Role}
use Rattle.block_template.specs.declared.item.Role.TheVariants as roles
use Rattle.block_template.specs.Blocks.{Clauses, call, checked, lets_pass, is_locked, leave, released, rethrow}
use Rattle.block_template.specs.Flow.{
  argument_at,
  branches_in,
  branches_of,
  check_after,
  checked_in,
  clause_in,
  insn_of,
  keeps_result,
  kept_by,
  loading,
  locked_for,
  next,
  result_in,
  after_return,
  saving,
  tries,
  unlocked_in,
}
use Rattle.block_template.specs.Parts.{give, item, keep, loads, lock, save, unlock}
use Rattle.block_template.specs.Pushing.{load, store}
use Rattle.block_template.proofs.Laying.{Laid, laid_got, laid_right}
use Rattle.block_template.proofs.CheckFlows.{
  Led,
  Row,
  begun,
  check_leads,
  check_then,
  empty,
  ended,
  go,
  join,
  last,
  load_stays,
  lock_leads,
  plain,
  role_of,
  store_stays,
  unlock_leads,
}

-- ---- parts, in either mode

module _ (mode : Mode) (bools : List Bool) (base : ℕ) (clauses : Clauses) (end : ℕ) (there : ℕ → Role) where
  abbrev pub LeadsTo : Role → List Item → Role → Type 0
  LeadsTo s part t = Led mode bools base clauses end there s part t

  -- the check of a clause, and what stands after it
  pub checked_leads : (phase : Phase) (clause : Clause) → clause_in clauses phase ≡ Some clause → clause.phase ≡ phase
      → (at : ℕ) (later : List Item) (t : Role)
      → (lets_pass (Some clause) ≡ true → LeadsTo (checked_in mode clauses phase) later t)
      → Laid there role_of at (checked bools base at clause later) t
      → LeadsTo (tries phase 0 clause.branches) (checked bools base at clause later) t
  checked_leads phase clause is for at later t leads placed =
      let same : branches_in clauses phase ≡ clause.branches = ap branches_of is in
      let laid : Laid (slice_get (branches_in clauses phase)) Some 0 clause.branches None =
      subst (λ (bs : List Branch). Laid (slice_get bs) Some 0 clause.branches None) (sym same) (laid_got clause.branches) in
      let of : Phase → List Item = λ p. check_then mode bools base clauses end there p at clause.branches later in
      subst (λ p. Laid there role_of at (of p) t → LeadsTo (tries phase 0 clause.branches) (of p) t) (sym for) (λ stands.
      begun mode bools base clauses end there (of phase) (ap (tries phase 0) same)
      (check_leads mode bools base clauses end there phase at clause.branches later t laid (λ full. leads (ap not full)) stands)) placed

  -- the same where the check takes the lock and leaves it
  pub released_leads : (phase : Phase) (clause : Clause) → clause_in clauses phase ≡ Some clause → clause.phase ≡ phase
      → checked_in mode clauses phase ≡ roles.Unlock phase true false → (at : ℕ) (later : List Item) (t : Role)
      → (lets_pass (Some clause) ≡ true → LeadsTo (unlocked_in clauses phase) later t)
      → Laid there role_of at (released bools base at clause later) t
      → LeadsTo (roles.Lock phase false) (released bools base at clause later) t
  released_leads phase clause is for left at later t leads placed =
      let of : Phase → List Item = λ p. lock p ++ checked bools base (at + 2) clause (unlock p true ++ later) in
      let inner = unlock phase true ++ later in
      let opened : locked_for (clause_in clauses phase) phase ≡ tries phase 0 clause.branches =
      ap (λ (o : Option Clause). locked_for o phase) is in
      subst (λ p. Laid there role_of at (of p) t → LeadsTo (roles.Lock phase false) (of p) t) (sym for) (λ stands.
      join mode bools base clauses end there (lock phase) (checked bools base (at + 2) clause inner)
      (ended mode bools base clauses end there (lock phase) opened (lock_leads mode bools base clauses end there phase))
      (checked_leads phase clause is for (at + 2) inner t (λ goes.
      begun mode bools base clauses end there inner (sym left)
      (join mode bools base clauses end there (unlock phase true) later (unlock_leads mode bools base clauses end there phase true)
      (leads goes)))
      (laid_right there role_of at (at + 2) (lock phase) (checked bools base (at + 2) clause inner) t refl stands))) placed

  -- ---- arguments

  save_row : (n : ℕ) (kind : Kind) → argument_at clauses n ≡ Some kind
      → Row mode bools base clauses end there (item (store kind (base + n)) (roles.Save (n + 1))) (saving n)
  save_row n kind got =
      let more : suc n ≡ n + 1 = omega arith in
      let is : insn_of bools base clauses end 0 (roles.Save (n + 1)) ≡ Some (store kind (base + n)) =
      subst (λ k. insn_of bools base clauses end 0 (roles.Save k) ≡ Some (store kind (base + n))) more
      (ap (option_map (λ (k : Kind). store k (base + n))) got) in
      plain mode bools base clauses end there (store kind (base + n)) (roles.Save (n + 1)) (saving n) (store_stays kind (base + n)) is
      (subst (λ k. next mode clauses (roles.Save k) ≡ saving n) more refl)

  pub saves_lead : (n : ℕ) (kinds : List Kind) → Laid (argument_at clauses) Some n kinds None
      → LeadsTo (saving (n + length kinds)) (save base n kinds) (saving n)
  saves_lead n [] l =
      let e : n ≡ n + 0 =
      omega arith in begun mode bools base clauses end there [] (ap saving e) (empty mode bools base clauses end there (saving n))
  saves_lead n (kind ∷ kinds) l =
      let one = item (store kind (base + n)) (roles.Save (n + 1)) in
      let more : suc n ≡ n + 1 = omega arith in
      let first : roles.Save (n + 1) ≡ saving (n + 1) = subst (λ k. roles.Save k ≡ saving k) more refl in
      let e : n + 1 + length kinds ≡ n + length (kind ∷ kinds) = omega arith in
      begun mode bools base clauses end there (save base n (kind ∷ kinds)) (ap saving e)
      (join mode bools base clauses end there (save base (n + 1) kinds) (one ∷ []) (saves_lead (n + 1) kinds l.1)
      (begun mode bools base clauses end there (one ∷ []) first (last mode bools base clauses end there one (save_row n kind l.0))))

  loading_as : (n : ℕ) (locked : Bool) (o : Option Kind) → argument_at clauses n ≡ o
      → option_map_or (λ (k : Kind). roles.Load n locked) o (roles.Call locked) ≡ loading clauses n locked
  loading_as n locked o got = ap (λ (p : Option Kind). option_map_or (λ (k : Kind). roles.Load n locked) p (roles.Call locked)) (sym got)

  pub loads_lead : (locked : Bool) (n : ℕ) (kinds : List Kind) → Laid (argument_at clauses) Some n kinds None
      → LeadsTo (loading clauses n locked) (loads locked base n kinds) (roles.Call locked)
  loads_lead locked n [] l =
      begun mode bools base clauses end there [] (loading_as n locked None l) (empty mode bools base clauses end there (roles.Call locked))
  loads_lead locked n (kind ∷ kinds) l =
      begun mode bools base clauses end there (loads locked base n (kind ∷ kinds)) (loading_as n locked (Some kind) l.0)
      (go mode bools base clauses end there _ _
      (plain mode bools base clauses end there (load kind (base + n)) (roles.Load n locked) _ (load_stays kind (base + n))
      (ap (option_map (λ (k : Kind). load k (base + n))) l.0) refl)
      (loads_lead locked (n + 1) kinds l.1))

  pub arguments_laid : (clause : Clause) → clauses.before ≡ Some clause → Laid (argument_at clauses) Some 0 clause.args None
  arguments_laid clause is =
      subst (λ (o : Option Clause). Laid (λ n. option_and_then (λ (c : Clause). slice_get c.args n) o) Some 0 clause.args None) (sym is)
      (laid_got clause.args)

  -- all of them are kept
  pub all_saved : (clause : Clause) → clauses.before ≡ Some clause
      → LeadsTo (saving (length clause.args)) (save base 0 clause.args) (roles.Lock Before false)
  all_saved clause is =
      let e : 0 + length clause.args ≡ length clause.args = omega arith in
      begun mode bools base clauses end there (save base 0 clause.args) (ap saving e) (saves_lead 0 clause.args (arguments_laid clause is))

  -- and all are loaded
  pub all_loaded : (locked : Bool) (clause : Clause) → clauses.before ≡ Some clause → (t : Role) → t ≡ roles.Call locked
      → LeadsTo (loading clauses 0 locked) (loads locked base 0 clause.args) t
  all_loaded locked clause is t same =
      ended mode bools base clauses end there (loads locked base 0 clause.args) (sym same)
      (loads_lead locked 0 clause.args (arguments_laid clause is))

  -- ---- the result

  result_is : (clause : Clause) (o : Option Kind) → clauses.after ≡ Some clause → clause.result ≡ o → result_in clauses ≡ o
  result_is clause o is e = ap (option_and_then (λ (c : Clause). c.result)) is ∙ e

  pub keep_leads : (locked : Bool) (clause : Clause) → clauses.after ≡ Some clause
      → LeadsTo (if is_some clause.result then roles.Keep locked else check_after mode After clause) (keep locked base clause.result)
      (check_after mode After clause)
  keep_leads locked clause is = by clause.result refl
    where
      by : (o : Option Kind) → clause.result ≡ o
          → LeadsTo (if is_some o then roles.Keep locked else check_after mode After clause) (keep locked base o)
          (check_after mode After clause)
      by None e = empty mode bools base clauses end there (check_after mode After clause)
      by (Some kind) e =
          last mode bools base clauses end there _
          (plain mode bools base clauses end there (store kind base) (roles.Keep locked) _ (store_stays kind base)
          (ap (option_map (λ (k : Kind). store k base)) (result_is clause (Some kind) is e)) (ap (kept_by mode) is))

  pub give_leads : (clause : Clause) → clauses.after ≡ Some clause → (t : Role) → t ≡ roles.Leave
      → LeadsTo (unlocked_in clauses After) (give base clause.result) t
  give_leads clause is t same =
      begun mode bools base clauses end there (give base clause.result)
      (ap (λ (b : Bool). if b then roles.Give else roles.Leave) (sym keeps))
      (ended mode bools base clauses end there (give base clause.result) (sym same) (by clause.result refl))
    where
      keeps : keeps_result clauses ≡ is_some clause.result
      keeps = ap (λ (o : Option Clause). option_map_or (λ (c : Clause). is_some c.result) o false) is

      by : (o : Option Kind) → clause.result ≡ o → LeadsTo (if is_some o then roles.Give else roles.Leave) (give base o) roles.Leave
      by None e = empty mode bools base clauses end there roles.Leave
      by (Some kind) e =
          last mode bools base clauses end there _
          (plain mode bools base clauses end there (load kind base) roles.Give _ (load_stays kind base)
          (ap (option_map (λ (k : Kind). load k base)) (result_is clause (Some kind) is e)) refl)

  -- ---- the call, and the ends

  pub call_row : Row mode bools base clauses end there (call mode) (after_return mode clauses.after)
  call_row = plain mode bools base clauses end there Call (roles.Call (is_locked mode)) _ refl refl refl

  pub rethrow_leads : (t : Role) → LeadsTo roles.Rethrow rethrow t
  rethrow_leads t = last mode bools base clauses end there _ (λ reached. record { is = (0, refl); passes = λ may. absurd cc; lands = tt })

  pub leave_row : (place : ℕ) (t : Role) → place ≡ end → there place ≡ roles.Leave → Row mode bools base clauses end there (leave place) t
  leave_row place t same left reached =
      record { is = (0, ap (λ p. Some (Jump GOTO p)) (sym same)); passes = λ may. absurd cc; lands = left }
