-- A check flows as the graph tells.
use Rattle.std.proofs.Common.{
  ◌≡◌,
  ◌≢◌,
  ℕ,
  ◌+◌,
  Bool,
  true,
  false,
  List,
  [],
  ◌∷◌,
  ◌++◌,
  length,
  map,
  Option,
  Some,
  None,
  refl,
  ap,
  subst,
  sym,
  ◌∙◌,
}
use Rattle.std.specs.Prelude.{IfSome, ℤ, pos, neg_ℤ, nat_lt, int_le, ◌&&◌, if◌then◌else◌, not, slice_get, option_and_then}
use Rattle.std.specs.Ordering.{int_eq}
use Rattle.std.specs.Option.{option_map_or}
use Rattle.insn_codec.specs.declared.opcodes.TheConstants.{GOTO, ILOAD, ALOAD, ILOAD_0, ALOAD_0, ISTORE, ASTORE, ISTORE_0, ASTORE_0}
use Rattle.cert_format.specs.declared.certificate.Mode.{Mode}
use Rattle.conspec_tree.specs.declared.types.Atom.{Atom}
use Rattle.conspec_tree.specs.declared.types.Base.{Base}
use Rattle.conspec_tree.specs.declared.types.Base.TheVariants as bases
use Rattle.conspec_tree.specs.declared.types.Kind.{Kind}
use Rattle.conspec_tree.specs.declared.types.Kind.TheVariants as kinds
use Rattle.conspec_tree.specs.declared.types.Phase.{Phase}
use Rattle.conspec_tree.specs.declared.types.Update.{Update}
use Rattle.conspec_tree.specs.declared.types.Update.TheVariants.{Set, Add}
use Rattle.conspec_automaton.specs.declared.policy.Branch.{Branch}
use Rattle.conspec_automaton.specs.Denying.{is_empty}
use Rattle.offset_patch.specs.declared.block.BlockInsn.{BlockInsn}
use Rattle.offset_patch.specs.declared.block.BlockInsn.TheVariants.{Jump}
use Rattle.block_template.specs.declared.item.Item.{Item}
use Rattle.block_template.specs.declared.item.Role.{Role}
use Rattle.block_template.specs.declared.item.Role.TheVariants as roles
use Rattle.block_template.specs.Blocks.{Clauses}
use Rattle.block_template.specs.Flow.{
  IsLed,
  ask_goes,
  compared,
  branch_at,
  branches_in,
  checked_in,
  clause_in,
  held,
  insn_of,
  jump_of,
  jumps,
  locked_for,
  made,
  next,
  tries,
  unlocked_in,
  update_goes,
  updated,
}
use Rattle.block_template.specs.Parts.{
  asks,
  branch_size,
  branches,
  branches_size,
  if_reached,
  item,
  lock,
  stop,
  tried,
  unlock,
  unreached,
  writes,
}
use Rattle.block_template.specs.Pushing.{load, local, negated, push, push_base, store}
use Rattle.block_template.specs.Steps.{ask_steps, step_insn, update_steps}
use Rattle.block_template.proofs.Laying.{
  Laid,
  Leads,
  Run,
  entry,
  from,
  laid_entry,
  laid_got,
  laid_left,
  laid_right,
  more,
  nothing,
  joined,
  upto,
}
use Rattle.block_template.proofs.Sizes.{branches_length, tried_length}

-- ---- what pushes and stores does not jump

either : (P : BlockInsn → Type 0) (b : Bool) (x y : BlockInsn) → P x → P y → P (if b then x else y)
either P true x y p q = p
either P false x y p q = q

-- It does not jump.
abbrev pub Stays : BlockInsn → Type 0
Stays insn = jump_of insn ≡ None

pub push_stays : (n : ℤ) → Stays (push n)
push_stays n =
    either Stays (int_eq n (neg_ℤ (pos 1))) _ _ refl (
    either Stays (int_eq n (pos 0)) _ _ refl (
    either Stays (int_eq n (pos 1)) _ _ refl (
    either Stays (int_eq n (pos 2)) _ _ refl (
    either Stays (int_eq n (pos 3)) _ _ refl (
    either Stays (int_eq n (pos 4)) _ _ refl (
    either Stays (int_eq n (pos 5)) _ _ refl (
    either Stays (int_le (neg_ℤ (pos 128)) n && int_le n (pos 127)) _ _ refl (
    either Stays (int_le (neg_ℤ (pos 32768)) n && int_le n (pos 32767)) _ _ refl refl))))))))

local_stays : (short op slot : ℕ) → Stays (local short op slot)
local_stays short op slot = either Stays (nat_lt slot 4) _ _ refl refl

pub store_stays : (kind : Kind) (slot : ℕ) → Stays (store kind slot)
store_stays kinds.Object slot = local_stays ASTORE_0 ASTORE slot
store_stays kind slot = local_stays ISTORE_0 ISTORE slot

pub load_stays : (kind : Kind) (slot : ℕ) → Stays (load kind slot)
load_stays kinds.Object slot = local_stays ALOAD_0 ALOAD slot
load_stays kind slot = local_stays ILOAD_0 ILOAD slot

pub base_stays : (bools : List Bool) (base : ℕ) (asked : Base) → Stays (push_base bools base asked)
base_stays bools base (bases.Var var) = refl
base_stays bools base (bases.Arg i) = local_stays ILOAD_0 ILOAD (base + i)
base_stays bools base bases.Result = local_stays ILOAD_0 ILOAD base

-- ---- the rule

abbrev pub role_of : Item → Role
role_of i = i.role

module _ (mode : Mode) (bools : List Bool) (base : ℕ) (clauses : Clauses) (end : ℕ) (there : ℕ → Role) where
  -- An item that is reached is led.
  abbrev pub Row : Item → Role → Type 0
  Row i t = i.role ≢ roles.Unreached → IsLed mode bools base clauses end there i t

  abbrev pub Led : Role → List Item → Role → Type 0
  Led s part t = Leads Row role_of s part t

  -- one that does not jump
  pub plain : (insn : BlockInsn) (role m : Role) → Stays insn → insn_of bools base clauses end 0 role ≡ Some insn
      → next mode clauses role ≡ m → Row (item insn role) m
  plain insn role m stays is goes reached =
      record {
        is = (0, is);
        passes = λ may. sym goes;
        lands = subst
            (λ (o : Option ℕ). IfSome o (λ place. there place ≡ jumps mode clauses role)) (sym stays) tt;
      }

  pub go : {m t : Role} (i : Item) (xs : List Item) → Row i m → Led m xs t → Led i.role (i ∷ xs) t
  go i xs a b = more Row role_of i xs a b

  pub last : {t : Role} (i : Item) → Row i t → Led i.role (i ∷ []) t
  last {t} i a = go i [] a (nothing Row role_of t)

  pub join : {s m t : Role} (xs ys : List Item) → Led s xs m → Led m ys t → Led s (xs ++ ys) t
  join xs ys a b = joined Row role_of xs ys a b

  pub begun : {s other t : Role} (xs : List Item) → s ≡ other → Led s xs t → Led other xs t
  begun xs e a = from Row role_of xs e a

  pub ended : {s t other : Role} (xs : List Item) → t ≡ other → Led s xs t → Led s xs other
  ended xs e a = upto Row role_of xs e a

  pub empty : (t : Role) → Led t [] t
  empty t = nothing Row role_of t

  unreached_runs : (xs : List Item) (t : Role) → Run Row role_of (map unreached xs) t
  unreached_runs [] t = tt
  unreached_runs (x ∷ xs) t = ((λ reached. absurd (reached refl)), unreached_runs xs t)

  -- What is not reached leads anywhere.
  pub unreached_lead : (xs : List Item) (t : Role) → Led (entry role_of (map unreached xs) t) (map unreached xs) t
  unreached_lead xs t = record { enters = refl; runs = unreached_runs xs t }

  -- ---- the lock

  pub lock_leads : (phase : Phase) → Led (roles.Lock phase false) (lock phase) (locked_for (clause_in clauses phase) phase)
  lock_leads phase = go _ _ (plain _ (roles.Lock phase false) _ refl refl refl) (last _ (plain _ (roles.Lock phase true) _ refl refl refl))

  pub unlock_leads : (phase : Phase) (made : Bool) → Led (roles.Unlock phase made false) (unlock phase made) (unlocked_in clauses phase)
  unlock_leads phase made =
      go _ _ (plain _ (roles.Unlock phase made false) _ refl refl refl) (last _ (plain _ (roles.Unlock phase made true) _ refl refl refl))

  pub stop_leads : (phase : Phase) (t : Role) → Led (roles.Stop phase 0) (stop phase) t
  stop_leads phase t =
      go _ _ (plain _ (roles.Stop phase 0) _ refl refl refl)
      (go _ _ (plain _ (roles.Stop phase 1) _ refl refl refl)
      (go _ _ (plain _ (roles.Stop phase 2) _ refl refl refl)
      (last _ (λ reached. record { is = (0, refl); passes = λ may. absurd cc; lands = tt }))))

  -- ---- a branch

  module _ (phase : Phase) (n : ℕ) (branch : Branch) (here : branch_at clauses phase n ≡ Some branch) where
    atom_is : (a : ℕ) (atom : Atom) → slice_get branch.atoms a ≡ Some atom
        → option_and_then (λ (b : Branch). slice_get b.atoms a) (branch_at clauses phase n) ≡ Some atom
    atom_is a atom got = ap (option_and_then (λ (b : Branch). slice_get b.atoms a)) here ∙ got

    update_is : (u : ℕ) (update : Update) → slice_get branch.updates u ≡ Some update
        → option_and_then (λ (b : Branch). slice_get b.updates u) (branch_at clauses phase n) ≡ Some update
    update_is u update got = ap (option_and_then (λ (b : Branch). slice_get b.updates u)) here ∙ got

    held_as : (a : ℕ) (o : Option Atom) → slice_get branch.atoms a ≡ o
        → option_map_or (λ (b : Atom). roles.Ask phase n a 0) o (made phase n 0 branch) ≡ held phase n a branch
    held_as a o got = ap (λ (p : Option Atom). option_map_or (λ (b : Atom). roles.Ask phase n a 0) p (made phase n 0 branch)) (sym got)

    made_as : (u : ℕ) (o : Option Update) → slice_get branch.updates u ≡ o
        → option_map_or (λ (b : Update). roles.Update phase n u 0) o (roles.Taken phase n) ≡ made phase n u branch
    made_as u o got = ap (λ (p : Option Update). option_map_or (λ (b : Update). roles.Update phase n u 0) p (roles.Taken phase n)) (sym got)

    -- one step of an atom's comparison that does not jump
    ask_row : (a done : ℕ) (atom : Atom) (insn : BlockInsn) → slice_get branch.atoms a ≡ Some atom → Stays insn
        → step_insn bools base 0 (ask_steps atom) done ≡ Some insn
        → Row (item insn (roles.Ask phase n a done)) (ask_goes phase n a done branch (Some atom))
    ask_row a done atom insn got stays is =
        plain insn (roles.Ask phase n a done) _ stays
        (ap (λ (o : Option Atom). step_insn bools base 0 (option_map_or ask_steps o []) done) (atom_is a atom got) ∙ is)
        (ap (compared phase n a done) here ∙ ap (ask_goes phase n a done branch) got)

    test_row : (a to : ℕ) (atom : Atom) → slice_get branch.atoms a ≡ Some atom → there to ≡ tries phase (n + 1) (branches_in clauses phase)
        → Row (item (Jump (negated atom.rel) to) (roles.Ask phase n a 2)) (held phase n (a + 1) branch)
    test_row a to atom got jump reached = record {
      is = (to, ap (λ (o : Option Atom). step_insn bools base to (option_map_or ask_steps o []) 2) (atom_is a atom got));
      passes = λ may. sym (ap (compared phase n a 2) here ∙ ap (ask_goes phase n a 2 branch) got);
      lands = jump;
    }

    asks_lead : (a to : ℕ) (atoms : List Atom) → there to ≡ tries phase (n + 1) (branches_in clauses phase)
        → Laid (slice_get branch.atoms) Some a atoms None
        → Led (held phase n a branch) (asks bools base phase n a to atoms) (made phase n 0 branch)
    asks_lead a to [] jump l = from Row role_of [] (held_as a None l) (nothing Row role_of (made phase n 0 branch))
    asks_lead a to (atom ∷ atoms) jump l =
        from Row role_of (asks bools base phase n a to (atom ∷ atoms)) (held_as a (Some atom) l.0)
        (go _ _ (ask_row a 0 atom _ l.0 (base_stays bools base atom.base) refl)
        (go _ _ (ask_row a 1 atom _ l.0 (push_stays atom.value) refl)
        (go _ _ (test_row a to atom l.0 jump) (asks_lead (a + 1) to atoms jump l.1))))

    -- one instruction of an update that is made
    update_row : (u done : ℕ) (update : Update) (insn : BlockInsn) → slice_get branch.updates u ≡ Some update → Stays insn
        → step_insn bools 0 0 (update_steps update) done ≡ Some insn
        → Row (item insn (roles.Update phase n u done)) (update_goes phase n u done branch (Some update))
    update_row u done update insn got stays is =
        plain insn (roles.Update phase n u done) _ stays
        (ap (λ (o : Option Update). step_insn bools 0 0 (option_map_or update_steps o []) done) (update_is u update got) ∙ is)
        (ap (updated phase n u done) here ∙ ap (update_goes phase n u done branch) got)

    writes_lead : (u : ℕ) (updates : List Update) → Laid (slice_get branch.updates) Some u updates None
        → Led (made phase n u branch) (writes bools phase n u updates) (roles.Taken phase n)
    writes_lead u [] l = from Row role_of [] (made_as u None l) (nothing Row role_of (roles.Taken phase n))
    writes_lead u (Set var value ∷ updates) l =
        let update = Set var value in
        from Row role_of (writes bools phase n u (update ∷ updates)) (made_as u (Some update) l.0)
        (go _ _ (update_row u 0 update _ l.0 (push_stays value) refl)
        (go _ _ (update_row u 1 update _ l.0 refl refl) (writes_lead (u + 1) updates l.1)))
    writes_lead u (Add var by ∷ updates) l =
        let update = Add var by in
        from Row role_of (writes bools phase n u (update ∷ updates)) (made_as u (Some update) l.0)
        (go _ _ (update_row u 0 update _ l.0 refl refl)
        (go _ _ (update_row u 1 update _ l.0 (push_stays by) refl)
        (go _ _ (update_row u 2 update _ l.0 refl refl)
        (go _ _ (update_row u 3 update _ l.0 refl refl) (writes_lead (u + 1) updates l.1)))))

    taken_row : (done : ℕ) (t : Role) → there done ≡ checked_in mode clauses phase → Row (item (Jump GOTO done) (roles.Taken phase n)) t
    taken_row done t following reached = record { is = (done, refl); passes = λ may. absurd cc; lands = following }

    tried_leads : (to done : ℕ) (t : Role) → there to ≡ tries phase (n + 1) (branches_in clauses phase)
        → there done ≡ checked_in mode clauses phase
        → Led (held phase n 0 branch) (tried bools base phase n to done branch) t
    tried_leads to done t jump following =
        join (asks bools base phase n 0 to branch.atoms) _ (asks_lead 0 to branch.atoms jump (laid_got branch.atoms))
        (join (writes bools phase n 0 branch.updates) _ (writes_lead 0 branch.updates (laid_got branch.updates))
        (last _ (taken_row done t following)))

  -- ---- a check

  tries_as : (phase : Phase) (n : ℕ) (all : List Branch) (o : Option Branch) → slice_get all n ≡ o
      → option_map_or (held phase n 0) o (roles.Stop phase 0) ≡ tries phase n all
  tries_as phase n all o got = ap (λ (p : Option Branch). option_map_or (held phase n 0) p (roles.Stop phase 0)) (sym got)

  branches_lead : (phase : Phase) (n at done : ℕ) (others : List Branch) (t : Role)
      → Laid (slice_get (branches_in clauses phase)) Some n others None
      → there done ≡ checked_in mode clauses phase → Laid there role_of at (branches bools base phase n at done others) t
      → Led (tries phase n (branches_in clauses phase)) (branches bools base phase n at done others) t
  branches_lead phase n at done [] t l following placed =
      from Row role_of (stop phase) (tries_as phase n (branches_in clauses phase) None l) (stop_leads phase t)
  branches_lead phase n at done (branch ∷ others) t l following placed =
      let to = at + branch_size branch in
      let rest = branches bools base phase (n + 1) to done others in
      let part = tried bools base phase n to done branch in
      let size : at + length part ≡ to = ap (λ k. at + k) (tried_length bools base phase n to done branch) in
      let later = laid_right there role_of at to part rest t size placed in
      let leads = branches_lead phase (n + 1) to done others t l.1 following later in
      from Row role_of (branches bools base phase n at done (branch ∷ others))
      (tries_as phase n (branches_in clauses phase) (Some branch) l.0)
      (join part rest (tried_leads phase n branch l.0 to done _ (laid_entry there role_of to rest t later ∙ leads.enters) following) leads)

  -- a check of these branches, and what stands after it
  abbrev pub check_then : Phase → ℕ → List Branch → List Item → List Item
  check_then phase at all following = branches bools base phase 0 at (at + branches_size all) all ++ if_reached (not (is_empty all)) following

  pub check_leads : (phase : Phase) (at : ℕ) (all : List Branch) (following : List Item) (t : Role)
      → Laid (slice_get (branches_in clauses phase)) Some 0 all None
      → (is_empty all ≡ false → Led (checked_in mode clauses phase) following t) → Laid there role_of at (check_then phase at all following) t
      → Led (tries phase 0 (branches_in clauses phase)) (check_then phase at all following) t
  check_leads phase at [] following t l later placed =
      join (stop phase) (map unreached following)
      (from Row role_of (stop phase) (tries_as phase 0 (branches_in clauses phase) None l) (stop_leads phase _)) (unreached_lead following t)
  check_leads phase at (branch ∷ others) following t l later placed =
      let all = branch ∷ others in
      let done = at + branches_size all in
      let part = branches bools base phase 0 at done all in
      let size : at + length part ≡ done = ap (λ k. at + k) (branches_length bools base phase 0 at done all) in
      let leads = later refl in
      let stands : there done ≡ checked_in mode clauses phase =
      laid_entry there role_of done following t (laid_right there role_of at done part following t size placed) ∙ leads.enters in
      join part following (branches_lead phase 0 at done all (checked_in mode clauses phase) l stands
      (subst (λ r. Laid there role_of at part r) leads.enters (laid_left there role_of at part following t placed))) leads
