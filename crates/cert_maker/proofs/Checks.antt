-- The notes of a check: what is told at each role, and that a check which begins, or goes on, stands for what is asked.
use Rattle.std.proofs.Common.{◌≡◌, ℕ, zero, suc, ◌<◌, ◌≤◌, Bool, true, false, List, [], ◌∷◌, length, take, Option, Some, None, refl, sym, ap, subst, ◌∙◌, arith}
use Rattle.std.specs.Prelude.{◌==◌, ◌&&◌, ◌||◌, IfSome, is_some, slice_get, ⊤}
use Rattle.std.specs.Option.{option_map_or}
use Rattle.std.proofs.lemmas.Bool.{eq-eqb}
use Rattle.std.proofs.lemmas.Option.{slice_get_within}
use Rattle.cert_format.specs.declared.certificate.Mode.{Mode}
use Rattle.cert_format.specs.declared.note.Note.{Note}
use Rattle.cert_format.specs.declared.note.Note.TheVariants as notes
use Rattle.cert_format.specs.declared.note.Site.{Site}
use Rattle.cert_format.specs.declared.note.Term.{Term}
use Rattle.bytecode_model.proofs.Lists.{all_get}
use Rattle.conspec_tree.specs.declared.types.Atom.{Atom}
use Rattle.conspec_tree.specs.declared.types.Phase.{Phase}
use Rattle.conspec_tree.specs.declared.types.Phase.TheVariants.{Before, After, Exceptional}
use Rattle.conspec_tree.specs.declared.types.Update.{Update}
use Rattle.conspec_tree.specs.declared.types.Update.TheVariants.{Set, Add}
use Rattle.conspec_tree.specs.Tree.{asked}
use Rattle.conspec_automaton.specs.declared.policy.Branch.{Branch}
use Rattle.conspec_automaton.specs.declared.policy.Clause.{Clause}
use Rattle.conspec_automaton.specs.declared.policy.Policy.{Policy}
use Rattle.conspec_automaton.specs.Next.{has_clauses}
use Rattle.conspec_automaton.specs.Sound.{IsBranchIn, IsPolicy}
use Rattle.block_template.specs.declared.item.Role.{Role}
use Rattle.block_template.specs.declared.item.Role.TheVariants as roles
use Rattle.block_template.specs.Blocks.{Clauses, clauses_of}
use Rattle.block_template.specs.Blocks.{clause_at as clause_in_block}
use Rattle.block_template.specs.Flow.{branches_in, clause_in, held, made, tries}
use Rattle.block_template.specs.Flow.{branches_of as branches_told}
use Rattle.block_template.proofs.Policies.{IsOf, branches_of_phase, clause_is}
use Rattle.block_logic.specs.Annotations.{held_in}
use Rattle.block_logic.specs.Clauses.{clause_of, result_kind}
use Rattle.block_logic.specs.Rows.{Asked, Open, Given, Rules}
use Rattle.block_logic.specs.Notes.{meets}
use Rattle.block_logic.specs.Weakening.{branches_of, done, fails, is_done, may_stand, same_note, stands_for_held}
use Rattle.block_logic.specs.Terms.{after_updates, as_taken}
use Rattle.cert_maker.specs.declared.called.Called.{Called}
use Rattle.block_template.specs.Steps.{ask_steps, update_steps}
use Rattle.cert_maker.specs.Noting.{branch_at, byte, note_of, site_of, terms_before}
use Rattle.cert_maker.proofs.ClausesAlike as canonical
use Rattle.cert_maker.proofs.Same.{note_itself}

-- A call with a block, of a method that the policy has clauses for, which tell alike whether it gives something.
pub record Blocked : Type 0 where
  pub policy : Policy
  pub mode : Mode
  -- the number of the class conspec/State
  pub state : ℕ
  pub call : Called
  pub read : IsPolicy policy
  pub few : (site_of call Before).method ≡ call.callee
  pub has : has_clauses policy call.callee ≡ true
  pub alike : (p : Phase) (c : Clause) → clause_in_block policy call.callee p ≡ Some c
      → is_some (result_kind policy call.callee) ≡ is_some c.result

-- Before an update nothing stands on the stack.
nothing_written : (update : Update) → terms_before (update_steps update) 0 ≡ []
nothing_written (Set var value) = refl
nothing_written (Add var by) = refl

module _ (b : Blocked) where
  abbrev pub rules : Rules
  rules = record { held = held_in b.mode; policy = b.policy; state = b.state }

  abbrev pub clauses : Clauses
  clauses = clauses_of b.policy b.call.callee

  abbrev pub site : Phase → Site
  site p = site_of b.call p

  abbrev pub note : Role → Note
  note role = note_of b.policy b.call role

  -- ---- what is known of a branch

  pub record IsBranch (p : Phase) (n : ℕ) (branch : Branch) : Type 0 where
    pub clause : Clause
    pub there : clause_in clauses p ≡ Some clause
    pub found : clause_of b.policy (site p) ≡ Some clause
    pub at : branch_at b.policy (site p) n ≡ Some branch
    pub listed : slice_get clause.branches n ≡ Some branch
    pub small : n < 64
    pub is : IsBranchIn b.policy.vars b.policy.maxint (asked p clause.args clause.result) branch

  pub clause_found : (p : Phase) → IfSome (clause_in clauses p) (IsOf b.policy p)
  clause_found Before = clause_is b.policy b.call.callee Before b.read
  clause_found After = clause_is b.policy b.call.callee After b.read
  clause_found Exceptional = clause_is b.policy b.call.callee Exceptional b.read

  pub clause_of_site : (p : Phase) → clause_of b.policy (site p) ≡ clause_in clauses p
  clause_of_site p = canonical.clause_is b.policy b.call b.few p

  pub branches_are : (p : Phase) → branches_of b.policy (site p) ≡ branches_in clauses p
  branches_are p = canonical.branches_are b.policy b.call b.few p

  branch_by : (p : Phase) (n : ℕ) (branch : Branch) (o : Option Clause) → clause_in clauses p ≡ o → IfSome o (IsOf b.policy p)
      → slice_get (branches_told o) n ≡ Some branch → IsBranch p n branch
  branch_by p n branch None e is there = absurd cc
  branch_by p n branch (Some clause) e is there = record {
    clause = clause;
    there = e;
    found = clause_of_site p ∙ e;
    at =
        ap (λ (bs : List Branch). slice_get bs n) (branches_are p)
        ∙ ap (λ (o : Option Clause). slice_get (branches_told o) n) e ∙ there;
    listed = there;
    small = omega (arith, is.fits.few_branches, slice_get_within clause.branches n branch there);
    is = all_get (IsBranchIn b.policy.vars b.policy.maxint (asked p clause.args clause.result)) clause.branches n branch
        (branches_of_phase b.policy p clause is) there;
  }

  pub branch_is : (p : Phase) (n : ℕ) (branch : Branch) → slice_get (branches_in clauses p) n ≡ Some branch → IsBranch p n branch
  branch_is p n branch there = branch_by p n branch (clause_in clauses p) refl (clause_found p) there

  -- ---- what is told

  small_byte : (n : ℕ) → n ≤ 255 → byte n ≡ n
  small_byte n le = omega (arith, le)

  module _ (p : Phase) (n : ℕ) (branch : Branch) (is : IsBranch p n branch) where
    branch_few : byte n ≡ n
    branch_few = small_byte n (omega (arith, is.small))

    atoms_few : byte (length branch.atoms) ≡ length branch.atoms
    atoms_few = small_byte (length branch.atoms) (omega (arith, is.is.few_atoms))

    pub ask_is : (m done : ℕ) (atom : Atom) → slice_get branch.atoms m ≡ Some atom
        → note (roles.Ask p n m done) ≡ notes.Held (site p) n m (terms_before (ask_steps atom) done) (as_taken b.policy)
    ask_is m done atom there =
        let few : byte m ≡ m = small_byte m (omega (arith, is.is.few_atoms, slice_get_within branch.atoms m atom there)) in
        rw (is.at, there, branch_few, few) refl

    pub update_is : (u done : ℕ) (update : Update) → slice_get branch.updates u ≡ Some update
        → note (roles.Update p n u done)
        ≡ notes.Held (site p) n (length branch.atoms) (terms_before (update_steps update) done) (after_updates b.policy (take u branch.updates))
    update_is u done update there = rw (is.at, there, branch_few, atoms_few) refl

    pub taken_is : note (roles.Taken p n)
        ≡ notes.Held (site p) n (length branch.atoms) [] (after_updates b.policy (take (length branch.updates) branch.updates))
    taken_is = rw (is.at, branch_few, atoms_few) refl

  -- ---- what is asked at a role

  -- The role is within the block, and its note meets what is asked.
  abbrev pub Inside : Asked → Role → Type 0
  Inside wants role = meets rules wants (note role) ≡ true

  -- Where a block is left, its thread is in no block; what is not reached is asked for nothing.
  abbrev pub Arrives : Asked → Role → Type 0
  Arrives wants roles.Leave = wants ≡ Open
  Arrives wants roles.Unreached = ⊤
  Arrives wants role = Inside wants role

  -- what may stand for such a check
  abbrev pub Wide : Asked → ℕ → Phase → ℕ → List Term → Type 0
  Wide wants n p holding map =
      (canonical : Note) → stands_for_held b.policy (site p) n holding [] map canonical ≡ true → meets rules wants canonical ≡ true

  -- A check stands for itself.
  same_held : (p : Phase) (n holding : ℕ) (map : List Term) (canonical : Note) → canonical ≡ notes.Held (site p) n holding [] map
      → stands_for_held b.policy (site p) n holding [] map canonical ≡ true
  same_held p n holding map canonical e =
      subst (λ (t : Note). stands_for_held b.policy (site p) n holding [] map t ≡ true) (sym e)
      (rw (note_itself (notes.Held (site p) n holding [] map)) refl)

  module _ (p : Phase) (n : ℕ) (branch : Branch) (is : IsBranch p n branch) where
    -- Its atoms hold, and so many updates are made.
    pub made_arrives : (wants : Asked) (u : ℕ) → u ≤ length branch.updates
        → Wide wants n p (length branch.atoms) (after_updates b.policy (take u branch.updates)) → Arrives wants (made p n u branch)
    made_arrives wants u le wide = by (slice_get branch.updates u) refl
      where
        last : (us : List Update) (i : ℕ) → slice_get us i ≡ None → i ≤ length us → take (length us) us ≡ take i us
        last [] zero none le = refl
        last [] (suc i) none le = absurd (omega arith)
        last (x ∷ us) zero none le = absurd cc
        last (x ∷ us) (suc i) none le = ap (λ (rest : List Update). x ∷ rest) (last us i none (omega arith))

        by : (o : Option Update) → slice_get branch.updates u ≡ o
            → Arrives wants (option_map_or (λ (x : Update). roles.Update p n u 0) o (roles.Taken p n))
        by None none =
            wide (note (roles.Taken p n))
            (same_held p n (length branch.atoms) (after_updates b.policy (take u branch.updates)) (note (roles.Taken p n))
            (taken_is p n branch is ∙ ap (λ (us : List Update). notes.Held (site p) n (length branch.atoms) [] (after_updates b.policy us)) (last branch.updates u none le)))
        by (Some update) there =
            wide (note (roles.Update p n u 0))
            (same_held p n (length branch.atoms) (after_updates b.policy (take u branch.updates)) (note (roles.Update p n u 0))
            (update_is p n branch is u 0 update there
            ∙ ap (λ (ts : List Term). notes.Held (site p) n (length branch.atoms) ts (after_updates b.policy (take u branch.updates))) (nothing_written update)))

    -- So many of its atoms hold.
    pub held_arrives : (wants : Asked) (m : ℕ) → m ≤ length branch.atoms → Wide wants n p m (as_taken b.policy) → Arrives wants (held p n m branch)
    held_arrives wants m le wide = by (slice_get branch.atoms m) refl
      where
        all : (atoms : List Atom) (i : ℕ) → slice_get atoms i ≡ None → i ≤ length atoms → i ≡ length atoms
        all [] zero none le = refl
        all [] (suc i) none le = absurd (omega arith)
        all (x ∷ atoms) zero none le = absurd cc
        all (x ∷ atoms) (suc i) none le = ap suc (all atoms i none (omega arith))

        by : (o : Option Atom) → slice_get branch.atoms m ≡ o
            → Arrives wants (option_map_or (λ (x : Atom). roles.Ask p n m 0) o (made p n 0 branch))
        by None none =
            made_arrives wants 0 (omega arith)
            (subst (λ (k : ℕ). Wide wants n p k (as_taken b.policy)) (all branch.atoms m none le) wide)
        by (Some atom) there =
            wide (note (roles.Ask p n m 0))
            (same_held p n m (as_taken b.policy) (note (roles.Ask p n m 0)) (ask_is p n branch is m 0 atom there))

  -- The branches before this one fail.
  pub tries_arrives : (wants : Asked) (p : Phase) (clause : Clause) → clause_in clauses p ≡ Some clause → (n : ℕ) → n ≤ length clause.branches
      → Wide wants n p 0 (as_taken b.policy) → Arrives wants (tries p n clause.branches)
  tries_arrives wants p clause e n le wide = by (slice_get clause.branches n) refl
    where
      all : (branches : List Branch) (i : ℕ) → slice_get branches i ≡ None → i ≤ length branches → i ≡ length branches
      all [] zero none le = refl
      all [] (suc i) none le = absurd (omega arith)
      all (x ∷ branches) zero none le = absurd cc
      all (x ∷ branches) (suc i) none le = ap suc (all branches i none (omega arith))

      there_is : branches_in clauses p ≡ clause.branches
      there_is = ap branches_told e

      failing : slice_get clause.branches n ≡ None → fails b.policy (site p) n ≡ true
      failing none =
          let count : (n == length (branches_of b.policy (site p))) ≡ true =
          eq-eqb n (length (branches_of b.policy (site p)))
          (all clause.branches n none le ∙ sym (ap length there_is) ∙ sym (ap length (branches_are p))) in
          let some : is_some (clause_of b.policy (site p)) ≡ true = ap is_some (clause_of_site p ∙ e) in
          rw (some, count) refl

      or_last : (x y z : Bool) → z ≡ true → (x || (y || z)) ≡ true
      or_last true y z f = refl
      or_last false true z f = refl
      or_last false false z f = f

      by : (o : Option Branch) → slice_get clause.branches n ≡ o → Arrives wants (option_map_or (held p n 0) o (roles.Stop p 0))
      by None none =
          wide (notes.Stop (site p) 0)
          (or_last false
          ((is_done b.policy (site p) n 0 (as_taken b.policy) && true) && same_note (done b.policy (site p)) (notes.Stop (site p) 0)) (fails b.policy (site p) n && same_note (notes.Stop (site p) 0) (notes.Stop (site p) 0))
          (rw (failing none, note_itself (notes.Stop (site p) 0)) refl))
      by (Some branch) there =
          held_arrives p n branch (branch_is p n branch (ap (λ (bs : List Branch). slice_get bs n) there_is ∙ there)) wants 0 (omega arith) wide

  -- ---- what stands for a note

  or_first : (x y : Bool) → x ≡ true → (x || y) ≡ true
  or_first true y e = refl
  or_first false y e = absurd cc

  -- A note stands for itself.
  pub stands_itself : (n : Note) → may_stand b.policy n n ≡ true
  stands_itself notes.Free = refl
  stands_itself (notes.Taking s) = note_itself (notes.Taking s)
  stands_itself (notes.Held s failed holding list map) = or_first _ _ (note_itself (notes.Held s failed holding list map))
  stands_itself (notes.Granted s locked loaded top) = note_itself (notes.Granted s locked loaded top)
  stands_itself (notes.Owed s stage kept top) = or_first _ _ (note_itself (notes.Owed s stage kept top))
  stands_itself (notes.Stop s place) = note_itself (notes.Stop s place)

  pub same_inside : (n : Note) (role : Role) → note role ≡ n → Inside (Given n) role
  same_inside n role e = ap (may_stand b.policy n) e ∙ stands_itself n

  -- A check that has begun is asked for as such.
  pub held_wide : (n : ℕ) (p : Phase) (holding : ℕ) (map : List Term) → Wide (Given (notes.Held (site p) n holding [] map)) n p holding map
  held_wide n p holding map canonical e = e
