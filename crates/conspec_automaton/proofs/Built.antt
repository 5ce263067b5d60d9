-- The automaton of a tree keeps the limits and ranges, and what its parts name is there.
use Rattle.std.proofs.Common.{◌≡◌, ℕ, zero, suc, ◌+◌, ◌<◌, ◌≤◌, ℤ, pos, negsuc, List, [], ◌∷◌, ◌++◌, length, map, get_or, refl, ap, arith, length-append}
use Rattle.std.specs.Prelude.{int_lt, true, false, AllPairs}
use Rattle.std.specs.List.{AllByRecursion, flat_map}
use Rattle.std.proofs.lemmas.Int.{ints}
use Rattle.std.proofs.lemmas.Option.{slice_get_within}
use Rattle.api_listing.specs.declared.types.Listing.{Listing}
use Rattle.conspec_tree.specs.declared.types.Atom.{Atom}
use Rattle.conspec_tree.specs.declared.types.Guard.{Guard}
use Rattle.conspec_tree.specs.declared.types.PolicyTree.{PolicyTree}
use Rattle.conspec_tree.specs.declared.types.TreeClause.{TreeClause}
use Rattle.conspec_tree.specs.declared.types.Update.{Update}
use Rattle.conspec_tree.specs.declared.types.Update.TheVariants.{Set, Add}
use Rattle.conspec_tree.specs.declared.types.Var.{Var}
use Rattle.conspec_tree.specs.Guards.{branches}
use Rattle.conspec_tree.specs.Tree.{Askable, AreAtoms, Differ as TreesDiffer, IsBase, IsClauseIn as IsTreeClauseIn, IsGuardIn, IsPolicyTree, IsUpdateIn, asked}
use Rattle.conspec_tree.specs.Updates.{all_range_atoms, range_atoms as count_of}
use Rattle.conspec_automaton.specs.declared.policy.Clause.{Clause}
use Rattle.conspec_automaton.specs.Building.{branch_of, branches_of, built, clause_built, guard_branches, range_atoms}
use Rattle.conspec_automaton.specs.Sound.{Differ, IsBranchIn, IsClauseIn, IsPolicy, NamesMethods}

-- ---- lists

all_joined : {X : Type 0} (P : X → Type 0) (xs ys : List X) → AllByRecursion P xs → AllByRecursion P ys → AllByRecursion P (xs ++ ys)
all_joined P [] ys p q = q
all_joined P (x ∷ xs) ys p q = (p.0, all_joined P xs ys p.1 q)

all_mapped : {X Y : Type 0} (P : X → Type 0) (Q : Y → Type 0) (f : X → Y) → ((x : X) → P x → Q (f x)) → (xs : List X) → AllByRecursion P xs → AllByRecursion Q (map f xs)
all_mapped P Q f each [] p = tt
all_mapped P Q f each (x ∷ xs) p = (each x p.0, all_mapped P Q f each xs p.1)

length_map : {X Y : Type 0} (f : X → Y) (xs : List X) → length (map f xs) ≡ length xs
length_map f [] = refl
length_map f (x ∷ xs) = ap suc (length_map f xs)

mapped_at : {X Y : Type 0} (f : X → Y) (xs : List X) (i : ℕ) (d : X) (e : Y) → i < length xs → get_or (map f xs) i e ≡ f (get_or xs i d)
mapped_at f [] i d e below = absurd (omega arith)
mapped_at f (x ∷ xs) zero d e below = refl
mapped_at f (x ∷ xs) (suc i) d e below = mapped_at f xs i d e (omega arith)

first_of : {X : Type 0} (xs : List X) (i j : ℕ) → i < j → j < length xs → X
first_of [] i j lt below = absurd (omega arith)
first_of (x ∷ xs) i j lt below = x

pairs_mapped : {X Y : Type 0} (R : X → X → Type 0) (Q : Y → Y → Type 0) (f : X → Y) → ((x z : X) → R x z → Q (f x) (f z)) → (xs : List X) → AllPairs R xs → AllPairs Q (map f xs)
pairs_mapped R Q f each xs pairs = λ i j e lt below.
    let inside : j < length xs = omega (arith, length_map f xs) in
    let before : i < length xs = omega arith in
    let d = first_of xs i j lt inside in
    let at = mapped_at f xs i d e before in
    let other = mapped_at f xs j d e inside in
    rw (at, other) (each (get_or xs i d) (get_or xs j d) (pairs i j d lt inside))

-- ---- branches

module _ (maxint : ℤ) (vars : List Var) (askable : Askable) where
  range_atoms_are : (u : Update) → IsUpdateIn vars maxint u → AreAtoms (length vars) askable (range_atoms maxint u)
  range_atoms_are (Set var value) is = tt
  range_atoms_are (Add var (pos zero)) is = tt
  range_atoms_are (Add var (pos (suc k))) is =
      let t : int_lt (pos 0) (pos (suc k)) ≡ true = grind (arith, ints) in
      let inside : var < length vars = slice_get_within vars var is.variable is.there in
      rw t (inside, tt)
  range_atoms_are (Add var (negsuc k)) is =
      let inside : var < length vars = slice_get_within vars var is.variable is.there in
      (inside, tt)

  all_range_atoms_are : (us : List Update) → AllByRecursion (IsUpdateIn vars maxint) us → AreAtoms (length vars) askable (flat_map (range_atoms maxint) us)
  all_range_atoms_are [] each = tt
  all_range_atoms_are (u ∷ us) each = all_joined (λ (a : Atom). IsBase (length vars) askable a.base) (range_atoms maxint u) (flat_map (range_atoms maxint) us) (range_atoms_are u each.0) (all_range_atoms_are us each.1)

  range_count : (u : Update) → length (range_atoms maxint u) ≡ count_of u
  range_count (Set var value) = refl
  range_count (Add var (pos zero)) = refl
  range_count (Add var (pos (suc k))) =
      let t : int_lt (pos 0) (pos (suc k)) ≡ true = grind (arith, ints) in
      let f : int_lt (pos (suc k)) (pos 0) ≡ false = grind (arith, ints) in
      rw (t, f) refl
  range_count (Add var (negsuc k)) = refl

  all_range_count : (us : List Update) → length (flat_map (range_atoms maxint) us) ≡ all_range_atoms us
  all_range_count [] = refl
  all_range_count (u ∷ us) = omega (arith, length-append (range_atoms maxint u) (flat_map (range_atoms maxint) us), range_count u, all_range_count us)

  branch_is : (guard : Guard) (conj : List Atom) → IsGuardIn vars maxint askable guard → AreAtoms (length vars) askable conj → length conj + all_range_atoms guard.updates ≤ 16 → IsBranchIn vars maxint askable (branch_of maxint guard.updates conj)
  branch_is guard conj is are few = record {
    own = conj;
    kept = refl;
    atoms = all_joined (λ (a : Atom). IsBase (length vars) askable a.base) conj (flat_map (range_atoms maxint) guard.updates) are (all_range_atoms_are guard.updates is.updates);
    few_atoms = omega (arith, length-append conj (flat_map (range_atoms maxint) guard.updates), all_range_count guard.updates);
    updates = is.updates;
    once = is.once;
  }

  conjs_are : (guard : Guard) → IsGuardIn vars maxint askable guard → (conjs : List (List Atom)) → AllByRecursion (AreAtoms (length vars) askable) conjs → AllByRecursion (λ (conj : List Atom). length conj + all_range_atoms guard.updates ≤ 16) conjs
      → AllByRecursion (IsBranchIn vars maxint askable) (map (branch_of maxint guard.updates) conjs)
  conjs_are guard is [] are few = tt
  conjs_are guard is (conj ∷ conjs) are few = (branch_is guard conj is are.0 few.0, conjs_are guard is conjs are.1 few.1)

  guards_are : (guards : List Guard) → AllByRecursion (IsGuardIn vars maxint askable) guards → AllByRecursion (IsBranchIn vars maxint askable) (branches_of maxint guards)
  guards_are [] is = tt
  guards_are (g ∷ guards) is = all_joined (IsBranchIn vars maxint askable) (guard_branches maxint g) (branches_of maxint guards) (conjs_are g is.0 g.conjs is.0.atoms is.0.short) (guards_are guards is.1)

branch_count : (maxint : ℤ) (guards : List Guard) → length (branches_of maxint guards) ≡ branches guards
branch_count maxint [] = refl
branch_count maxint (g ∷ guards) =
    omega (arith, length-append (guard_branches maxint g) (branches_of maxint guards), length_map (branch_of maxint g.updates) g.conjs, branch_count maxint guards)

clause_is : (methods : ℕ) (vars : List Var) (maxint : ℤ) (clause : TreeClause) → IsTreeClauseIn methods vars maxint clause → IsClauseIn vars maxint (clause_built maxint clause)
clause_is methods vars maxint clause is = record {
  few_args = is.few_args;
  few_branches = omega (arith, branch_count maxint clause.guards, is.few_branches);
  branches = guards_are maxint vars (asked clause.phase clause.args clause.result) clause.guards is.guards;
}

pub built_is : (listing : Listing) (tree : PolicyTree) → IsPolicyTree listing tree → IsPolicy (built tree)
built_is listing tree is = record {
  maxint_low = is.maxint_low;
  maxint_high = is.maxint_high;
  few_vars = is.few_vars;
  vars = is.vars;
  var_names = is.var_names;
  few_clauses = omega (arith, length_map (clause_built tree.maxint) tree.clauses, is.few_clauses);
  clauses = all_mapped (IsTreeClauseIn (length listing.methods) tree.vars tree.maxint) (IsClauseIn tree.vars tree.maxint) (clause_built tree.maxint) (clause_is (length listing.methods) tree.vars tree.maxint) tree.clauses is.clauses;
  once = pairs_mapped TreesDiffer Differ (clause_built tree.maxint) (λ c d differ. differ) tree.clauses is.once;
}

pub built_names : (listing : Listing) (tree : PolicyTree) → IsPolicyTree listing tree → NamesMethods (length listing.methods) (built tree)
built_names listing tree is =
    all_mapped (IsTreeClauseIn (length listing.methods) tree.vars tree.maxint) (λ (c : Clause). c.method < length listing.methods) (clause_built tree.maxint) (λ c in_listing. in_listing.method) tree.clauses is.clauses
