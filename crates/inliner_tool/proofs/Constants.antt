-- The constants of a policy that was read have 32 bits.
use Rattle.std.proofs.Common.{ℕ, ℤ, pos, neg_ℤ, ◌-ℤ◌, ◌≤ℤ◌, Bool, true, false, cond, List, [], ◌∷◌, map, Option, Some, None, sym, subst, ◌∙◌, arith, FitsSigned}
use Rattle.std.specs.Prelude.{int_lt}
use Rattle.std.specs.Int.{w32, int_wrapping_neg, int_wrapping_sub}
use Rattle.std.specs.List.{AllByRecursion, flat_map}
use Rattle.std.proofs.lemmas.Int.{int_wrap_fits, ints, wrapping_neg_is, wrapping_sub_is}
use Rattle.bytecode_model.proofs.Lists.{all_append}
use Rattle.block_template.specs.Good.{AreNumbers, HasNumbers}
use Rattle.api_listing.specs.declared.types.ListedMethod.{ListedMethod}
use Rattle.api_listing.specs.declared.types.Listing.{Listing}
use Rattle.conspec_automaton.specs.declared.policy.Clause.{Clause}
use Rattle.conspec_automaton.specs.Building.{branch_of, branches_of, built, clause_built, compared, guard_branches, range_atoms}
use Rattle.conspec_parse.specs.Scope.{Scope}
use Rattle.conspec_parse.specs.Meaning.{AreGuards, EachIs, IsAtom, IsClause, IsConstant, IsGuard, IsOtherwise, value_of}
use Rattle.conspec_parse.specs.Written.{Constant, WrittenAtom, WrittenClause, WrittenGuard, WrittenUpdate}
use Rattle.conspec_parse.specs.Written.Constant.{Truth, Natural, Minus}
use Rattle.conspec_tree.specs.declared.types.Atom.{Atom}
use Rattle.conspec_tree.specs.declared.types.Guard.{Guard}
use Rattle.conspec_tree.specs.declared.types.PolicyTree.{PolicyTree}
use Rattle.conspec_tree.specs.declared.types.Rel.TheVariants.{Le, Ge}
use Rattle.conspec_tree.specs.declared.types.TreeClause.{TreeClause}
use Rattle.conspec_tree.specs.declared.types.Update.{Update}
use Rattle.conspec_tree.specs.declared.types.Update.TheVariants.{Set, Add}
use Rattle.conspec_tree.specs.declared.types.Var.{Var}
use Rattle.conspec_tree.specs.Tree.{IsClauseIn, IsGuardIn, IsUpdateIn, asked}
use Rattle.command_inputs.specs.Named.{IsPolicyOf}

-- ---- what is written

abbrev AtomFits : Atom → Type 0
AtomFits atom = FitsSigned w32 atom.value

abbrev GuardFits : Guard → Type 0
GuardFits guard = AllByRecursion (λ (conj : List Atom). AllByRecursion AtomFits conj) guard.conjs

constant_fits : (truth : Bool) (c : Constant) → IsConstant truth c → FitsSigned w32 (value_of c)
constant_fits true (Truth true) h = omega (arith, ints)
constant_fits true (Truth false) h = omega (arith, ints)
constant_fits true (Natural n) h = absurd h
constant_fits true (Minus n) h = absurd h
constant_fits false (Truth b) h = absurd h
constant_fits false (Natural n) h = omega (arith, ints)
constant_fits false (Minus n) h = omega (arith, ints)

module _ (scope : Scope) where
  conj_fits : (written : List WrittenAtom) (conj : List Atom) → EachIs (IsAtom scope) written conj → AllByRecursion AtomFits conj
  conj_fits [] [] each = tt
  conj_fits [] (a ∷ conj) each = absurd each
  conj_fits (w ∷ written) [] each = absurd each
  conj_fits (w ∷ written) (a ∷ conj) each = (subst (FitsSigned w32) (sym each.0.value) (constant_fits _ w.constant each.0.fits), conj_fits written conj each.1)

  conjs_fit : (written : List (List WrittenAtom)) (conjs : List (List Atom)) → EachIs (EachIs (IsAtom scope)) written conjs → AllByRecursion (λ (conj : List Atom). AllByRecursion AtomFits conj) conjs
  conjs_fit [] [] each = tt
  conjs_fit [] (c ∷ conjs) each = absurd each
  conjs_fit (w ∷ written) [] each = absurd each
  conjs_fit (w ∷ written) (c ∷ conjs) each = (conj_fits w c each.0, conjs_fit written conjs each.1)

  guards_fit : (maxint : ℤ) (written : List WrittenGuard) (guards : List Guard) → EachIs (IsGuard scope maxint) written guards → AllByRecursion GuardFits guards
  guards_fit maxint [] [] each = tt
  guards_fit maxint [] (g ∷ guards) each = absurd each
  guards_fit maxint (w ∷ written) [] each = absurd each
  guards_fit maxint (w ∷ written) (g ∷ guards) each = (conjs_fit (w.first ∷ w.others) g.conjs each.0.conjs, guards_fit maxint written guards each.1)

otherwise_fits : (vars : List Var) (maxint : ℤ) (otherwise : Option (List WrittenUpdate)) (guards : List Guard) → IsOtherwise vars maxint otherwise guards → AllByRecursion GuardFits guards
otherwise_fits vars maxint None guards is = subst (AllByRecursion GuardFits) (sym is) tt
otherwise_fits vars maxint (Some updates) [] is = absurd is
otherwise_fits vars maxint (Some updates) (g ∷ guards) is =
    (subst (λ (conjs : List (List Atom)). AllByRecursion (λ (conj : List Atom). AllByRecursion AtomFits conj) conjs) (sym is.1.0) (tt, tt), subst (AllByRecursion GuardFits) (sym is.0) tt)

all_guards : (scope : Scope) (maxint : ℤ) (written : List WrittenGuard) (otherwise : Option (List WrittenUpdate)) (guards : List Guard) → AreGuards scope maxint written otherwise guards → AllByRecursion GuardFits guards
all_guards scope maxint written otherwise guards are =
    subst (AllByRecursion GuardFits) (sym are.parts)
    (all_append GuardFits are.asking are.last (guards_fit scope maxint written are.asking are.guarded) (otherwise_fits scope.vars maxint otherwise are.last are.other))

clauses_fit : (methods : List ListedMethod) (vars : List Var) (maxint : ℤ) (written : List WrittenClause) (clauses : List TreeClause) → EachIs (IsClause methods vars maxint) written clauses
    → AllByRecursion (λ (c : TreeClause). AllByRecursion GuardFits c.guards) clauses
clauses_fit methods vars maxint [] [] each = tt
clauses_fit methods vars maxint [] (c ∷ clauses) each = absurd each
clauses_fit methods vars maxint (w ∷ written) [] each = absurd each
clauses_fit methods vars maxint (w ∷ written) (c ∷ clauses) each = (all_guards _ maxint w.guards w.otherwise c.guards each.0.guards, clauses_fit methods vars maxint written clauses each.1)

-- ---- what is built

all_flat : {A B : Type 0} (P : A → Type 0) (Q : B → Type 0) (f : A → List B) (list : List A) → ((x : A) → P x → AllByRecursion Q (f x)) → AllByRecursion P list → AllByRecursion Q (flat_map f list)
all_flat P Q f [] each all = tt
all_flat P Q f (x ∷ list) each all = all_append Q (f x) (flat_map f list) (each x all.0) (all_flat P Q f list each all.1)

all_map : {A B : Type 0} (P : A → Type 0) (Q : B → Type 0) (f : A → B) (list : List A) → ((x : A) → P x → Q (f x)) → AllByRecursion P list → AllByRecursion Q (map f list)
all_map P Q f [] each all = tt
all_map P Q f (x ∷ list) each all = (each x all.0, all_map P Q f list each all.1)

module _ (vars : List Var) (maxint : ℤ) (low : pos 1 ≤ℤ maxint) (high : maxint ≤ℤ pos 1000000000) where
  sub_fits : (by : ℤ) → neg_ℤ (pos 1000000000) ≤ℤ by → by ≤ℤ pos 1000000000 → FitsSigned w32 (int_wrapping_sub w32 maxint by)
  sub_fits by least most =
      let f : FitsSigned w32 maxint = omega (arith, ints) in
      let g : FitsSigned w32 by = omega (arith, ints) in
      let h : FitsSigned w32 (maxint -ℤ by) = omega (arith, ints) in
      subst (FitsSigned w32) (sym (wrapping_sub_is w32 maxint by f g ∙ int_wrap_fits w32 (maxint -ℤ by) h)) h

  neg_fits : (by : ℤ) → neg_ℤ (pos 1000000000) ≤ℤ by → by ≤ℤ pos 1000000000 → FitsSigned w32 (int_wrapping_neg w32 by)
  neg_fits by least most =
      let g : FitsSigned w32 by = omega (arith, ints) in
      let h : FitsSigned w32 (neg_ℤ by) = omega (arith, ints) in
      subst (FitsSigned w32) (sym (wrapping_neg_is w32 by g ∙ int_wrap_fits w32 (neg_ℤ by) h)) h

  range_fits : (update : Update) → IsUpdateIn vars maxint update → AllByRecursion AtomFits (range_atoms maxint update)
  range_fits (Set var value) is = tt
  range_fits (Add var by) is = choose (int_lt (pos 0) by) (int_lt by (pos 0)) where
    choose : (up down : Bool)
        → AllByRecursion AtomFits (cond up (compared var Le (int_wrapping_sub w32 maxint by) ∷ []) (cond down (compared var Ge (int_wrapping_neg w32 by) ∷ []) []))
    choose true down = (sub_fits by is.fits.1.0 is.fits.1.1, tt)
    choose false true = (neg_fits by is.fits.1.0 is.fits.1.1, tt)
    choose false false = tt

  branch_fits : (updates : List Update) → AllByRecursion (IsUpdateIn vars maxint) updates → (conj : List Atom) → AllByRecursion AtomFits conj → AreNumbers (branch_of maxint updates conj)
  branch_fits updates are conj fits = all_append AtomFits conj (flat_map (range_atoms maxint) updates) fits (all_flat (IsUpdateIn vars maxint) AtomFits (range_atoms maxint) updates range_fits are)

  guards_built : (askable : _) (guards : List Guard) → AllByRecursion (IsGuardIn vars maxint askable) guards → AllByRecursion GuardFits guards → AllByRecursion AreNumbers (branches_of maxint guards)
  guards_built askable [] are fits = tt
  guards_built askable (g ∷ guards) are fits =
      all_append AreNumbers (guard_branches maxint g) (branches_of maxint guards)
      (all_map (λ (conj : List Atom). AllByRecursion AtomFits conj) AreNumbers (branch_of maxint g.updates) g.conjs (branch_fits g.updates are.0.updates) fits.0)
      (guards_built askable guards are.1 fits.1)

  clauses_built : (methods : ℕ) (clauses : List TreeClause) → AllByRecursion (IsClauseIn methods vars maxint) clauses → AllByRecursion (λ (c : TreeClause). AllByRecursion GuardFits c.guards) clauses
      → AllByRecursion (λ (c : Clause). AllByRecursion AreNumbers c.branches) (map (clause_built maxint) clauses)
  clauses_built methods [] are fits = tt
  clauses_built methods (c ∷ clauses) are fits = (guards_built (asked c.phase c.args c.result) c.guards are.0.guards fits.0, clauses_built methods clauses are.1 fits.1)

pub has_numbers : (listing : Listing) (tree : PolicyTree) → IsPolicyOf listing tree → HasNumbers (built tree)
has_numbers listing tree is =
    clauses_built tree.vars tree.maxint is.sound.maxint_low is.sound.maxint_high _ tree.clauses is.sound.clauses
    (clauses_fit listing.methods tree.vars tree.maxint is.encodes.written.clauses tree.clauses is.encodes.says.clauses)
