-- The branches of each policy that was read name what a byte tells.
use Rattle.std.proofs.Common.{◌≡◌, ℕ, zero, suc, ℤ, ◌<◌, ◌≤◌, List, [], ◌∷◌, length, Option, Some, None, refl, arith}
use Rattle.std.specs.Prelude.{◌==◌, ◌&&◌, IfSome, slice_get}
use Rattle.std.specs.List.{AllByRecursion}
use Rattle.std.specs.Option.{option_map_or}
use Rattle.std.proofs.lemmas.Option.{slice_get_within}
use Rattle.cert_format.specs.declared.note.Site.{Site}
use Rattle.bytecode_model.proofs.Lists.{all_get}
use Rattle.conspec_tree.specs.declared.types.Atom.{Atom}
use Rattle.conspec_tree.specs.declared.types.Base.{Base}
use Rattle.conspec_tree.specs.declared.types.Base.TheVariants as bases
use Rattle.conspec_tree.specs.declared.types.Kind.{Kind}
use Rattle.conspec_tree.specs.declared.types.Phase.{Phase}
use Rattle.conspec_tree.specs.declared.types.Phase.TheVariants.{Before, After, Exceptional}
use Rattle.conspec_tree.specs.declared.types.Update.{Update}
use Rattle.conspec_tree.specs.declared.types.Update.TheVariants.{Set, Add}
use Rattle.conspec_tree.specs.declared.types.Var.{Var}
use Rattle.conspec_tree.specs.Tree.{AreAtoms, IsBase, IsNumber, IsUpdateIn, asked}
use Rattle.conspec_tree.specs.Updates.{target}
use Rattle.conspec_automaton.specs.declared.policy.Branch.{Branch}
use Rattle.conspec_automaton.specs.declared.policy.Clause.{Clause}
use Rattle.conspec_automaton.specs.declared.policy.Policy.{Policy}
use Rattle.conspec_automaton.specs.Sound.{IsBranchIn, IsClauseIn, IsPolicy}
use Rattle.block_template.specs.Steps.{ask_steps, stack_before, update_steps}
use Rattle.block_logic.specs.Clauses.{clause_of, is_of_phase}
use Rattle.cert_maker.specs.Noting.{branch_at}
use Rattle.cert_maker.specs.Small.{IsSmall, IsSmallBase, IsSmallOperand, IsSmallUpdate}
use Rattle.cert_maker.proofs.ClausesAlike.{found_has}

-- So is what stands on the stack in a comparison and an update.
pub ask_small : (atom : Atom) (done : ℕ) → IsSmallBase atom.base → AllByRecursion IsSmallOperand (stack_before (ask_steps atom) done)
ask_small atom zero small = tt
ask_small atom (suc zero) small = (small, tt)
ask_small atom (suc (suc zero)) small = (small, (tt, tt))
ask_small atom (suc (suc (suc done))) small = tt

pub update_small : (update : Update) (done : ℕ) → IsSmallUpdate update → AllByRecursion IsSmallOperand (stack_before (update_steps update) done)
update_small (Set var value) zero small = tt
update_small (Set var value) (suc zero) small = (tt, tt)
update_small (Set var value) (suc (suc done)) small = tt
update_small (Add var by) zero small = tt
update_small (Add var by) (suc zero) small = (small, tt)
update_small (Add var by) (suc (suc zero)) small = (small, (tt, tt))
update_small (Add var by) (suc (suc (suc zero))) small = (small, tt)
update_small (Add var by) (suc (suc (suc (suc done)))) small = tt

argument_there : (kinds : List Kind) (i : ℕ) → IsNumber (slice_get kinds i) → i < length kinds
argument_there kinds i is = by (slice_get kinds i) refl is
  where
    by : (o : Option Kind) → slice_get kinds i ≡ o → IsNumber o → i < length kinds
    by None e none = absurd none
    by (Some kind) e some = slice_get_within kinds i kind e

module _ (vars : List Var) (few : length vars ≤ 16) (args : List Kind) (few_args : length args ≤ 255) (result : Option Kind) where
  small_base : (phase : Phase) (base : Base) → IsBase (length vars) (asked phase args result) base → IsSmallBase base
  small_base phase (bases.Var i) is = omega (arith, is, few)
  small_base Before (bases.Arg i) is = omega (arith, few_args, argument_there args i is)
  small_base After (bases.Arg i) is = absurd is
  small_base Exceptional (bases.Arg i) is = absurd is
  small_base phase bases.Result is = tt

  small_atoms : (phase : Phase) (atoms : List Atom) → AreAtoms (length vars) (asked phase args result) atoms
      → AllByRecursion (λ (a : Atom). IsSmallBase a.base) atoms
  small_atoms phase [] all = tt
  small_atoms phase (atom ∷ atoms) all = (small_base phase atom.base all.0, small_atoms phase atoms all.1)

small_updates : (vars : List Var) (maxint : ℤ) (updates : List Update) → length vars ≤ 16 → AllByRecursion (IsUpdateIn vars maxint) updates
    → AllByRecursion IsSmallUpdate updates
small_updates vars maxint [] few all = tt
small_updates vars maxint (update ∷ updates) few all =
    (omega (arith, few, slice_get_within vars (target update) all.0.variable all.0.there), small_updates vars maxint updates few all.1)

module _ (policy : Policy) (read : IsPolicy policy) where
  of_clause : (site : Site) (n : ℕ) (o : Option Clause) → clause_of policy site ≡ o → IfSome (slice_get (option_map_or (λ (c : Clause). c.branches) o []) n) IsSmall
  of_clause site n None e = tt
  of_clause site n (Some clause) e = by (slice_get clause.branches n) refl
    where
      fits : IsClauseIn policy.vars policy.maxint clause
      fits =
          (found_has (λ (c : Clause). (c.method == site.method) && is_of_phase site.phase c.phase) (IsClauseIn policy.vars policy.maxint) policy.clauses
          clause read.clauses e).0

      by : (o : Option Branch) → slice_get clause.branches n ≡ o → IfSome o IsSmall
      by None f = tt
      by (Some branch) f =
          let is = all_get (IsBranchIn policy.vars policy.maxint (asked clause.phase clause.args clause.result)) clause.branches n branch fits.branches f in
          record {
            atoms = small_atoms policy.vars read.few_vars clause.args fits.few_args clause.result clause.phase branch.atoms is.atoms;
            updates = small_updates policy.vars policy.maxint branch.updates read.few_vars is.updates;
          }

  pub small_branch : (site : Site) (n : ℕ) → IfSome (branch_at policy site n) IsSmall
  small_branch site n = of_clause site n (clause_of policy site) refl
