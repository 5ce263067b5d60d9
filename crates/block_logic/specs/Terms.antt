-- What stands on the stack above the client's operands while a check is made, and what the policy's variables are, told by what
-- stood when the lock was taken. (docs/CERTIFICATES.md)
use Rattle.std.specs.Prelude.{ℕ, zero, suc, ◌+◌, ◌==◌, ◌&&◌, Bool, true, false, List, [], ◌∷◌, length, find, Option, slice_get}
use Rattle.std.specs.Option.{option_map_or}
use Rattle.std.specs.Ordering.{int_eq}
use Rattle.cert_format.specs.declared.note.Term.{Term}
use Rattle.cert_format.specs.declared.note.Term.TheVariants as terms
use Rattle.conspec_tree.specs.declared.types.Base.{Base}
use Rattle.conspec_tree.specs.declared.types.Base.TheVariants as bases
use Rattle.conspec_tree.specs.declared.types.Update.{Update}
use Rattle.conspec_tree.specs.declared.types.Update.TheVariants.{Set, Add}
use Rattle.conspec_tree.specs.Updates.{target}
use Rattle.conspec_automaton.specs.declared.policy.Policy.{Policy}

-- ---- the same terms

abbrev pub same_term : Term → Term → Bool
same_term (terms.Const n) (terms.Const m) = int_eq n m
same_term (terms.Var i) (terms.Var j) = i == j
same_term (terms.VarAdd i n) (terms.VarAdd j m) = (i == j) && int_eq n m
same_term (terms.Arg i) (terms.Arg j) = i == j
same_term terms.Result terms.Result = true
same_term terms.Lock terms.Lock = true
same_term term other = false

abbrev pub same_terms : List Term → List Term → Bool
same_terms [] [] = true
same_terms [] (u ∷ us) = false
same_terms (t ∷ ts) [] = false
same_terms (t ∷ ts) (u ∷ us) = same_term t u && same_terms ts us

-- One term stands in this place of both.
abbrev pub same_at : List Term → List Term → ℕ → Bool
same_at ts us at = option_map_or (λ (t : Term). option_map_or (same_term t) (slice_get us at) false) (slice_get ts at) false

-- ---- what an atom compares

abbrev pub base_term : Base → Term
base_term (bases.Var var) = terms.Var var
base_term (bases.Arg i) = terms.Arg i
base_term bases.Result = terms.Result

-- ---- the variables

-- what an update writes
abbrev pub written : Update → Term
written (Set var value) = terms.Const value
written (Add var by) = terms.VarAdd var by

-- the first update of the variable
abbrev pub update_of : List Update → ℕ → Option Update
update_of updates var = find (λ (u : Update). target u == var) updates

-- what a variable is once the updates are made: each is of another variable
abbrev pub variable_after : List Update → ℕ → Term
variable_after updates var = option_map_or written (update_of updates var) (terms.Var var)

-- so many variables, the first of them with this number, once the updates are made
abbrev pub variables_after : List Update → ℕ → ℕ → List Term
variables_after updates var zero = []
variables_after updates var (suc n) = variable_after updates var ∷ variables_after updates (var + 1) n

-- the variables of a policy once the updates are made, and before any is
abbrev pub after_updates : Policy → List Update → List Term
after_updates policy updates = variables_after updates 0 (length policy.vars)

abbrev pub as_taken : Policy → List Term
as_taken policy = after_updates policy []
