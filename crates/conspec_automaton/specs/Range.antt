-- The states in range, and what an update needs to leave its variable in range. (docs/POLICIES.md)
use Rattle.std.specs.Prelude.{◌≡◌, ◌≢◌, ◌&&◌, ℤ, pos, ◌+ℤ◌, Bool, true, false, int_le, List, [], ◌∷◌, Some, slice_get, AllPairs, FitsSigned}
use Rattle.std.specs.Int.{w32}
use Rattle.std.specs.List.{AllByRecursion, list_all}
use Rattle.std.specs.Option.{option_map_or}
use Rattle.conspec_tree.specs.declared.types.Update.{Update}
use Rattle.conspec_tree.specs.declared.types.Update.TheVariants.{Set, Add}
use Rattle.conspec_tree.specs.declared.types.Var.{Var}
use Rattle.conspec_tree.specs.Tree.{greatest, IsUpdateIn}
use Rattle.conspec_tree.specs.Updates.{target}
use Rattle.conspec_automaton.specs.declared.policy.Policy.{Policy}
use Rattle.conspec_automaton.specs.Next.{Moment, Values}

abbrev pub is_between : ℤ → ℤ → ℤ → Bool
is_between low high n = int_le low n && int_le n high

abbrev pub is_in_range : ℤ → Var → ℤ → Bool
is_in_range maxint var n = is_between (pos 0) (greatest maxint var.is_bool) n

-- a value for each variable, in its range
abbrev pub are_in_range : ℤ → List Var → Values → Bool
are_in_range maxint [] [] = true
are_in_range maxint [] (n ∷ values) = false
are_in_range maxint (var ∷ vars) [] = false
are_in_range maxint (var ∷ vars) (n ∷ values) = is_in_range maxint var n && are_in_range maxint vars values

-- the states of a policy
abbrev pub in_range : Policy → Values → Bool
in_range policy state = are_in_range policy.maxint policy.vars state

-- ---- updates

-- The sum is in the range of an int variable.
abbrev pub has_room : ℤ → Moment → Update → Bool
has_room maxint m (Set var value) = true
has_room maxint m (Add var by) = option_map_or (λ n. is_between (pos 0) maxint (n +ℤ by)) (slice_get m.state var) false

-- The state is in range, and so are those that the updates lead to: each is of another variable.
pub record MayUpdate (vars : List Var) (maxint : ℤ) (m : Moment) (updates : List Update) : Type 0 where
  pub ranged : are_in_range maxint vars m.state ≡ true
  pub each : AllByRecursion (IsUpdateIn vars maxint) updates
  pub once : AllPairs (λ u w. target u ≢ target w) updates
  pub room : list_all (has_room maxint m) updates ≡ true

-- The sum is a number of 32 bits.
abbrev pub SumFits : Moment → Update → Type 0
SumFits m (Set var value) = Unit {0}
SumFits m (Add var by) = (n : ℤ) → slice_get m.state var ≡ Some n → FitsSigned w32 (n +ℤ by)
