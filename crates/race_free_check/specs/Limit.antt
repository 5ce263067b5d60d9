-- What is said of the numbers of points: none is above the limit, or which one is. (docs/RACES.md)
use Rattle.std.specs.Prelude.{◌≡◌, ℕ, ◌<◌, ◌≤◌, List, ◌∷◌, ◌++◌}
use Rattle.std.specs.List.{AllByRecursion}
use Rattle.conspec_automaton.specs.declared.policy.Policy.{Policy}
use Rattle.conspec_automaton.specs.Racing.{Pairs}
use Rattle.conspec_automaton.specs.Trying.{Trial, max_points, point_count, trials}
use Rattle.race_free_check.specs.Deciding.{second_place}
use Rattle.race_free_check.specs.declared.fault.RaceFault.{RaceFault}
use Rattle.race_free_check.specs.declared.fault.RaceFault.TheVariants.{CellLimit, Memory}

abbrev pub HasFewPoints : Policy → Trial → Type 0
HasFewPoints policy trial = point_count policy trial ≤ max_points

-- No trial has more points than the limit.
abbrev pub AllHaveFewPoints : Pairs → Policy → Type 0
AllHaveFewPoints tested policy = AllByRecursion (HasFewPoints policy) (trials tested policy)

-- Of the trials this is the first that has more points than the limit: it is of these clauses, and has so many.
pub record IsAboveLimit (policy : Policy) (all : List Trial) (first second count : ℕ) : Type 0 where
  pub earlier : List Trial
  pub trial : Trial
  pub later : List Trial
  pub split : all ≡ earlier ++ trial ∷ later
  pub few : AllByRecursion (HasFewPoints policy) earlier
  pub first_is : trial.first.0 ≡ first
  pub second_is : second_place trial ≡ second
  pub count_is : point_count policy trial ≡ count
  pub many : max_points < count

-- A number of points that is told is that of the first trial that has too many.
abbrev pub TellsLimit : Pairs → Policy → RaceFault → Type 0
TellsLimit tested policy (CellLimit first second count) = IsAboveLimit policy (trials tested policy) first second count
TellsLimit tested policy Memory = Unit {0}
