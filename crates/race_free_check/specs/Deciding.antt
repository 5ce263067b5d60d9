-- What is decided of a policy: that there are too many points, or the first of them that breaks a condition, or that none does.
-- (docs/RACES.md)
use Rattle.std.specs.Prelude.{◌≡◌, ℕ, Bool, not, if◌then◌else◌, List, [], ◌∷◌, find, Option, Some, Result, Ok, IfSome, slice_get}
use Rattle.std.specs.Option.{option_map_or}
use Rattle.conspec_tree.specs.declared.types.Phase.{Phase}
use Rattle.conspec_automaton.specs.declared.policy.Policy.{Policy}
use Rattle.mon_base.specs.Reading.{◌>>=◌, need}
use Rattle.conspec_automaton.specs.Racing.{Pairs, all_pairs}
use Rattle.conspec_automaton.specs.Sound.{IsClauseIn}
use Rattle.conspec_automaton.specs.Trying.{Placed, Point, Trial, breaks, is_of_calls, is_small, point_count, points, trials}
use Rattle.race_free_check.specs.declared.fault.RaceFault.{RaceFault}
use Rattle.race_free_check.specs.declared.fault.RaceFault.TheVariants as faults
use Rattle.race_free_check.specs.declared.verdict.RaceVerdict.{RaceVerdict}
use Rattle.race_free_check.specs.declared.verdict.RaceVerdict.TheVariants.{Free, Racy}

-- The phase is that of calls, or it is not.
abbrev pub is_wanted : Bool → Phase → Bool
is_wanted of_calls phase = if of_calls then is_of_calls phase else not (is_of_calls phase)

-- the first point of the trial that breaks its condition
unfoldable pub broken_in : Policy → Trial → Option Point
broken_in policy trial = find (breaks policy) (points policy trial)

abbrev pub shown : Trial → Point → RaceVerdict
shown trial point = Racy trial.condition point.state point.first point.second

-- the first trial with such a point decides
abbrev pub judged : Policy → List Trial → RaceVerdict
judged policy [] = Free
judged policy (trial ∷ others) = option_map_or (shown trial) (broken_in policy trial) (judged policy others)

-- the place of the second clause, or of the one that is tried alone
abbrev pub second_place : Trial → ℕ
second_place trial = option_map_or (λ (c : Placed). c.0) trial.second trial.first.0

abbrev pub too_many : Policy → Trial → RaceFault
too_many policy trial = faults.CellLimit trial.first.0 (second_place trial) (point_count policy trial)

-- that the trial has not too many points, or that it has
abbrev pub small_or_told : Policy → Trial → Result (Unit {0}) RaceFault
small_or_told policy trial = need (is_small policy trial) (too_many policy trial)

-- the first trial that has too many points
abbrev pub all_small : Policy → List Trial → Result (Unit {0}) RaceFault
all_small policy [] = Ok tt
all_small policy (trial ∷ others) = small_or_told policy trial >>= λ small. all_small policy others

-- what is decided over some trials: too many points of any are told before anything is tried
abbrev pub decided_by : Policy → List Trial → Result RaceVerdict RaceFault
decided_by policy all = all_small policy all >>= λ small. Ok (judged policy all)

-- what is decided of the pairs of methods that are tested
abbrev pub decided_for : Pairs → Policy → Result RaceVerdict RaceFault
decided_for tested policy = decided_by policy (trials tested policy)

abbrev pub decided : Policy → Result RaceVerdict RaceFault
decided policy = decided_for all_pairs policy

-- The clauses of the trial are those of the policy, at their places.
pub record AreClausesOf (policy : Policy) (trial : Trial) : Type 0 where
  pub first : IsClauseIn policy.vars policy.maxint trial.first.1
  pub second : IfSome trial.second (λ (c : Placed). IsClauseIn policy.vars policy.maxint c.1)
  pub first_there : slice_get policy.clauses trial.first.0 ≡ Some trial.first.1
  pub second_there : IfSome trial.second (λ (c : Placed). slice_get policy.clauses c.0 ≡ Some c.1)
