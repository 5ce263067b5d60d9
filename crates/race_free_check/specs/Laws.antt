-- That the points are enough, and that what breaks a condition at a point breaks it. (docs/RACES.md)
use Rattle.std.specs.Prelude.{◌≡◌, ℕ, true, Some, None, slice_get}
use Rattle.conspec_automaton.specs.declared.policy.Policy.{Policy}
use Rattle.conspec_automaton.specs.Racing.{IsRaceFreeFor, Pairs}
use Rattle.conspec_automaton.specs.Sound.{IsPolicy}
use Rattle.conspec_automaton.specs.Trying.{Point, Trial, breaks, points, trials}
use Rattle.race_free_check.specs.Deciding.{broken_in}
use Rattle.race_free_check.specs.Shown.{IsShown}

-- A policy whose conditions no point breaks is race-free.
abbrev pub PointsAreEnough : Type 0
PointsAreEnough =
    (tested : Pairs) (policy : Policy) → IsPolicy policy
    → ((i : ℕ) (trial : Trial) → slice_get (trials tested policy) i ≡ Some trial → broken_in policy trial ≡ None)
    → IsRaceFreeFor tested policy

-- A point that breaks a condition is of a state in range and of events that can be, and they break the condition of its trial.
abbrev pub BrokenPointsShow : Type 0
BrokenPointsShow =
    (tested : Pairs) (policy : Policy) → IsPolicy policy
    → (i j : ℕ) (trial : Trial) (point : Point) → slice_get (trials tested policy) i ≡ Some trial → slice_get (points policy trial) j ≡ Some point
    → breaks policy point ≡ true → IsShown tested policy trial.condition point.state point.first point.second

-- A policy of which a point breaks a condition is not race-free.
abbrev pub BrokenPointsRace : Type 0
BrokenPointsRace =
    (tested : Pairs) (policy : Policy) → IsPolicy policy
    → (i j : ℕ) (trial : Trial) (point : Point) → slice_get (trials tested policy) i ≡ Some trial → slice_get (points policy trial) j ≡ Some point
    → breaks policy point ≡ true → IsRaceFreeFor tested policy → ⊥
