-- What a device that fails after some calls is seen as. (docs/RUNS.md)
use Rattle.std.specs.Prelude.{ℕ}

-- How many more calls it answers, and how many faults there were.
pub record FusedState : Type 0 where
  pub passes : ℕ
  pub faults : ℕ
