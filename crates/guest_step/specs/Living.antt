-- Which threads live: those that have not ended. (docs/RUNS.md)
use Rattle.std.specs.Prelude.{◌<◌, ◌+◌, ◌-◌, ◌^◌, ◌==◌, ℕ, if◌then◌else◌, not, List, [], ◌∷◌, filter, slice_get, Vec, vec_capacity, vec_len}
use Rattle.std.specs.Global.{Global}
use Rattle.std.specs.Option.{option_map_or}
use Rattle.guest_heap.specs.declared.thread.Thread.{Thread}
use Rattle.guest_model.specs.declared.machine.Machine.{Machine}
use Rattle.guest_model.specs.Calling.{has_ended, is_ended}

-- the numbers of those of these threads that live, the first of which has this number
abbrev pub living_from : ℕ → List Thread → List ℕ
living_from number [] = []
living_from number (thread ∷ threads) =
    if is_ended thread.doing then living_from (number + 1) threads else number ∷ living_from (number + 1) threads

abbrev pub living_of : List Thread → List ℕ
living_of threads = living_from 0 threads

-- ---- after a step

-- the numbers, without this one where the thread with it has ended
abbrev pub without_ended : Machine → ℕ → List ℕ → List ℕ
without_ended machine number numbers = if has_ended machine number then filter (λ (other : ℕ). not (other == number)) numbers else numbers

-- this number, if there is a thread with it that lives
abbrev pub living_at : List Thread → ℕ → List ℕ
living_at threads number = option_map_or (λ (t : Thread). living_from number (t ∷ [])) (slice_get threads number) []

-- Where there are so many threads, one more has a number of 32 bits, and the list of those that live takes it without asking for memory.
pub record TakesThread (count : ℕ) (numbers : Vec ℕ Global) : Type 0 where
  pub few : count < 2 ^ 32 - 1
  pub room : vec_len numbers < vec_capacity numbers
