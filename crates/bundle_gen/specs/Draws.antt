-- The numbers that a generated program is made of: a linear congruential generator, of whose states the high bits are drawn.
-- (docs/GENERATED.md)
use Rattle.std.specs.Prelude.{ℕ, zero, suc, ◌+◌, ◌*◌, ◌/◌, ◌%◌, ◌^◌}

-- the state after this one
unfoldable pub next_state : ℕ → ℕ
next_state state = (state * 6364136223846793005 + 1442695040888963407) % 2 ^ 64

-- what is drawn in a state: its 31 high bits
unfoldable pub draw : ℕ → ℕ
draw state = state / 2 ^ 33

-- the state after so many draws
unfoldable pub state_after : ℕ → ℕ → ℕ
state_after state zero = state
state_after state (suc n) = state_after (next_state state) n
