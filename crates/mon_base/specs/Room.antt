-- What a room is seen as: its items, and how many more it takes without asking for memory.
use Rattle.std.specs.Prelude.{ℕ, List}

pub record Held (T : Type 0) : Type 0 where
  pub items : List T
  pub spare : ℕ
