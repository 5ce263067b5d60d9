-- Words that are the decimal text of a number. (docs/COMMANDS.md)
use Rattle.std.specs.Prelude.{◌≡◌, ◌≤◌, ◌<◌, ◌^◌, ℕ, List, decimal}

-- The word is the decimal text of this count, from 1 to `most`.
pub record IsCount (word : List ℕ) (most n : ℕ) : Type 0 where
  pub encoded : word ≡ decimal n
  pub some : 1 ≤ n
  pub within : n ≤ most

-- The word is the decimal text of this number, from 0 to 9,223,372,036,854,775,807.
pub record IsNumber (word : List ℕ) (n : ℕ) : Type 0 where
  pub encoded : word ≡ decimal n
  pub within : n < 2 ^ 63
