-- The first place where something is found. (docs/CERTIFICATES.md)
use Rattle.std.specs.Prelude.{ℕ, zero, suc, ◌+◌, Option, Some, None, option_map}

abbrev pub or_else : {A : Type 0} → Option A → Option A → Option A
or_else (Some x) later = Some x
or_else None later = later

-- what was found, beside the place where it was
abbrev pub placed : {A : Type 0} → ℕ → Option A → Option (ℕ × A)
placed at found = option_map (λ x. (at, x)) found

-- the first of so many places from one on at which a search finds something
abbrev pub first_from : {A : Type 0} → (ℕ → Option A) → ℕ → ℕ → Option (ℕ × A)
first_from search at zero = None
first_from search at (suc n) = or_else (placed at (search at)) (first_from search (at + 1) n)
