-- What may be there, one after the other. (docs/MACHINE.md)
use Rattle.std.specs.Prelude.{Option, option_and_then}

-- the second with what the first gives, if it gives anything
abbrev pub ◌>>=◌ : {A B : Type 0} → Option A → (A → Option B) → Option B
◌>>=◌ o f = option_and_then f o
