-- What a sink tells of its text, and what a call does to it. (docs/PROMISES.md)
use Rattle.std.specs.Prelude.{◌≡◌, ℕ, List, ◌++◌, Option, option_map}
use Rattle.mon_store.specs.Store.{IsFrontOf}

-- The text is the old one and then this piece. A sink that does not tell stays so.
abbrev pub Appends : Option (List ℕ) → Option (List ℕ) → List ℕ → Type 0
Appends old new piece = new ≡ option_map (λ text. text ++ piece) old

-- The text is the old one and then a front of this piece.
abbrev pub AppendsFront : Option (List ℕ) → Option (List ℕ) → List ℕ → Type 0
AppendsFront old new piece = (front : List ℕ) × (IsFrontOf front piece) × Appends old new front
