-- The pieces of a text that are left to be read, and how the first is taken off. (docs/RECORDS.md)
use Rattle.std.specs.Prelude.{◌≡◌, ℕ, List, [], ◌∷◌, Option, Some, None}
use Rattle.api_listing.specs.Words.{pieces}

-- the pieces of what is left of a text, if anything is
abbrev pub pieces_left : ℕ → Option (List ℕ) → List (List ℕ)
pieces_left byte None = []
pieces_left byte (Some text) = pieces byte text

-- The first piece was taken off, if there was one.
abbrev pub IsTaken : Option (List ℕ) → List (List ℕ) → List (List ℕ) → Type 0
IsTaken None before after = (before ≡ []) × (after ≡ [])
IsTaken (Some piece) before after = before ≡ piece ∷ after

-- The text is its first piece and a rest after the byte, or it is its only piece.
abbrev pub IsSplit : ℕ → List ℕ → Option (List ℕ × List ℕ) → Type 0
IsSplit byte text None = pieces byte text ≡ text ∷ []
IsSplit byte text (Some (piece, rest)) = pieces byte text ≡ piece ∷ pieces byte rest
