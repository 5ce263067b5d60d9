-- The parts of texts: pieces between bytes, lines, the letters of names, and names of classes. (docs/LISTINGS.md)
use Rattle.std.specs.Prelude.{◌≡◌, ℕ, Bool, false, ◌||◌, ◌==◌, List, [], ◌∷◌, ◌++◌, length, IsTrue}
use Rattle.std.specs.List.{slice_split, list_all}
use Rattle.std.specs.Char.{is_ascii_digit, is_ascii_alphabetic}

-- what stands before, between and after the places of a byte in a text
abbrev pub pieces : ℕ → List ℕ → List (List ℕ)
pieces byte text = slice_split (λ b. b == byte) text

-- The text is n lines, with a newline after each.
pub record IsLines (n : ℕ) (text : List ℕ) : Type 0 where
  pub lines : List (List ℕ)
  pub ended : pieces 10 text ≡ lines ++ [] ∷ []
  pub count : length lines ≡ n

-- a letter, `_` or `$`
abbrev pub is_name_start : ℕ → Bool
is_name_start b = is_ascii_alphabetic b || (b == 95 || b == 36)

-- a letter, a digit, `_` or `$`
abbrev pub is_name_byte : ℕ → Bool
is_name_byte b = is_name_start b || is_ascii_digit b

-- one or more letters, digits, `_` and `$`
abbrev pub is_segment : List ℕ → Bool
is_segment [] = false
is_segment (b ∷ bytes) = list_all is_name_byte (b ∷ bytes)

-- segments joined by `/`
abbrev pub is_class_name : List ℕ → Bool
is_class_name name = list_all is_segment (pieces 47 name)

abbrev pub IsClassName : List ℕ → Type 0
IsClassName name = IsTrue (is_class_name name)
