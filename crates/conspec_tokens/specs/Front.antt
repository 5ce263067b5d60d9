-- What stands first among tokens. (docs/POLICIES.md)
use Rattle.std.specs.Prelude.{is_some, ℕ, Bool, true, false, List, [], ◌∷◌, bytes_eq, Option, Some, None}
use Rattle.conspec_tokens.specs.declared.token.Lexeme.{Lexeme}
use Rattle.conspec_tokens.specs.declared.token.Lexeme.TheVariants.{Quoted, Name, Number, End}
use Rattle.conspec_tokens.specs.declared.token.Token.{Token}

-- where the first token stands
abbrev pub front_at : List Token → ℕ
front_at [] = 0
front_at (t ∷ others) = t.at

abbrev pub quotes : List ℕ → Lexeme → Bool
quotes text (Quoted word) = bytes_eq word text
quotes text other = false

-- whether the first token is this keyword or sign
abbrev pub is_next : List ℕ → List Token → Bool
is_next text [] = false
is_next text (t ∷ others) = quotes text t.lexeme

abbrev pub ends : Lexeme → Bool
ends End = true
ends other = false

-- whether the first token is the end of the text
abbrev pub is_end : List Token → Bool
is_end [] = false
is_end (t ∷ others) = ends t.lexeme

abbrev pub names : Lexeme → Option (List ℕ)
names (Name word) = Some word
names other = None

-- the name that the first token is
abbrev pub next_name : List Token → Option (List ℕ)
next_name [] = None
next_name (t ∷ others) = names t.lexeme

abbrev pub is_name : List Token → Bool
is_name tokens = is_some (next_name tokens)

abbrev pub counts : Lexeme → Option ℕ
counts (Number n) = Some n
counts other = None

-- the number that the first token is
abbrev pub next_number : List Token → Option ℕ
next_number [] = None
next_number (t ∷ others) = counts t.lexeme
