-- The tokens of a policy's text. (docs/POLICIES.md)
use Rattle.std.specs.Prelude.{min, ℕ, zero, suc, ◌+◌, ◌-◌, ◌*◌, ◌==◌, ◌||◌, ◌&&◌, Bool, true, false, List, [], ◌∷◌, ◌++◌, length, take, codes, nat_eq, nat_lt, Option, Some, None, if◌then◌else◌}
use Rattle.std.specs.Option.{option_map_or}
use Rattle.std.specs.List.{starts_with, prefix_len}
use Rattle.std.specs.Char.{is_ascii_digit}
use Rattle.api_listing.specs.Words.{is_name_start, is_name_byte}
use Rattle.conspec_tokens.specs.declared.token.Lexeme.{Lexeme}
use Rattle.conspec_tokens.specs.declared.token.Lexeme.TheVariants.{Quoted, Name, Number, Wrong, End}
use Rattle.conspec_tokens.specs.declared.token.Token.{Token}
use Rattle.conspec_tokens.specs.declared.scanning.Spot.{Spot}
use Rattle.conspec_tokens.specs.declared.scanning.Spot.TheVariants.{Comment, Inside}
use Rattle.conspec_tokens.specs.declared.scanning.Piece.{Piece}
use Rattle.conspec_tokens.specs.declared.scanning.Piece.TheVariants.{Skips, Begins}
use Rattle.conspec_tokens.specs.Words.{is_keyword, signs}

-- ---- one token

-- the greatest number that a token keeps: it stands for every greater one, and no number of a policy is so great
abbrev pub most : ℕ
most = 10000000000

-- the number of which these are the further digits
abbrev pub number_from : ℕ → List ℕ → ℕ
number_from n [] = n
number_from n (digit ∷ digits) = number_from (min (n * 10 + (digit - 48)) most) digits

-- A longer run of digits does not begin with `0`.
abbrev pub number_of : List ℕ → Lexeme
number_of [] = Wrong
number_of (b ∷ bytes) = if b == 48 && nat_lt 0 (length bytes) then Wrong else Number (number_from 0 (b ∷ bytes))

abbrev pub word_of : List ℕ → Lexeme
word_of word = if is_keyword word then Quoted word else Name word

-- how many bytes the first of the signs has with which the text begins
abbrev pub first_sign : List (List ℕ) → List ℕ → ℕ
first_sign [] text = 0
first_sign (sign ∷ others) text = if starts_with nat_eq text sign then length sign else first_sign others text

abbrev pub sign_of : List ℕ → Lexeme
sign_of [] = Wrong
sign_of (b ∷ bytes) = Quoted (b ∷ bytes)

-- a token that begins here, with how many bytes more
abbrev pub word_at : List ℕ → Piece
word_at text = Begins (word_of (take (prefix_len is_name_byte text) text)) (prefix_len is_name_byte text - 1)

abbrev pub digits_at : List ℕ → Piece
digits_at text = Begins (number_of (take (prefix_len is_ascii_digit text) text)) (prefix_len is_ascii_digit text - 1)

abbrev pub sign_at : List ℕ → Piece
sign_at text = Begins (sign_of (take (first_sign signs text) text)) (first_sign signs text - 1)

-- The longest token that fits begins here, with the byte b.
abbrev pub token_at : ℕ → List ℕ → Piece
token_at b text =
    if is_name_start b then word_at text
    else if is_ascii_digit b then digits_at text
    else sign_at text

-- ---- the text, byte by byte

-- a space, a tab, a newline or a carriage return
abbrev pub is_blank : ℕ → Bool
is_blank b = (b == 32 || b == 9) || (b == 10 || b == 13)

-- `//` begins the text
abbrev pub begins_comment : List ℕ → Bool
begins_comment text = starts_with nat_eq text (codes "//")

-- what the byte b, the first of the text, is between tokens
abbrev pub in_gap : ℕ → List ℕ → Piece
in_gap b text =
    if is_blank b then Skips (Inside 0)
    else if begins_comment text then Skips Comment
    else token_at b text

-- what it is where it stands. A newline ends a comment.
abbrev pub seen : Spot → ℕ → List ℕ → Piece
seen Comment b text = if b == 10 then Skips (Inside 0) else Skips Comment
seen (Inside zero) b text = in_gap b text
seen (Inside (suc n)) b text = Skips (Inside n)

abbrev pub token : ℕ → Lexeme → Token
token at lexeme = record { at = at; lexeme = lexeme }

-- the token that begins
abbrev pub begun : ℕ → Piece → List Token
begun at (Skips spot) = []
begun at (Begins lexeme more) = token at lexeme ∷ []

abbrev pub is_wrong : Lexeme → Bool
is_wrong Wrong = true
is_wrong other = false

-- where the next byte stands. Nothing is read after bytes that begin no token.
abbrev pub next_spot : Piece → Option Spot
next_spot (Skips spot) = Some spot
next_spot (Begins lexeme more) = if is_wrong lexeme then None else Some (Inside more)

-- the tokens from here on, and their end
abbrev pub tokens_from : Spot → ℕ → List ℕ → List Token
tokens_from spot at [] = token at End ∷ []
tokens_from spot at (b ∷ rest) =
    begun at (seen spot b (b ∷ rest)) ++ option_map_or (λ next. tokens_from next (at + 1) rest) (next_spot (seen spot b (b ∷ rest))) []

-- the tokens of the text: the last is its end, or the first bytes that begin none
unfoldable pub tokens_of : List ℕ → List Token
tokens_of text = tokens_from (Inside 0) 0 text
