-- The words and signs that the grammar of policies quotes, and the names. (docs/POLICIES.md)
use Rattle.std.specs.Prelude.{ℕ, Bool, List, [], ◌∷◌, codes, bytes_eq}
use Rattle.std.specs.List.{list_any}

-- the words that no name may be
abbrev pub keywords : List (List ℕ)
keywords =
    codes "MAXINT" ∷ codes "SCOPE" ∷ codes "Session" ∷ codes "SECURITY" ∷ codes "STATE"
    ∷ codes "BEFORE" ∷ codes "AFTER" ∷ codes "EXCEPTIONAL" ∷ codes "PERFORM" ∷ codes "ELSE"
    ∷ codes "void" ∷ codes "int" ∷ codes "bool" ∷ codes "boolean" ∷ codes "byte" ∷ codes "short" ∷ codes "char"
    ∷ codes "true" ∷ codes "false" ∷ []

abbrev pub is_keyword : List ℕ → Bool
is_keyword word = list_any (λ k. bytes_eq word k) keywords

-- the signs: one that begins with another stands before it
abbrev pub signs : List (List ℕ)
signs =
    codes "<init>" ∷ codes "->" ∷ codes "||" ∷ codes "&&" ∷ codes "==" ∷ codes "!=" ∷ codes "<=" ∷ codes ">="
    ∷ codes "=" ∷ codes ";" ∷ codes "." ∷ codes "," ∷ codes "(" ∷ codes ")" ∷ codes "[" ∷ codes "]"
    ∷ codes "{" ∷ codes "}" ∷ codes "<" ∷ codes ">" ∷ codes "+" ∷ codes "-" ∷ []
