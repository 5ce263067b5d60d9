-- Bytes encoded in hexadecimal digits.
use Rattle.std.specs.Prelude.{ℕ, ◌+◌, ◌-◌, ◌*◌, ◌&&◌, nat_le, List, [], ◌∷◌, if◌then◌else◌}

-- the value of a digit; that of another character is 0
abbrev pub digit : ℕ → ℕ
digit c =
    if nat_le 48 c && nat_le c 57 then c - 48
    else if nat_le 97 c && nat_le c 102 then c - 97 + 10
    else 0

-- the bytes that pairs of digits encode
abbrev pub encoded : List ℕ → List ℕ
encoded (high ∷ low ∷ rest) = (16 * digit high + digit low) ∷ encoded rest
encoded other = []
