-- Numbers among the words of a record: decimal digits without zeros in front, after `-` below zero. (docs/RECORDS.md)
use Rattle.std.specs.Prelude.{ℕ, ℤ, pos, negsuc, neg_ℤ, ◌^◌, ◌&&◌, ◌==◌, Bool, true, false, nat_lt, int_le, bytes_eq, List, [], ◌∷◌, Option, Some, None, option_and_then, if◌then◌else◌}
use Rattle.std.specs.Fmt.{signed_decimal}
use Rattle.std.specs.Str.Parse.{digits_value}

-- the number that digits, or `-` and digits, stand for
abbrev pub value_of : List ℕ → ℤ
value_of [] = pos 0
value_of (b ∷ digits) = if b == 45 then neg_ℤ (pos (digits_value 10 digits)) else pos (digits_value 10 (b ∷ digits))

abbrev pub fits_64 : ℤ → Bool
fits_64 (pos n) = nat_lt n (2 ^ 63)
fits_64 (negsuc n) = nat_lt n (2 ^ 63)

-- the number of 64 bits that is written so
abbrev pub number_of : List ℕ → Option ℤ
number_of text = if fits_64 (value_of text) && bytes_eq (signed_decimal (value_of text)) text then Some (value_of text) else None

abbrev pub as_int : ℤ → Option ℤ
as_int n = if int_le (negsuc 2147483647) n && int_le n (pos 2147483647) then Some n else None

abbrev pub as_index : ℤ → Option ℕ
as_index (pos n) = if nat_lt n 4294967296 then Some n else None
as_index (negsuc n) = None

abbrev pub as_count : ℤ → Bool
as_count (pos n) = true
as_count (negsuc n) = false

-- a number with a sign, of 32 bits
abbrev pub int_of : List ℕ → Option ℤ
int_of text = option_and_then as_int (number_of text)

-- a number without a sign, of 32 bits
abbrev pub index_of : List ℕ → Option ℕ
index_of text = option_and_then as_index (number_of text)
