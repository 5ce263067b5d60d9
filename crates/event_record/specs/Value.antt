-- Values as words: how they are encoded, and how they are read. (docs/RECORDS.md)
use Rattle.std.specs.Prelude.{ℕ, ◌+◌, ◌-◌, ◌*◌, ◌/◌, ◌%◌, ◌==◌, ◌&&◌, Bool, nat_eq, nat_le, nat_lt, bytes_eq, codes, List, [], ◌∷◌, ◌++◌, length, take, drop, decimal, Option, Some, None, Ok, Err, ok_or, if◌then◌else◌}
use Rattle.std.specs.Fmt.{signed_decimal}
use Rattle.std.specs.List.{flat_map, starts_with}
use Rattle.mon_base.specs.Reading.{◌>>=◌, need}
use Rattle.api_listing.specs.Fault.{Read}
use Rattle.api_listing.specs.declared.events.ApiValue.{ApiValue}
use Rattle.api_listing.specs.declared.events.ApiValue.TheVariants.{Int, Null, Text, Obj, Class}
use Rattle.api_listing.specs.declared.fault.FormFault.TheVariants.{NoForm}
use Rattle.event_record.specs.Number.{int_of, index_of}

-- ---- encoding

abbrev pub hex_digit : ℕ → ℕ
hex_digit n = if nat_lt n 10 then 48 + n else 87 + n

abbrev pub hex_byte : ℕ → List ℕ
hex_byte b = hex_digit (b / 16) ∷ hex_digit (b % 16) ∷ []

-- two digits for each byte, or `-` for none
abbrev pub hex : List ℕ → List ℕ
hex [] = codes "-"
hex (b ∷ bytes) = flat_map hex_byte (b ∷ bytes)

abbrev pub value_word : ApiValue → List ℕ
value_word (Int n) = signed_decimal n
value_word Null = codes "null"
value_word (Text bytes) = codes "text:" ++ hex bytes
value_word (Obj class at) = codes "obj:" ++ class ++ 64 ∷ decimal at
value_word (Class class) = codes "class:" ++ class

-- ---- reading

abbrev pub digit_at : ℕ → Read ℕ
digit_at b =
    if nat_le 48 b && nat_le b 57 then Ok (b - 48)
    else if nat_le 97 b && nat_le b 102 then Ok (b - 87)
    else Err NoForm

abbrev pub byte_at : ℕ → ℕ → Read ℕ
byte_at high low = digit_at high >>= λ h. digit_at low >>= λ l. Ok (16 * h + l)

-- these bytes, and after them those of the pairs of digits
abbrev pub bytes_from : List ℕ → List ℕ → Read (List ℕ)
bytes_from bytes [] = Ok bytes
bytes_from bytes (b ∷ []) = Err NoForm
bytes_from bytes (high ∷ low ∷ rest) = byte_at high low >>= λ b. bytes_from (bytes ++ b ∷ []) rest

-- `-`, or pairs of digits, at least one
unfoldable pub hex_at : List ℕ → Read (List ℕ)
hex_at text = if bytes_eq text (codes "-") then Ok [] else (need (nat_lt 0 (length text)) NoForm >>= λ some. bytes_from [] text)

-- the place of the last `@` from here on, or else the one that is known
abbrev pub last_at : ℕ → Option ℕ → List ℕ → Option ℕ
last_at place known [] = known
last_at place known (b ∷ text) = last_at (place + 1) (if b == 64 then Some place else known) text

unfoldable pub text_value : List ℕ → Read ApiValue
text_value text = hex_at text >>= λ bytes. Ok (Text bytes)

-- the class before the place, and the number after it
unfoldable pub object_parts : List ℕ → ℕ → Read ApiValue
object_parts text place = do
  some ← need (nat_lt 0 place) NoForm
  at ← ok_or (index_of (drop (place + 1) text)) NoForm
  Ok (Obj (take place text) at)

unfoldable pub object_value : List ℕ → Read ApiValue
object_value text = ok_or (last_at 0 None text) NoForm >>= λ place. object_parts text place

unfoldable pub class_value : List ℕ → Read ApiValue
class_value text = need (nat_lt 0 (length text)) NoForm >>= λ some. Ok (Class text)

unfoldable pub int_value : List ℕ → Read ApiValue
int_value text = ok_or (int_of text) NoForm >>= λ n. Ok (Int n)

abbrev pub begins : List ℕ → List ℕ → Bool
begins front text = starts_with nat_eq text front

unfoldable pub value_at : List ℕ → Read ApiValue
value_at word =
    if bytes_eq word (codes "null") then Ok Null
    else if begins (codes "text:") word then text_value (drop 5 word)
    else if begins (codes "obj:") word then object_value (drop 4 word)
    else if begins (codes "class:") word then class_value (drop 6 word)
    else int_value word
