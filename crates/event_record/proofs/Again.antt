-- What is printed is read again: values.
use Rattle.std.proofs.Common.{◌≡◌, ◌≢◌, ◌≤ℤ◌, ℕ, suc, add-one, ◌+◌, ◌*◌, ◌/◌, ◌%◌, ◌<◌, ◌^◌, ℤ, pos, negsuc, Bool, true, false, cond, List, [], ◌∷◌, ◌++◌, length, take, drop, Option, Some, None, Ok, refl, sym, ap, ◌∙◌, subst, arith, FitsSigned, append_assoc}
use Rattle.std.specs.Prelude.{◌==◌, nat_lt, int_le, bytes_eq, codes, decimal, option_and_then}
use Rattle.std.specs.Fmt.{signed_decimal}
use Rattle.std.specs.Int.{w32, w64}
use Rattle.std.specs.List.{AllByRecursion, flat_map}
use Rattle.std.specs.Char.{digit_value}
use Rattle.std.specs.Str.Parse.{AllDigits}
use Rattle.std.proofs.lemmas.Bool.{lt-ltb, eqb-true}
use Rattle.std.proofs.lemmas.Fmt.{decimal_is_IsNumeral, decimal_nonempty}
use Rattle.std.proofs.lemmas.Int.{ints}
use Rattle.std.proofs.lemmas.Slice.Eq.{bytes_eq-Decides}
use Rattle.mon_base.specs.Reading.{◌>>=◌}
use Rattle.api_listing.specs.Fault.{Read}
use Rattle.api_listing.specs.declared.events.ApiValue.{ApiValue}
use Rattle.api_listing.specs.declared.events.ApiValue.TheVariants.{Int, Null, Text, Obj, Class}
use Rattle.event_record.specs.Number.{as_index, as_int, index_of, int_of}
use Rattle.event_record.specs.Printing.{IsValue}
use Rattle.event_record.specs.Value.{byte_at, bytes_from, class_value, digit_at, hex, hex_at, hex_byte, hex_digit, int_value, last_at, object_parts, object_value, text_value, value_at, value_word}
use Rattle.event_record.proofs.Numbers.{number_again}

-- ---- numbers

pub index_again : (n : ℕ) → n < 2 ^ 32 → index_of (decimal n) ≡ Some n
index_again n small =
    let fits : FitsSigned w64 (pos n) = omega (arith, ints) in
    let test : nat_lt n 4294967296 ≡ true = lt-ltb n 4294967296 small in
    ap (option_and_then as_index) (number_again (pos n) fits) ∙ rw test refl

int_test : (a b : ℤ) → a ≤ℤ b → int_le a b ≡ true
int_test a b h = grind (arith, ints)

pub int_again : (n : ℤ) → FitsSigned w32 n → int_of (signed_decimal n) ≡ Some n
int_again n f =
    let fits : FitsSigned w64 n = omega (arith, ints) in
    let low : int_le (negsuc 2147483647) n ≡ true = int_test (negsuc 2147483647) n (omega (arith, ints)) in
    let high : int_le n (pos 2147483647) ≡ true = int_test n (pos 2147483647) (omega (arith, ints)) in
    ap (option_and_then as_int) (number_again n fits) ∙ rw (low, high) refl

-- ---- bytes

digit_again : (n : ℕ) → n < 16 → digit_at (hex_digit n) ≡ Ok n
digit_again n small = by (nat_lt n 10) refl where
  by : (b : Bool) → nat_lt n 10 ≡ b → digit_at (cond b (48 + n) (87 + n)) ≡ Ok n
  by true is = grind (arith, is)
  by false is = grind (arith, is)

byte_again : (b : ℕ) → b < 256 → byte_at (hex_digit (b / 16)) (hex_digit (b % 16)) ≡ Ok b
byte_again b small =
    let high = digit_again (b / 16) (omega arith) in
    let low = digit_again (b % 16) (omega arith) in
    let whole : 16 * (b / 16) + b % 16 ≡ b = omega arith in
    rw (high, low) (ap Ok whole)

bytes_again : (done bytes : List ℕ) → AllByRecursion (λ b. b < 256) bytes → bytes_from done (flat_map hex_byte bytes) ≡ Ok (done ++ bytes)
bytes_again done [] small = ap Ok (sym (append_none done)) where
  append_none : (xs : List ℕ) → xs ++ [] ≡ xs
  append_none [] = refl
  append_none (x ∷ xs) = ap (λ (t : List ℕ). x ∷ t) (append_none xs)
bytes_again done (b ∷ bytes) small =
    ap (λ (r : Read ℕ). r >>= λ x. bytes_from (done ++ x ∷ []) (flat_map hex_byte bytes)) (byte_again b small.0)
    ∙ bytes_again (done ++ b ∷ []) bytes small.1 ∙ ap Ok (append_assoc done (b ∷ []) bytes)

not_dash : (x y : ℕ) (rest : List ℕ) → bytes_eq (x ∷ y ∷ rest) (codes "-") ≡ false
not_dash x y rest = by (bytes_eq (x ∷ y ∷ rest) (codes "-")) refl where
  by : (b : Bool) → bytes_eq (x ∷ y ∷ rest) (codes "-") ≡ b → b ≡ false
  by false is = refl
  by true is = let same : x ∷ y ∷ rest ≡ codes "-" = (bytes_eq-Decides (x ∷ y ∷ rest) (codes "-")).0 is in absurd (omega (arith, ap length same))

pub hex_again : (bytes : List ℕ) → AllByRecursion (λ b. b < 256) bytes → hex_at (hex bytes) ≡ Ok bytes
unfolding hex_at
hex_again [] small = refl
hex_again (b ∷ bytes) small =
    let some : nat_lt 0 (length (flat_map hex_byte (b ∷ bytes))) ≡ true = lt-ltb 0 (length (flat_map hex_byte (b ∷ bytes))) (omega arith) in
    rw (not_dash (hex_digit (b / 16)) (hex_digit (b % 16)) (flat_map hex_byte bytes), some) (bytes_again [] (b ∷ bytes) small)

-- ---- objects

no_at : (text : List ℕ) (place : ℕ) (known : Option ℕ) → AllByRecursion (λ b. (b == 64) ≡ false) text → last_at place known text ≡ known
no_at [] place known none = refl
no_at (b ∷ text) place known none = rw none.0 (no_at text (place + 1) known none.1)

last_of : (class digits : List ℕ) (place : ℕ) (known : Option ℕ) → AllByRecursion (λ b. (b == 64) ≡ false) digits → last_at place known (class ++ 64 ∷ digits) ≡ Some (place + length class)
last_of [] digits place known none = no_at digits (place + 1) (Some place) none ∙ ap Some (omega arith)
last_of (b ∷ class) digits place known none = last_of class digits (place + 1) (cond (b == 64) (Some place) known) none ∙ ap Some (omega arith)

digit_low : (c : ℕ) → c ≡ 64 → digit_value c < 10 → ⊥
digit_low c same low = let at : digit_value 64 < 10 = subst (λ (x : ℕ). digit_value x < 10) same low in absurd (omega (arith, at))

not_at : (c : ℕ) → digit_value c < 10 → (c == 64) ≡ false
not_at c low = by (c == 64) refl where
  by : (b : Bool) → (c == 64) ≡ b → b ≡ false
  by false is = refl
  by true is = absurd (digit_low c (eqb-true c 64 is) low)

no_sign : (text : List ℕ) → AllDigits 10 text → AllByRecursion (λ b. (b == 64) ≡ false) text
no_sign [] all = tt
no_sign (c ∷ text) all = (not_at c all.0, no_sign text all.1)

pub front_of : (class rest : List ℕ) → take (length class) (class ++ rest) ≡ class
front_of [] rest = refl
front_of (b ∷ class) rest = ap (λ (t : List ℕ). b ∷ t) (front_of class rest)

after_suc : (class rest : List ℕ) → drop (suc (length class)) (class ++ 64 ∷ rest) ≡ rest
after_suc [] rest = refl
after_suc (b ∷ class) rest = after_suc class rest

pub after_of : (class rest : List ℕ) → drop (length class + 1) (class ++ 64 ∷ rest) ≡ rest
after_of class rest = rw add-one (after_suc class rest)

some_of : (class : List ℕ) → class ≢ [] → nat_lt 0 (length class) ≡ true
some_of [] some = absurd (some refl)
some_of (b ∷ class) some = lt-ltb 0 (length (b ∷ class)) (omega arith)

object_again : (class : List ℕ) (at : ℕ) → class ≢ [] → at < 2 ^ 32 → object_value (class ++ 64 ∷ decimal at) ≡ Ok (Obj class at)
unfolding object_value object_parts
object_again class at some small =
    let digits = (decimal_is_IsNumeral at (omega arith)).0 in
    let place : last_at 0 None (class ++ 64 ∷ decimal at) ≡ Some (length class) = last_of class (decimal at) 0 None (no_sign (decimal at) digits.1) ∙ ap Some (omega arith) in
    let index : index_of (drop (length class + 1) (class ++ 64 ∷ decimal at)) ≡ Some at = ap index_of (after_of class (decimal at)) ∙ index_again at small in
    rw (place, some_of class some, index, front_of class (64 ∷ decimal at)) refl

class_again : (class : List ℕ) → class ≢ [] → class_value class ≡ Ok (Class class)
unfolding class_value
class_again class some = rw (some_of class some) refl

text_again : (bytes : List ℕ) → AllByRecursion (λ b. b < 256) bytes → text_value (hex bytes) ≡ Ok (Text bytes)
unfolding text_value
text_again bytes small = rw (hex_again bytes small) refl

number_value_again : (n : ℤ) → FitsSigned w32 n → int_value (signed_decimal n) ≡ Ok (Int n)
unfolding int_value
number_value_again n fits = rw (int_again n fits) refl

-- ---- words

-- a number begins with a digit or `-`
abbrev BeginsNumber : List ℕ → Type 0
BeginsNumber text = (b : ℕ) × (rest : List ℕ) × (text ≡ b ∷ rest) × (b < 58)

digit_small : (c : ℕ) → digit_value c < 10 → c < 58
digit_small c low = grind (arith, low)

number_begins : (n : ℤ) → FitsSigned w32 n → BeginsNumber (signed_decimal n)
number_begins (negsuc n) fits = (45, decimal (suc n), refl, omega arith)
number_begins (pos n) fits = by (decimal n) refl (decimal_nonempty n small) (decimal_is_IsNumeral n small).0.1 where
  small : n < 2 ^ 64
  small = omega (arith, ints)

  by : (text : List ℕ) → decimal n ≡ text → 0 < length text → AllDigits 10 text → BeginsNumber (decimal n)
  by [] is some digits = absurd (omega arith)
  by (b ∷ rest) is some digits = (b, rest, is, digit_small b digits.0)

-- such a word is none of those that begin with a letter
number_word : (b : ℕ) (rest : List ℕ) → b < 58 → value_at (b ∷ rest) ≡ int_value (b ∷ rest)
unfolding value_at
number_word b rest small =
    let n : (b == 110) ≡ false = grind arith in
    let t : (116 == b) ≡ false = grind arith in
    let o : (111 == b) ≡ false = grind arith in
    let c : (99 == b) ≡ false = grind arith in
    rw (n, t, o, c) refl

pub value_again : (value : ApiValue) → IsValue value → value_at (value_word value) ≡ Ok value
unfolding value_at
value_again (Int n) fits =
    let begins = number_begins n fits in
    ap value_at begins.2 ∙ number_word begins.0 begins.1 begins.3 ∙ ap int_value (sym begins.2) ∙ number_value_again n fits
value_again Null ok = refl
value_again (Text bytes) small = text_again bytes small
value_again (Obj class at) ok = object_again class at ok.0 ok.2
value_again (Class class) ok = class_again class ok.0
