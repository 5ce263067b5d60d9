-- Words without a space and a newline.
use Rattle.std.proofs.Common.{◌≡◌, ◌≢◌, ◌⊎◌, inl, inr, ℕ, suc, zero, ◌+◌, ◌/◌, ◌%◌, ◌<◌, ◌^◌, ℤ, pos, negsuc, Bool, true, false, cond, List, [], ◌∷◌, ◌++◌, drop, map, refl, sym, subst, arith, FitsSigned}
use Rattle.std.specs.Prelude.{All, ◌==◌, nat_lt, codes, decimal}
use Rattle.std.specs.Char.{digit_value}
use Rattle.std.specs.Fmt.{signed_decimal}
use Rattle.std.specs.Int.{w32}
use Rattle.std.specs.List.{AllByRecursion, flat_map, list_all, onto_first, join_with_byte}
use Rattle.std.specs.Str.Parse.{AllDigits}
use Rattle.std.proofs.lemmas.Bool.{and_parts, ne_eqb}
use Rattle.std.proofs.lemmas.Bool.Decides.{eqb_tells}
use Rattle.std.proofs.lemmas.Fmt.{decimal_is_IsNumeral}
use Rattle.std.proofs.lemmas.Int.{ints}
use Rattle.std.proofs.lemmas.List.Elements.{All-from_recursion}
use Rattle.std.proofs.lemmas.List.Splits.{slice_split-cons_no, slice_split-cons_yes}
use Rattle.api_listing.specs.Words.{pieces}
use Rattle.api_listing.specs.declared.events.ApiValue.{ApiValue}
use Rattle.api_listing.specs.declared.events.ApiValue.TheVariants.{Int, Null, Text, Obj, Class}
use Rattle.event_record.specs.Printing.{HasNoBreak, IsValue}
use Rattle.event_record.specs.Value.{hex, hex_byte, hex_digit, value_word}

-- ---- all of a list

pub each : {X : Type 0} (P Q : X → Type 0) → ((x : X) → P x → Q x) → (xs : List X) → AllByRecursion P xs → AllByRecursion Q xs
each P Q step [] all = tt
each P Q step (x ∷ xs) all = (step x all.0, each P Q step xs all.1)

pub joined : {X : Type 0} (P : X → Type 0) (xs ys : List X) → AllByRecursion P xs → AllByRecursion P ys → AllByRecursion P (xs ++ ys)
joined P [] ys all others = others
joined P (x ∷ xs) ys all others = (all.0, joined P xs ys all.1 others)

pub front : {X : Type 0} (P : X → Type 0) (xs ys : List X) → AllByRecursion P (xs ++ ys) → AllByRecursion P xs
front P [] ys all = tt
front P (x ∷ xs) ys all = (all.0, front P xs ys all.1)

pub left : {X : Type 0} (P : X → Type 0) (n : ℕ) (xs : List X) → AllByRecursion P xs → AllByRecursion P (drop n xs)
left P n [] all = by n where
  by : (n : ℕ) → AllByRecursion P (drop n [])
  by zero = tt
  by (suc n) = tt
left P zero (x ∷ xs) all = all
left P (suc n) (x ∷ xs) all = left P n xs all.1

-- ---- words of numbers and bytes

abbrev IsNoBreak : ℕ → Type 0
IsNoBreak b = (b ≢ 32) × (b ≢ 10)

far : (b : ℕ) → 32 < b → IsNoBreak b
far b high = (λ e. omega arith, λ e. omega arith)

digit : (c : ℕ) → digit_value c < 10 → IsNoBreak c
digit c low = (λ e. space (subst (λ (x : ℕ). digit_value x < 10) e low), λ e. line (subst (λ (x : ℕ). digit_value x < 10) e low)) where
  space : digit_value 32 < 10 → ⊥
  space low = omega (arith, low)

  line : digit_value 10 < 10 → ⊥
  line low = omega (arith, low)

digits : (text : List ℕ) → AllDigits 10 text → HasNoBreak text
digits [] all = tt
digits (c ∷ text) all = (digit c all.0, digits text all.1)

pub decimal_word : (n : ℕ) → n < 2 ^ 64 → HasNoBreak (decimal n)
decimal_word n small = digits (decimal n) (decimal_is_IsNumeral n small).0.1

pub signed_word : (n : ℤ) → FitsSigned w32 n → HasNoBreak (signed_decimal n)
signed_word (pos n) fits = decimal_word n (omega (arith, ints))
signed_word (negsuc n) fits = (far 45 (omega arith), decimal_word (suc n) (omega (arith, ints)))

hex_letter : (n : ℕ) → IsNoBreak (hex_digit n)
hex_letter n = by (nat_lt n 10) where
  by : (b : Bool) → IsNoBreak (cond b (48 + n) (87 + n))
  by true = far (48 + n) (omega arith)
  by false = far (87 + n) (omega arith)

hex_letters : (bytes : List ℕ) → HasNoBreak (flat_map hex_byte bytes)
hex_letters [] = tt
hex_letters (b ∷ bytes) = (hex_letter (b / 16), (hex_letter (b % 16), hex_letters bytes))

pub hex_word : (bytes : List ℕ) → HasNoBreak (hex bytes)
hex_word [] = (far 45 (omega arith), tt)
hex_word (b ∷ bytes) = hex_letters (b ∷ bytes)

-- a word that is written out
abbrev tells_no_break : ℕ → Bool
tells_no_break b = nat_lt 32 b

pub written : (word : List ℕ) → list_all tells_no_break word ≡ true → HasNoBreak word
written [] e = tt
written (b ∷ word) e =
    let parts = and_parts (nat_lt 32 b) (list_all tells_no_break word) e in
    (far b (grind (arith, parts.0)), written word parts.1)

pub value_is_word : (value : ApiValue) → IsValue value → HasNoBreak (value_word value)
value_is_word (Int n) fits = signed_word n fits
value_is_word Null ok = written (codes "null") refl
value_is_word (Text bytes) small = joined IsNoBreak (codes "text:") (hex bytes) (written (codes "text:") refl) (hex_word bytes)
value_is_word (Obj class at) ok =
    let number : HasNoBreak (64 ∷ decimal at) = (far 64 (omega arith), decimal_word at (omega (arith, ok.2))) in
    joined IsNoBreak (codes "obj:") (class ++ 64 ∷ decimal at) (written (codes "obj:") refl) (joined IsNoBreak class (64 ∷ decimal at) ok.1 number)
value_is_word (Class class) ok = joined IsNoBreak (codes "class:") class (written (codes "class:") refl) ok.1

pub values_are_words : (values : List ApiValue) → AllByRecursion IsValue values → AllByRecursion HasNoBreak (map value_word values)
values_are_words [] all = tt
values_are_words (v ∷ values) all = (value_is_word v all.0, values_are_words values all.1)

-- ---- words in lines

pub no_space : (word : List ℕ) → HasNoBreak word → All (λ b. (b == 32) ≡ false) word
no_space word clear = All-from_recursion (λ (b : ℕ). (b == 32) ≡ false) word (each IsNoBreak (λ (b : ℕ). (b == 32) ≡ false) (λ b apart. ne_eqb b 32 apart.0) word clear)

abbrev pub IsInLine : ℕ → Type 0
IsInLine b = b ≢ 10

-- words with a space between two make no newline
pub in_line : (words : List (List ℕ)) → AllByRecursion HasNoBreak words → AllByRecursion IsInLine (join_with_byte 32 words)
in_line [] all = tt
in_line (word ∷ []) all = each IsNoBreak IsInLine (λ b apart. apart.1) word all.0
in_line (word ∷ next ∷ words) all =
    let space : IsInLine 32 = λ e. omega (arith, e) in
    joined IsInLine word (32 ∷ join_with_byte 32 (next ∷ words)) (each IsNoBreak IsInLine (λ b apart. apart.1) word all.0) (space, in_line (next ∷ words) all.1)

pub no_newline : (line : List ℕ) → AllByRecursion IsInLine line → All (λ b. (b == 10) ≡ false) line
no_newline line clear = All-from_recursion (λ (b : ℕ). (b == 10) ≡ false) line (each IsInLine (λ (b : ℕ). (b == 10) ≡ false) (λ b apart. ne_eqb b 10 apart) line clear)

-- ---- pieces

module _ (P Q : ℕ → Type 0) (byte : ℕ) (step : (b : ℕ) → P b → b ≢ byte → Q b) where
  put : (b : ℕ) (parts : List (List ℕ)) → Q b → AllByRecursion (AllByRecursion Q) parts → AllByRecursion (AllByRecursion Q) (onto_first b parts)
  put b [] q all = ((q, tt), tt)
  put b (part ∷ parts) q all = ((q, all.0), all.1)

  -- what holds of a text, and that the byte is not there, holds of each piece between these bytes
  pub in_pieces : (text : List ℕ) → AllByRecursion P text → AllByRecursion (AllByRecursion Q) (pieces byte text)
  in_pieces [] all = (tt, tt)
  in_pieces (b ∷ text) all = by (in_pieces text all.1) (eqb_tells b byte) where
    by : AllByRecursion (AllByRecursion Q) (pieces byte text) → (((b == byte) ≡ true) × (b ≡ byte)) ⊎ (((b == byte) ≡ false) × (b ≢ byte)) → AllByRecursion (AllByRecursion Q) (pieces byte (b ∷ text))
    by others (inl same) = subst (AllByRecursion (AllByRecursion Q)) (sym (slice_split-cons_yes (λ x. x == byte) b text same.0)) (tt, others)
    by others (inr apart) = subst (AllByRecursion (AllByRecursion Q)) (sym (slice_split-cons_no (λ x. x == byte) b text apart.0)) (put b (pieces byte text) (step b all.0 apart.1) others)

any : (text : List ℕ) → AllByRecursion (λ b. Unit {0}) text
any [] = tt
any (b ∷ text) = (tt, any text)

pub lines_have_no_newline : (text : List ℕ) → AllByRecursion (AllByRecursion IsInLine) (pieces 10 text)
lines_have_no_newline text = in_pieces (λ b. Unit {0}) IsInLine 10 (λ b here apart. apart) text (any text)

pub words_have_no_break : (line : List ℕ) → AllByRecursion IsInLine line → AllByRecursion HasNoBreak (pieces 32 line)
words_have_no_break line clear = in_pieces IsInLine IsNoBreak 32 (λ b here apart. (apart, here)) line clear
