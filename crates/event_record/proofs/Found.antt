-- What is read is encoded so: numbers and values.
use Rattle.std.proofs.Common.{◌≡◌, ◌≢◌, ◌≤ℤ◌, ◌⊎◌, inl, inr, ℕ, ◌+◌, ◌-◌, ◌*◌, ◌/◌, ◌%◌, ◌<◌, ◌^◌, ℤ, pos, negsuc, Bool, true, false, cond, List, [], ◌∷◌, ◌++◌, length, take, drop, Option, Some, None, Result, Ok, Err, refl, sym, ap, ◌∙◌, subst, arith, FitsSigned, append_assoc}
use Rattle.std.specs.Prelude.{◌&&◌, ◌==◌, nat_le, nat_lt, int_le, bytes_eq, codes, decimal, ok_or, option_and_then}
use Rattle.std.specs.Fmt.{signed_decimal}
use Rattle.std.specs.Int.{w32}
use Rattle.std.specs.List.{AllByRecursion, flat_map}
use Rattle.std.proofs.lemmas.Bool.{and_parts, eqb-true, le-ltb, leb-true, lt-ltb, ltb-true}
use Rattle.std.proofs.lemmas.Int.{ints}
use Rattle.std.proofs.lemmas.List.{append-nil}
use Rattle.std.proofs.lemmas.Slice.Eq.{bytes_eq-Decides, starts_is}
use Rattle.std.proofs.lemmas.Bool.Decides.{Decides-eqb}
use Rattle.mon_base.specs.Reading.{◌>>=◌, need}
use Rattle.api_listing.specs.Fault.{Read}
use Rattle.api_listing.specs.declared.fault.FormFault.TheVariants.{NoForm}
use Rattle.api_listing.specs.declared.events.ApiValue.{ApiValue}
use Rattle.api_listing.specs.declared.events.ApiValue.TheVariants.{Int, Null, Text, Obj, Class}
use Rattle.event_record.specs.Number.{as_index, as_int, index_of, int_of, number_of}
use Rattle.event_record.specs.Printing.{HasNoBreak, IsValue}
use Rattle.event_record.specs.Value.{begins, byte_at, bytes_from, class_value, digit_at, hex, hex_at, hex_byte, hex_digit, int_value, last_at, object_parts, object_value, text_value, value_at, value_word}
use Rattle.event_record.proofs.Again.{after_of, front_of}
use Rattle.event_record.proofs.Numbers.{number_found}
use Rattle.event_record.proofs.Unbroken.{front, left}

-- ---- readings that are Ok

pub then_ok : {A B E : Type 0} (r : Result A E) (f : A → Result B E) (b : B) → (r >>= f) ≡ Ok b → (a : A) × (r ≡ Ok a) × (f a ≡ Ok b)
then_ok (Ok a) f b h = (a, refl, h)
then_ok (Err e) f b h = absurd cc

pub need_ok : {E : Type 0} (b : Bool) (e : E) (u : Unit {0}) → need b e ≡ Ok u → b ≡ true
need_ok true e u h = refl
need_ok false e u h = absurd cc

pub some_ok : {A E : Type 0} (o : Option A) (e : E) (a : A) → ok_or o e ≡ Ok a → o ≡ Some a
some_ok (Some x) e a h = cc
some_ok None e a h = absurd cc

then_some : {A B : Type 0} (f : A → Option B) (o : Option A) (b : B) → option_and_then f o ≡ Some b → (a : A) × (o ≡ Some a) × (f a ≡ Some b)
then_some f (Some a) b h = (a, refl, h)
then_some f None b h = absurd cc

pub either : {X : Type 0} (P : Type 0) (b : Bool) (x y z : X) → cond b x y ≡ z → (b ≡ true → x ≡ z → P) → (b ≡ false → y ≡ z → P) → P
either P true x y z h f g = f refl h
either P false x y z h f g = g refl h

pub text_is : (a b : List ℕ) → bytes_eq a b ≡ true → a ≡ b
text_is a b e = (bytes_eq-Decides a b).0 e

pub ok_is : {A E : Type 0} {a b : A} → ◌≡◌ {A = Result A E} (Ok a) (Ok b) → a ≡ b
ok_is h = cc

none_some : (n : ℕ) → ◌≡◌ {A = Option ℕ} None (Some n) → ⊥
none_some n h = cc

-- ---- numbers

pub index_found : (text : List ℕ) (n : ℕ) → index_of text ≡ Some n → (text ≡ decimal n) × (n < 2 ^ 32)
index_found text n h =
    let read = then_some as_index (number_of text) n h in
    by read.0 read.1 read.2 where
      by : (z : ℤ) → number_of text ≡ Some z → as_index z ≡ Some n → (text ≡ decimal n) × (n < 2 ^ 32)
      by (negsuc k) is fits = absurd cc
      by (pos k) is fits = either ((text ≡ decimal n) × (n < 2 ^ 32)) (nat_lt k 4294967296) (Some k) None (Some n) fits
          (λ low e.
          let same : k ≡ n = cc in
          let small : k < 4294967296 = ltb-true k 4294967296 low in
          ((number_found text (pos k) is).text_is ∙ ap decimal same, subst (λ (x : ℕ). x < 2 ^ 32) same small))
          (λ low e. absurd cc)

int_low : (a b : ℤ) → int_le a b ≡ true → a ≤ℤ b
int_low a b h = grind (arith, ints, h)

pub int_found : (text : List ℕ) (n : ℤ) → int_of text ≡ Some n → (text ≡ signed_decimal n) × FitsSigned w32 n
int_found text n h =
    let read = then_some as_int (number_of text) n h in
    either ((text ≡ signed_decimal n) × FitsSigned w32 n) (int_le (negsuc 2147483647) read.0 && int_le read.0 (pos 2147483647)) (Some read.0) None (Some n) read.2
    (λ within e.
    let same : read.0 ≡ n = cc in
    let parts = and_parts (int_le (negsuc 2147483647) read.0) (int_le read.0 (pos 2147483647)) within in
    let low = int_low (negsuc 2147483647) read.0 parts.0 in
    let high = int_low read.0 (pos 2147483647) parts.1 in
    let fits : FitsSigned w32 read.0 = omega (arith, ints, low, high) in
    ((number_found text read.0 read.1).text_is ∙ ap signed_decimal same, subst (FitsSigned w32) same fits))
    (λ within e. absurd cc)

-- ---- bytes

digit_found : (c n : ℕ) → digit_at c ≡ Ok n → (hex_digit n ≡ c) × (n < 16)
digit_found c n h =
    either ((hex_digit n ≡ c) × (n < 16)) (nat_le 48 c && nat_le c 57) (Ok (c - 48)) (cond (nat_le 97 c && nat_le c 102) (Ok (c - 87)) (Err NoForm)) (Ok n) h
    (λ digit e.
    let parts = and_parts (nat_le 48 c) (nat_le c 57) digit in
    let low = leb-true 48 c parts.0 in
    let high = leb-true c 57 parts.1 in
    let is : c - 48 ≡ n = cc in
    let test : nat_lt n 10 ≡ true = lt-ltb n 10 (omega (arith, is, low, high)) in
    (rw test (omega (arith, is, low, high)), omega (arith, is, low, high)))
    (λ digit e. either ((hex_digit n ≡ c) × (n < 16)) (nat_le 97 c && nat_le c 102) (Ok (c - 87)) (Err NoForm) (Ok n) e
    (λ letter f.
    let parts = and_parts (nat_le 97 c) (nat_le c 102) letter in
    let low = leb-true 97 c parts.0 in
    let high = leb-true c 102 parts.1 in
    let is : c - 87 ≡ n = cc in
    let test : nat_lt n 10 ≡ false = le-ltb n 10 (omega (arith, is, low, high)) in
    (rw test (omega (arith, is, low, high)), omega (arith, is, low, high)))
    (λ letter f. absurd cc))

byte_found : (high low b : ℕ) → byte_at high low ≡ Ok b → (high ∷ low ∷ [] ≡ hex_byte b) × (b < 256)
byte_found high low b h =
    let first = then_ok (digit_at high) (λ x. digit_at low >>= λ y. Ok (16 * x + y)) b h in
    let second = then_ok (digit_at low) (λ y. Ok (16 * first.0 + y)) b first.2 in
    let x = digit_found high first.0 first.1 in
    let y = digit_found low second.0 second.1 in
    let sum : 16 * first.0 + second.0 ≡ b = cc in
    let front : b / 16 ≡ first.0 = omega (arith, sum, x.1, y.1) in
    let back : b % 16 ≡ second.0 = omega (arith, sum, x.1, y.1) in
    (rw (front, back, x.0, y.0) refl, omega (arith, sum, x.1, y.1))

-- bytes after those that are done
record AreBytes (done text out : List ℕ) : Type 0 where
  bytes : List ℕ
  all : out ≡ done ++ bytes
  encoded : text ≡ flat_map hex_byte bytes
  small : AllByRecursion (λ b. b < 256) bytes

bytes_found : (done text out : List ℕ) → bytes_from done text ≡ Ok out → AreBytes done text out
bytes_found done [] out h = record { bytes = []; all = same ∙ sym (append-nil done); encoded = refl; small = tt } where
  same : out ≡ done
  same = cc
bytes_found done (b ∷ []) out h = absurd cc
bytes_found done (high ∷ low ∷ rest) out h =
    let first = then_ok (byte_at high low) (λ b. bytes_from (done ++ b ∷ []) rest) out h in
    let byte = byte_found high low first.0 first.1 in
    let later = bytes_found (done ++ first.0 ∷ []) rest out first.2 in
    record {
      bytes = first.0 ∷ later.bytes;
      all = later.all ∙ append_assoc done (first.0 ∷ []) later.bytes;
      encoded = ap (λ (t : List ℕ). t ++ rest) byte.0 ∙ ap (λ (t : List ℕ). hex_byte first.0 ++ t) later.encoded;
      small = (byte.1, later.small);
    }

pub hex_found : (text bytes : List ℕ) → hex_at text ≡ Ok bytes → (text ≡ hex bytes) × AllByRecursion (λ b. b < 256) bytes
unfolding hex_at
hex_found text bytes h =
    either ((text ≡ hex bytes) × AllByRecursion (λ b. b < 256) bytes) (bytes_eq text (codes "-")) (Ok []) (need (nat_lt 0 (length text)) NoForm >>= λ some. bytes_from [] text) (Ok bytes) h
    (λ dash e. let none : [] ≡ bytes = cc in subst (λ (bs : List ℕ). (text ≡ hex bs) × AllByRecursion (λ b. b < 256) bs) none (text_is text (codes "-") dash, tt))
    (λ dash e.
    let some = then_ok (need (nat_lt 0 (length text)) NoForm) (λ some. bytes_from [] text) bytes e in
    let read = bytes_found [] text bytes some.2 in
    by read.bytes read.all read.encoded read.small (ltb-true 0 (length text) (need_ok (nat_lt 0 (length text)) NoForm some.0 some.1))) where
      by : (bs : List ℕ) → bytes ≡ bs → text ≡ flat_map hex_byte bs → AllByRecursion (λ b. b < 256) bs → 0 < length text → (text ≡ hex bytes) × AllByRecursion (λ b. b < 256) bytes
      by [] is encoded small long = absurd (omega (arith, ap length encoded))
      by (b ∷ bs) is encoded small long = subst (λ (xs : List ℕ). (text ≡ hex xs) × AllByRecursion (λ x. x < 256) xs) (sym is) (encoded, small)

-- ---- objects

-- the last `@` of the text, which stands at the place
record IsLastAt (text : List ℕ) (from place : ℕ) : Type 0 where
  class : List ℕ
  digits : List ℕ
  encoded : text ≡ class ++ 64 ∷ digits
  at : place ≡ from + length class

last_found : (text : List ℕ) (from : ℕ) (known : Option ℕ) (place : ℕ) → last_at from known text ≡ Some place → (known ≡ Some place) ⊎ IsLastAt text from place
last_found [] from known place h = inl h
last_found (b ∷ text) from known place h = later (last_found text (from + 1) (cond (b == 64) (Some from) known) place h) where
  here : cond (b == 64) (Some from) known ≡ Some place → (known ≡ Some place) ⊎ IsLastAt (b ∷ text) from place
  here e =
      either ((known ≡ Some place) ⊎ IsLastAt (b ∷ text) from place) (b == 64) (Some from) known (Some place) e
      (λ sign f.
      let same : from ≡ place = cc in
      let all : b ∷ text ≡ 64 ∷ text = ap (λ (x : ℕ). x ∷ text) (eqb-true b 64 sign) in
      inr (record { class = []; digits = text; encoded = all; at = omega (arith, same) }))
      (λ sign f. inl f)

  later : (cond (b == 64) (Some from) known ≡ Some place) ⊎ IsLastAt text (from + 1) place → (known ≡ Some place) ⊎ IsLastAt (b ∷ text) from place
  later (inl e) = here e
  later (inr is) = inr (record { class = b ∷ is.class; digits = is.digits; encoded = ap (λ (t : List ℕ). b ∷ t) is.encoded; at = omega (arith, is.at) })

abbrev Found : List ℕ → ApiValue → Type 0
Found word value = (word ≡ value_word value) × IsValue value

some_class : (class : List ℕ) → 0 < length class → class ≢ []
some_class class some none = absurd (omega (arith, ap length none))

object_found : (text : List ℕ) (value : ApiValue) → HasNoBreak text → object_value text ≡ Ok value → Found (codes "obj:" ++ text) value
unfolding object_value object_parts
object_found text value clear h = at_place (last_found text 0 None first.0 (some_ok (last_at 0 None text) NoForm first.0 first.1)) where
  first : (place : ℕ) × (ok_or (last_at 0 None text) NoForm ≡ Ok place) × (object_parts text place ≡ Ok value)
  first = then_ok (ok_or (last_at 0 None text) NoForm) (object_parts text) value h

  parts : (class digits : List ℕ) → text ≡ class ++ 64 ∷ digits → first.0 ≡ length class → Found (codes "obj:" ++ text) value
  parts class digits encoded at =
      let read : object_parts (class ++ 64 ∷ digits) (length class) ≡ Ok value = subst (λ (p : ℕ). object_parts (class ++ 64 ∷ digits) p ≡ Ok value) at (subst (λ (t : List ℕ). object_parts t first.0 ≡ Ok value) encoded first.2) in
      let some = then_ok (need (nat_lt 0 (length class)) NoForm) (λ some. ok_or (index_of (drop (length class + 1) (class ++ 64 ∷ digits))) NoForm >>= λ n. Ok (Obj (take (length class) (class ++ 64 ∷ digits)) n)) value read in
      let number = then_ok (ok_or (index_of (drop (length class + 1) (class ++ 64 ∷ digits))) NoForm) (λ n. Ok (Obj (take (length class) (class ++ 64 ∷ digits)) n)) value some.2 in
      let index = index_found digits number.0 (ap index_of (sym (after_of class digits)) ∙ some_ok (index_of (drop (length class + 1) (class ++ 64 ∷ digits))) NoForm number.0 number.1) in
      let object : Obj class number.0 ≡ value = ap (λ (c : List ℕ). Obj c number.0) (sym (front_of class (64 ∷ digits))) ∙ ok_is number.2 in
      let long = ltb-true 0 (length class) (need_ok (nat_lt 0 (length class)) NoForm some.0 some.1) in
      let word : codes "obj:" ++ text ≡ value_word (Obj class number.0) = ap (λ (t : List ℕ). codes "obj:" ++ t) (encoded ∙ ap (λ (t : List ℕ). class ++ 64 ∷ t) index.0) in
      let whole : HasNoBreak class = front (λ (b : ℕ). (b ≢ 32) × (b ≢ 10)) class (64 ∷ digits) (subst HasNoBreak encoded clear) in
      subst (Found (codes "obj:" ++ text)) object (word, (some_class class long, whole, index.1))

  at_place : (None ≡ Some first.0) ⊎ IsLastAt text 0 first.0 → Found (codes "obj:" ++ text) value
  at_place (inl e) = absurd (none_some first.0 e)
  at_place (inr is) = parts is.class is.digits is.encoded (omega (arith, is.at))

text_found : (text : List ℕ) (value : ApiValue) → text_value text ≡ Ok value → Found (codes "text:" ++ text) value
unfolding text_value
text_found text value h =
    let read = then_ok (hex_at text) (λ bytes. Ok (Text bytes)) value h in
    let found = hex_found text read.0 read.1 in
    subst (Found (codes "text:" ++ text)) (ok_is read.2) (ap (λ (t : List ℕ). codes "text:" ++ t) found.0, found.1)

class_found : (text : List ℕ) (value : ApiValue) → HasNoBreak text → class_value text ≡ Ok value → Found (codes "class:" ++ text) value
unfolding class_value
class_found text value clear h =
    let read = then_ok (need (nat_lt 0 (length text)) NoForm) (λ some. Ok (Class text)) value h in
    let long = ltb-true 0 (length text) (need_ok (nat_lt 0 (length text)) NoForm read.0 read.1) in
    subst (Found (codes "class:" ++ text)) (ok_is read.2) (refl, (some_class text long, clear))

number_value_found : (text : List ℕ) (value : ApiValue) → int_value text ≡ Ok value → Found text value
unfolding int_value
number_value_found text value h =
    let read = then_ok (ok_or (int_of text) NoForm) (λ n. Ok (Int n)) value h in
    subst (Found text) (ok_is read.2) (int_found text read.0 (some_ok (int_of text) NoForm read.0 read.1))

begins_is : (front word : List ℕ) → begins front word ≡ true → word ≡ front ++ drop (length front) word
begins_is front word h = (starts_is Decides-eqb word front (begins front word) refl).0 h

pub value_found : (word : List ℕ) (value : ApiValue) → HasNoBreak word → value_at word ≡ Ok value → (word ≡ value_word value) × IsValue value
unfolding value_at
value_found word value clear h =
    either (Found word value) (bytes_eq word (codes "null")) (Ok Null) others (Ok value) h
    (λ null e. subst (Found word) (ok_is e) (text_is word (codes "null") null, tt))
    (λ null e. either (Found word value) (begins (codes "text:") word) (text_value (drop 5 word)) objects (Ok value) e
    (λ text f. subst (λ (w : List ℕ). Found w value) (sym (begins_is (codes "text:") word text)) (text_found (drop 5 word) value f))
    (λ text f. either (Found word value) (begins (codes "obj:") word) (object_value (drop 4 word)) classes (Ok value) f
    (λ object g. subst (λ (w : List ℕ). Found w value) (sym (begins_is (codes "obj:") word object)) (object_found (drop 4 word) value (following 4) g))
    (λ object g. either (Found word value) (begins (codes "class:") word) (class_value (drop 6 word)) (int_value word) (Ok value) g
    (λ class i. subst (λ (w : List ℕ). Found w value) (sym (begins_is (codes "class:") word class)) (class_found (drop 6 word) value (following 6) i))
    (λ class i. number_value_found word value i)))) where
      following : (n : ℕ) → HasNoBreak (drop n word)
      following n = left (λ (b : ℕ). (b ≢ 32) × (b ≢ 10)) n word clear

      classes : Read ApiValue
      classes = cond (begins (codes "class:") word) (class_value (drop 6 word)) (int_value word)

      objects : Read ApiValue
      objects = cond (begins (codes "obj:") word) (object_value (drop 4 word)) (cond (begins (codes "class:") word) (class_value (drop 6 word)) (int_value word))

      others : Read ApiValue
      others = cond (begins (codes "text:") word) (text_value (drop 5 word)) (cond (begins (codes "obj:") word) (object_value (drop 4 word)) (cond (begins (codes "class:") word) (class_value (drop 6 word)) (int_value word)))
