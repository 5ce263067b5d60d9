-- The constant pool is read exactly as it is encoded.
use Rattle.std.proofs.Common.{◌≡◌, ℕ, zero, suc, ◌+◌, ◌<◌, ◌≤◌, Bool, true, false, cond, not, eqb, ltb, List, [], ◌∷◌, ◌++◌, length, Option, Some, None, Ok, refl, sym, ap, subst, ◌∙◌, append_assoc, arith, ℤ, FitsSigned}
use Rattle.std.specs.Prelude.{◌&&◌, nat_le, nat_lt, position}
use Rattle.std.specs.Int.{w32, w64, cast_signed, cast_unsigned}
use Rattle.std.specs.List.{flat_map, AllByRecursion, position_or_len}
use Rattle.std.proofs.lemmas.Bool.{false≢true, eq-eqb, eqb-true, ltb-true, ltb-false, lt-ltb, le-ltb}
use Rattle.std.proofs.lemmas.Bool.Decides.{nat_tests}
use Rattle.std.proofs.lemmas.Int.{of_z-to_z, to_z-of_z}
use Rattle.std.proofs.lemmas.List.{length-append}
use Rattle.mon_base.specs.Reading.{Place, IsBytes, ◌>>=◌}
use Rattle.mon_base.proofs.Reading.{bind_ok, ok_is, need_holds, holds_need, after, Took, Took-then, IsTail, IsReader, then_from, then, said, last, done, guard, choose, refuse, encoded_where}
use Rattle.mon_base.proofs.Readers.{checked, wrapped, pair_is, signed_fits, unsigned_fits}
use Rattle.class_codec.specs.declared.fault.ClassFault.{ClassFault}
use Rattle.class_codec.specs.declared.fault.ClassFault.TheVariants.{Index, Tag}
use Rattle.class_codec.specs.declared.pool.ConstKind.{ConstKind}
use Rattle.class_codec.specs.declared.pool.ConstKind.TheVariants as kinds
use Rattle.class_codec.specs.declared.tree.Const.{Const}
use Rattle.class_codec.specs.declared.tree.Const.TheVariants.{Utf8, Integer, Float, Long, Double, Class, Str, Field, Method, IMethod, NameAndType, Second}
use Rattle.class_codec.specs.Pool.{names}
use Rattle.class_codec.specs.Encoding as encoding
use Rattle.mon_base.specs.Widths.{IsU2, IsU8, u1, u2, u4, u8}
use Rattle.class_codec.specs.Fits.{IsTextByte, FitsConst, is_second, takes_two, HasSeconds, IsNamed, FitsPool}
use Rattle.class_codec.specs.Reading.{Read, u2_at, u4_at, is_no_text_byte, text_checked, text_at, pair_at, wide_at, of_pair, payload_at, constant_at, place_at, places_at, index_checked, pair_checked, constant_checked, all_checked, pool_at}
use Rattle.class_codec.proofs.Numbers.{u1_is, u2_is, u4_is, u8_is, rest_is}

-- ---- texts

-- the place of the first byte that passes, by recursion
none_where : (b : Bool) (n : ℕ) → cond b (Some n) None ≡ None → b ≡ false
none_where true n e = absurd cc
none_where false n e = refl

where_none : (b : Bool) (n : ℕ) → b ≡ false → cond b (Some n) None ≡ None
where_none b n e = rw e refl

-- by the first byte's test, and the place among the others
first_none : (t : Bool) (n len : ℕ) → ltb (cond (not t) (1 + n) 0) (suc len) ≡ false → (t ≡ false) × (ltb n len ≡ false)
first_none true n len e = let h : suc len ≤ 0 = ltb-false 0 (suc len) e in absurd (omega arith)
first_none false n len e = let h : suc len ≤ 1 + n = ltb-false (1 + n) (suc len) e in (refl, le-ltb n len (omega arith))

none_first : (t : Bool) (n len : ℕ) → t ≡ false → ltb n len ≡ false → ltb (cond (not t) (1 + n) 0) (suc len) ≡ false
none_first t n len out e = let h : len ≤ n = ltb-false n len e in rw out (le-ltb (1 + n) (suc len) (omega arith))

passes : (p : ℕ → Bool) (b : ℕ) (bs : List ℕ) → position p (b ∷ bs) ≡ None → (p b ≡ false) × (position p bs ≡ None)
passes p b bs e =
    let out : ltb (cond (not (p b)) (1 + position_or_len p bs) 0) (suc (length bs)) ≡ false = none_where (ltb (position_or_len p (b ∷ bs)) (length (b ∷ bs))) (position_or_len p (b ∷ bs)) e in
    let h = first_none (p b) (position_or_len p bs) (length bs) out in
    (h.0, where_none (ltb (position_or_len p bs) (length bs)) (position_or_len p bs) h.1)

pass : (p : ℕ → Bool) (b : ℕ) (bs : List ℕ) → p b ≡ false → position p bs ≡ None → position p (b ∷ bs) ≡ None
pass p b bs clean none =
    let out : ltb (position_or_len p bs) (length bs) ≡ false = none_where (ltb (position_or_len p bs) (length bs)) (position_or_len p bs) none in
    where_none (ltb (position_or_len p (b ∷ bs)) (length (b ∷ bs))) (position_or_len p (b ∷ bs)) (none_first (p b) (position_or_len p bs) (length bs) clean out)

text_byte : (b : ℕ) → is_no_text_byte b ≡ false → IsTextByte b
text_byte b e = grind (arith, nat_tests)

no_fault : (b : ℕ) → IsTextByte b → is_no_text_byte b ≡ false
no_fault b h = grind (arith, nat_tests)

text_bytes : (bs : List ℕ) → position is_no_text_byte bs ≡ None → AllByRecursion IsTextByte bs
text_bytes [] e = tt
text_bytes (b ∷ bs) e =
    let h = passes is_no_text_byte b bs e in
    (text_byte b h.0, text_bytes bs h.1)

all_pass : (bs : List ℕ) → AllByRecursion IsTextByte bs → position is_no_text_byte bs ≡ None
all_pass [] h = refl
all_pass (b ∷ bs) h = pass is_no_text_byte b bs (no_fault b h.0) (all_pass bs h.1)

text_holds : (at : ℕ) (o : Option ℕ) → text_checked at o ≡ Ok tt → o ≡ None
text_holds at None e = refl
text_holds at (Some i) e = absurd cc

holds_text : (at : ℕ) (o : Option ℕ) → o ≡ None → text_checked at o ≡ Ok tt
holds_text at o e = rw e refl

-- the text of a constant
abbrev text : List ℕ → List ℕ
text bytes = u2 (length bytes) ++ bytes

abbrev FitsText : List ℕ → Type 0
FitsText bytes = IsU2 (length bytes) × AllByRecursion IsTextByte bytes

text_is : IsReader text_at text FitsText
unfolding text_at
text_is = said (then {Fits = λ bytes. Unit {0} × AllByRecursion IsTextByte bytes} {known = λ _. Unit {0}} _ u2_is length (λ a k. tt)
    (λ n k. checked (λ bytes. AllByRecursion IsTextByte bytes) (λ p bytes. text_checked p.at (position is_no_text_byte bytes)) (rest_is n)
    (λ p bytes e. text_bytes bytes (text_holds p.at (position is_no_text_byte bytes) e))
    (λ p bytes h. holds_text p.at (position is_no_text_byte bytes) (all_pass bytes h))))
    (λ a f k. ((f.0, f.1.1), tt))
    (λ a f k. ((f.0, (tt, f.1)), tt))

-- ---- pairs of indices, and numbers of eight bytes

indices_are : IsReader pair_at (λ x. u2 x.0 ++ u2 x.1) (λ x. IsU2 x.0 × IsU2 x.1)
unfolding pair_at
indices_are = pair_is u2_is u2_is

wide_is : (at left : ℕ) → IsReader (wide_at at left) u8 (λ n. (0 < left) × IsU8 n)
unfolding wide_at
wide_is at left = guard (λ _. 0 < left) (nat_lt 0 left) (λ _. Index at) (λ a k e. ltb-true 0 left e) (λ a k h. lt-ltb 0 left h) u8_is

-- ---- constants, by their tags

abbrev tag_of : Const → ℕ
tag_of (Utf8 text) = 1
tag_of (Integer n) = 3
tag_of (Float bits) = 4
tag_of (Long n) = 5
tag_of (Double bits) = 6
tag_of (Class name) = 7
tag_of (Str text) = 8
tag_of (Field class name) = 9
tag_of (Method class name) = 10
tag_of (IMethod class name) = 11
tag_of (NameAndType name desc) = 12
tag_of Second = 0

-- what follows the tag
abbrev payload : Const → List ℕ
payload (Utf8 bytes) = text bytes
payload (Integer n) = u4 (cast_unsigned w32 n)
payload (Float bits) = u4 bits
payload (Long n) = u8 (cast_unsigned w64 n)
payload (Double bits) = u8 bits
payload (Class name) = u2 name
payload (Str text) = u2 text
payload (Field class name) = u2 class ++ u2 name
payload (Method class name) = u2 class ++ u2 name
payload (IMethod class name) = u2 class ++ u2 name
payload (NameAndType name desc) = u2 name ++ u2 desc
payload Second = []

-- a constant with `left` places after its first, or the second place of one
record StandsAt (second : Bool) (left : ℕ) (c : Const) : Type 0 where
  fits : FitsConst c
  first : is_second c ≡ second
  room : takes_two c ≡ true → 0 < left

abbrev Stands : ℕ → Const → Type 0
Stands left c = StandsAt false left c

is_utf8 : (c : Const) → tag_of c ≡ 1 → (bytes : List ℕ) × (Utf8 bytes ≡ c)
is_utf8 (Utf8 bytes) e = (bytes, refl)
is_utf8 c e = absurd (omega (arith, e))

is_integer : (c : Const) → tag_of c ≡ 3 → (n : ℤ) × (Integer n ≡ c)
is_integer (Integer n) e = (n, refl)
is_integer c e = absurd (omega (arith, e))

is_float : (c : Const) → tag_of c ≡ 4 → (n : ℕ) × (Float n ≡ c)
is_float (Float n) e = (n, refl)
is_float c e = absurd (omega (arith, e))

is_long : (c : Const) → tag_of c ≡ 5 → (n : ℤ) × (Long n ≡ c)
is_long (Long n) e = (n, refl)
is_long c e = absurd (omega (arith, e))

is_double : (c : Const) → tag_of c ≡ 6 → (n : ℕ) × (Double n ≡ c)
is_double (Double n) e = (n, refl)
is_double c e = absurd (omega (arith, e))

is_class : (c : Const) → tag_of c ≡ 7 → (n : ℕ) × (Class n ≡ c)
is_class (Class n) e = (n, refl)
is_class c e = absurd (omega (arith, e))

is_str : (c : Const) → tag_of c ≡ 8 → (n : ℕ) × (Str n ≡ c)
is_str (Str n) e = (n, refl)
is_str c e = absurd (omega (arith, e))

is_field : (c : Const) → tag_of c ≡ 9 → (x : ℕ × ℕ) × (Field x.0 x.1 ≡ c)
is_field (Field m n) e = ((m, n), refl)
is_field c e = absurd (omega (arith, e))

is_method : (c : Const) → tag_of c ≡ 10 → (x : ℕ × ℕ) × (Method x.0 x.1 ≡ c)
is_method (Method m n) e = ((m, n), refl)
is_method c e = absurd (omega (arith, e))

is_imethod : (c : Const) → tag_of c ≡ 11 → (x : ℕ × ℕ) × (IMethod x.0 x.1 ≡ c)
is_imethod (IMethod m n) e = ((m, n), refl)
is_imethod c e = absurd (omega (arith, e))

is_name_and_type : (c : Const) → tag_of c ≡ 12 → (x : ℕ × ℕ) × (NameAndType x.0 x.1 ≡ c)
is_name_and_type (NameAndType m n) e = ((m, n), refl)
is_name_and_type c e = absurd (omega (arith, e))

-- what is known of a constant after its tag
abbrev Tagged : ℕ → Const → Type 0
Tagged tag c = Unit {0} × (tag_of c ≡ tag)

-- What follows a tag.
abbrev IsPayload : ℕ → ℕ → (Place → Read Const) → Type 0
IsPayload left tag reader = IsTail reader payload (Stands left) (Tagged tag)

no_room : (left : ℕ) → false ≡ true → 0 < left
no_room left e = absurd cc

-- one form of a constant of one place, which is what follows its tag
one_place : {X : Type 0} {reader : Place → Read X} {encode_x : X → List ℕ} {Fits_x : X → Type 0} (wrap : X → Const) (n : ℕ) → IsReader reader encode_x Fits_x
    → ((x : X) → (encode_x x ≡ payload (wrap x)) × (tag_of (wrap x) ≡ n) × (is_second (wrap x) ≡ false) × (takes_two (wrap x) ≡ false))
    → ((x : X) → Fits_x x → FitsConst (wrap x)) → ((x : X) → FitsConst (wrap x) → Fits_x x)
    → ((c : Const) → tag_of c ≡ n → (x : X) × (wrap x ≡ c))
    → (left tag : ℕ) → tag ≡ n → IsPayload left tag (λ p. reader p >>= λ x. Ok (wrap x.0, x.1))
one_place wrap n is form to from own left tag t = wrapped wrap is
    (λ x f k. let h = form x in (h.0, record { fits = to x f; first = h.2; room = λ e. no_room left (sym h.3 ∙ e) }, (tt, h.1 ∙ sym t)))
    (λ c f k. let g = own c (k.1 ∙ t) in (g.0, g.1, from g.0 (subst FitsConst (sym g.1) f.fits), tt))

utf8_is : (left tag : ℕ) → tag ≡ 1 → IsPayload left tag (λ p. text_at p >>= λ x. Ok (Utf8 x.0, x.1))
utf8_is = one_place (λ x. Utf8 x) 1 text_is (λ x. (refl, refl, refl, refl)) (λ x f. f) (λ x f. f) is_utf8

integer_is : (left tag : ℕ) → tag ≡ 3 → IsPayload left tag (λ p. u4_at p >>= λ x. Ok (Integer (cast_signed w32 x.0), x.1))
integer_is left tag t = wrapped (λ x. Integer (cast_signed w32 x)) u4_is
    (λ x f k. (ap u4 (sym (of_z-to_z w32 x f)), record { fits = signed_fits w32 x f; first = refl; room = λ e. no_room left e }, (tt, sym t)))
    (λ c f k. let g = is_integer c (k.1 ∙ t) in
    let fits : FitsSigned w32 g.0 = subst FitsConst (sym g.1) f.fits in
    (cast_unsigned w32 g.0, ap (λ (z : ℤ). Integer z) (to_z-of_z w32 g.0 fits) ∙ g.1, unsigned_fits w32 g.0 fits, tt))

float_is : (left tag : ℕ) → tag ≡ 4 → IsPayload left tag (λ p. u4_at p >>= λ x. Ok (Float x.0, x.1))
float_is = one_place (λ x. Float x) 4 u4_is (λ x. (refl, refl, refl, refl)) (λ x f. f) (λ x f. f) is_float

long_is : (at left tag : ℕ) → tag ≡ 5 → IsPayload left tag (λ p. wide_at at left p >>= λ x. Ok (Long (cast_signed w64 x.0), x.1))
long_is at left tag t = wrapped (λ x. Long (cast_signed w64 x)) (wide_is at left)
    (λ x f k. (ap u8 (sym (of_z-to_z w64 x f.1)), record { fits = signed_fits w64 x f.1; first = refl; room = λ e. f.0 }, (tt, sym t)))
    (λ c f k. let g = is_long c (k.1 ∙ t) in
    let fits : FitsSigned w64 g.0 = subst FitsConst (sym g.1) f.fits in
    (cast_unsigned w64 g.0, ap (λ (z : ℤ). Long z) (to_z-of_z w64 g.0 fits) ∙ g.1, (f.room (ap takes_two (sym g.1)), unsigned_fits w64 g.0 fits), tt))

double_is : (at left tag : ℕ) → tag ≡ 6 → IsPayload left tag (λ p. wide_at at left p >>= λ x. Ok (Double x.0, x.1))
double_is at left tag t = wrapped (λ x. Double x) (wide_is at left)
    (λ x f k. (refl, record { fits = f.1; first = refl; room = λ e. f.0 }, (tt, sym t)))
    (λ c f k. let g = is_double c (k.1 ∙ t) in (g.0, g.1, (f.room (ap takes_two (sym g.1)), subst FitsConst (sym g.1) f.fits), tt))

class_is : (left tag : ℕ) → tag ≡ 7 → IsPayload left tag (λ p. u2_at p >>= λ x. Ok (Class x.0, x.1))
class_is = one_place (λ x. Class x) 7 u2_is (λ x. (refl, refl, refl, refl)) (λ x f. f) (λ x f. f) is_class

str_is : (left tag : ℕ) → tag ≡ 8 → IsPayload left tag (λ p. u2_at p >>= λ x. Ok (Str x.0, x.1))
str_is = one_place (λ x. Str x) 8 u2_is (λ x. (refl, refl, refl, refl)) (λ x f. f) (λ x f. f) is_str

field_is : (left tag : ℕ) → tag ≡ 9 → IsPayload left tag (λ p. pair_at p >>= λ x. Ok (Field x.0.0 x.0.1, x.1))
field_is = one_place (λ x. Field x.0 x.1) 9 indices_are (λ x. (refl, refl, refl, refl)) (λ x f. f) (λ x f. f) is_field

method_is : (left tag : ℕ) → tag ≡ 10 → IsPayload left tag (λ p. pair_at p >>= λ x. Ok (Method x.0.0 x.0.1, x.1))
method_is = one_place (λ x. Method x.0 x.1) 10 indices_are (λ x. (refl, refl, refl, refl)) (λ x f. f) (λ x f. f) is_method

imethod_is : (left tag : ℕ) → tag ≡ 11 → IsPayload left tag (λ p. pair_at p >>= λ x. Ok (IMethod x.0.0 x.0.1, x.1))
imethod_is = one_place (λ x. IMethod x.0 x.1) 11 indices_are (λ x. (refl, refl, refl, refl)) (λ x f. f) (λ x f. f) is_imethod

name_and_type_is : (left tag : ℕ) → tag ≡ 12 → IsPayload left tag (λ p. pair_at p >>= λ x. Ok (NameAndType x.0.0 x.0.1, x.1))
name_and_type_is = one_place (λ x. NameAndType x.0 x.1) 12 indices_are (λ x. (refl, refl, refl, refl)) (λ x f. f) (λ x f. f) is_name_and_type

-- the constants of two indices, by their tags
abbrev IsOfPair : ℕ → ℕ → Type 0
IsOfPair left tag = IsPayload left tag (λ p. pair_at p >>= λ x. Ok (of_pair tag x.0.0 x.0.1, x.1))

last_pair : (left tag : ℕ) → tag ≡ 12 → IsOfPair left tag
last_pair left tag t = rw t (name_and_type_is left 12 refl)

third_pair : (left tag : ℕ) (is : Bool) → eqb tag 11 ≡ is → (is ≡ false → tag ≡ 12) → IsOfPair left tag
third_pair left tag true t others = rw (eqb-true _ _ t) (imethod_is left 11 refl)
third_pair left tag false t others = last_pair left tag (others refl)

second_pair : (left tag : ℕ) (is : Bool) → eqb tag 10 ≡ is → (is ≡ false → eqb tag 11 ≡ false → tag ≡ 12) → IsOfPair left tag
second_pair left tag true t others = rw (eqb-true _ _ t) (method_is left 10 refl)
second_pair left tag false t others = third_pair left tag (eqb tag 11) refl (λ n11. others refl n11)

first_pair : (left tag : ℕ) (is : Bool) → eqb tag 9 ≡ is → (is ≡ false → eqb tag 10 ≡ false → eqb tag 11 ≡ false → tag ≡ 12) → IsOfPair left tag
first_pair left tag true t others = rw (eqb-true _ _ t) (field_is left 9 refl)
first_pair left tag false t others = second_pair left tag (eqb tag 10) refl (λ n10 n11. others refl n10 n11)

last_tag : (tag : ℕ) → (nat_le 9 tag && nat_le tag 12) ≡ true → eqb tag 9 ≡ false → eqb tag 10 ≡ false → eqb tag 11 ≡ false → tag ≡ 12
last_tag tag t n9 n10 n11 = grind (arith, nat_tests)

pair_constant_is : (left tag : ℕ) → (nat_le 9 tag && nat_le tag 12) ≡ true → IsOfPair left tag
pair_constant_is left tag t = first_pair left tag (eqb tag 9) refl (λ n9 n10 n11. last_tag tag t n9 n10 n11)

-- Every constant has one of the tags.
record IsNoTag (tag : ℕ) : Type 0 where
  not_1 : eqb tag 1 ≡ false
  not_3 : eqb tag 3 ≡ false
  not_4 : eqb tag 4 ≡ false
  not_5 : eqb tag 5 ≡ false
  not_6 : eqb tag 6 ≡ false
  not_7 : eqb tag 7 ≡ false
  not_8 : eqb tag 8 ≡ false
  no_pair : (nat_le 9 tag && nat_le tag 12) ≡ false

apart : (tag k : ℕ) → eqb tag k ≡ false → k ≡ tag → ⊥
apart tag k n e = false≢true (sym n ∙ eq-eqb tag k (sym e))

outside : (tag k : ℕ) → 9 ≤ k → k ≤ 12 → (nat_le 9 tag && nat_le tag 12) ≡ false → k ≡ tag → ⊥
outside tag k least most n e = grind (arith, nat_tests)

none_has : (left tag : ℕ) → IsNoTag tag → (c : Const) → Stands left c → tag_of c ≡ tag → ⊥
none_has left tag others (Utf8 bytes) f e = apart tag 1 others.not_1 e
none_has left tag others (Integer n) f e = apart tag 3 others.not_3 e
none_has left tag others (Float bits) f e = apart tag 4 others.not_4 e
none_has left tag others (Long n) f e = apart tag 5 others.not_5 e
none_has left tag others (Double bits) f e = apart tag 6 others.not_6 e
none_has left tag others (Class name) f e = apart tag 7 others.not_7 e
none_has left tag others (Str bytes) f e = apart tag 8 others.not_8 e
none_has left tag others (Field class name) f e = outside tag 9 (omega arith) (omega arith) others.no_pair e
none_has left tag others (Method class name) f e = outside tag 10 (omega arith) (omega arith) others.no_pair e
none_has left tag others (IMethod class name) f e = outside tag 11 (omega arith) (omega arith) others.no_pair e
none_has left tag others (NameAndType name desc) f e = outside tag 12 (omega arith) (omega arith) others.no_pair e
none_has left tag others Second f e = false≢true (sym f.first)

payload_is : (at left tag : ℕ) → IsPayload left tag (payload_at at left tag)
unfolding payload_at
payload_is at left tag =
    choose (eqb tag 1) (λ t. utf8_is left tag (eqb-true _ _ t)) (λ n1.
    choose (eqb tag 3) (λ t. integer_is left tag (eqb-true _ _ t)) (λ n3.
    choose (eqb tag 4) (λ t. float_is left tag (eqb-true _ _ t)) (λ n4.
    choose (eqb tag 5) (λ t. long_is at left tag (eqb-true _ _ t)) (λ n5.
    choose (eqb tag 6) (λ t. double_is at left tag (eqb-true _ _ t)) (λ n6.
    choose (eqb tag 7) (λ t. class_is left tag (eqb-true _ _ t)) (λ n7.
    choose (eqb tag 8) (λ t. str_is left tag (eqb-true _ _ t)) (λ n8.
    choose (nat_le 9 tag && nat_le tag 12) (λ t. pair_constant_is left tag t) (λ no_pair.
    refuse (λ _. Tag at tag) (λ c f k. none_has left tag (record { not_1 = n1; not_3 = n3; not_4 = n4; not_5 = n5; not_6 = n6; not_7 = n7; not_8 = n8; no_pair = no_pair }) c f k.1)))))))))

tag_small : (c : Const) → tag_of c < 256
tag_small (Utf8 bytes) = omega arith
tag_small (Integer n) = omega arith
tag_small (Float bits) = omega arith
tag_small (Long n) = omega arith
tag_small (Double bits) = omega arith
tag_small (Class name) = omega arith
tag_small (Str bytes) = omega arith
tag_small (Field class name) = omega arith
tag_small (Method class name) = omega arith
tag_small (IMethod class name) = omega arith
tag_small (NameAndType name desc) = omega arith
tag_small Second = omega arith

tagged_is : (c : Const) → is_second c ≡ false → u1 (tag_of c) ++ payload c ≡ encoding.constant c
tagged_is (Utf8 bytes) e = refl
tagged_is (Integer n) e = refl
tagged_is (Float bits) e = refl
tagged_is (Long n) e = refl
tagged_is (Double bits) e = refl
tagged_is (Class name) e = refl
tagged_is (Str bytes) e = refl
tagged_is (Field class name) e = refl
tagged_is (Method class name) e = refl
tagged_is (IMethod class name) e = refl
tagged_is (NameAndType name desc) e = refl
tagged_is Second e = absurd (false≢true (sym e))

constant_is : (left : ℕ) → IsReader (constant_at left) encoding.constant (Stands left)
unfolding constant_at
constant_is left = encoded_where {encode = λ c. u1 (tag_of c) ++ payload c} (said
    (then_from {encode = payload} {Fits = Stands left} {known = λ _. Unit {0}} (λ place tag. payload_at place.at left tag.0 tag.1) u1_is tag_of (λ c k. tt)
    (λ place tag k. payload_is place.at left tag))
    (λ c f k. (f.1, tt))
    (λ c f k. ((tag_small c, f), tt)))
    (λ c f k. tagged_is c f.first)

-- ---- places

second_is : (c : Const) → is_second c ≡ true → c ≡ Second
second_is Second e = refl
second_is c e = absurd (false≢true e)

second_at : (left : ℕ) → IsReader (place_at true left) encoding.constant (StandsAt true left)
unfolding place_at
second_at left = said (encoded_where {encode = λ c. []} (done {known = λ c. c ≡ Second} Second refl (λ c k. k)) (λ c f k. sym (ap encoding.constant k)))
    (λ c f k. (subst (StandsAt true left) (sym k) (record { fits = tt; first = refl; room = λ e. no_room left e }), tt)) (λ c f k. (tt, second_is c f.first))

place_is : (second : Bool) (left : ℕ) → IsReader (place_at second left) encoding.constant (StandsAt second left)
unfolding place_at
place_is true left = second_at left
place_is false left = constant_is left

-- Second stands where it is due, as far as the places go.
abbrev Due : Bool → List Const → Type 0
Due second [] = Unit {0}
Due second (c ∷ cs) = (is_second c ≡ second) × (takes_two c ≡ true → 0 < length cs) × Due (takes_two c) cs

due_has : (second : Bool) (cs : List Const) → Due second cs → (second ≡ true → 0 < length cs) → HasSeconds second cs
due_has true [] d some = let h : 0 < 0 = some refl in absurd (omega arith)
due_has false [] d some = refl
due_has second (c ∷ cs) d some = (d.0, due_has (takes_two c) cs d.2 d.1)

has_due : (second : Bool) (cs : List Const) → HasSeconds second cs → Due second cs × (second ≡ true → 0 < length cs)
has_due second [] h = (tt, λ e. absurd (false≢true (sym h ∙ e)))
has_due second (c ∷ cs) h =
    let rest = has_due (takes_two c) cs h.1 in
    ((h.0, rest.1, rest.0), λ e. omega arith)

places_takes : (second : Bool) (n : ℕ) (place : Place) (xs : List Const) (next : Place) → IsBytes place.rest
    → places_at second n place ≡ Ok (xs, next)
    → Took place (flat_map encoding.constant xs) next × (Due second xs × AllByRecursion FitsConst xs) × (length xs ≡ n)
unfolding places_at
places_takes second zero place xs next fits e =
    subst (λ (y : List Const × Place). Took place (flat_map encoding.constant y.0) y.1 × (Due second y.0 × AllByRecursion FitsConst y.0) × (length y.0 ≡ 0)) (ok_is ClassFault ([], place) (xs, next) e) (record { parts = refl; moved = omega arith; fits = fits }, (tt, tt), refl)
places_takes second (suc n) place xs next fits e =
    let a = bind_ok (place_at second n place) (λ first. places_at (takes_two first.0) n first.1 >>= λ others. Ok (first.0 ∷ others.0, others.1)) (xs, next) e in
    let b = bind_ok (places_at (takes_two a.0.0) n a.0.1) (λ others. Ok (a.0.0 ∷ others.0, others.1)) (xs, next) a.2 in
    let first = (place_is second n).takes place a.0.0 a.0.1 fits a.1 in
    let others = places_takes (takes_two a.0.0) n a.0.1 b.0.0 b.0.1 first.0.fits b.1 in
    let both = Took-then place (encoding.constant a.0.0) a.0.1 (flat_map encoding.constant b.0.0) b.0.1 first.0 others.0 in
    let room : takes_two a.0.0 ≡ true → 0 < length b.0.0 = λ two. let h = first.1.room two in omega (arith, others.2, h) in
    let made : List Const × Place = (a.0.0 ∷ b.0.0, b.0.1) in
    subst (λ (y : List Const × Place). Took place (flat_map encoding.constant y.0) y.1 × (Due second y.0 × AllByRecursion FitsConst y.0) × (length y.0 ≡ suc n)) (ok_is ClassFault made (xs, next) b.2) (both, ((first.1.first, room, others.1.0), (first.1.fits, others.1.1)), ap suc others.2)

places_again : (xs : List Const) (second : Bool) (place : Place) (rest : List ℕ) → Due second xs → AllByRecursion FitsConst xs
    → place.rest ≡ flat_map encoding.constant xs ++ rest
    → places_at second (length xs) place ≡ Ok (xs, after place (flat_map encoding.constant xs) rest)
unfolding places_at
places_again [] second place rest due fits e =
    let n : place.at + 0 ≡ place.at = omega arith in
    rw (n, ← e) refl
places_again (x ∷ xs) second place rest due fits e =
    let mid = after place (encoding.constant x) (flat_map encoding.constant xs ++ rest) in
    let one = (place_is second (length xs)).again place x (flat_map encoding.constant xs ++ rest) (record { fits = fits.0; first = due.0; room = due.1 }) tt (e ∙ append_assoc (encoding.constant x) (flat_map encoding.constant xs) rest) in
    let two = places_again xs (takes_two x) mid rest due.2 fits.1 refl in
    let far : place.at + length (encoding.constant x) + length (flat_map encoding.constant xs) ≡ place.at + length (encoding.constant x ++ flat_map encoding.constant xs) = omega (arith, length-append (encoding.constant x) (flat_map encoding.constant xs)) in
    rw (one, two, far) refl

places_is : (second : Bool) (n : ℕ) → IsTail (places_at second n) (λ xs. flat_map encoding.constant xs) (λ xs. Due second xs
    × AllByRecursion FitsConst xs) (λ xs. length xs ≡ n)
places_is second n = record {
  takes = λ place xs next fits e. places_takes second n place xs next fits e;
  again = λ place xs rest fits h e.
      subst (λ (k : ℕ). places_at second k place ≡ Ok (xs, after place (flat_map encoding.constant xs) rest)) h (places_again xs second place rest fits.0 fits.1 e);
}

-- ---- indices

index_named : (pool : List Const) (kind : ConstKind) (index at : ℕ) → index_checked pool kind index at ≡ Ok tt → names kind pool index ≡ true
unfolding index_checked
index_named pool kind index at e = need_holds (names kind pool index) (Index at) e

named_index : (pool : List Const) (kind : ConstKind) (index at : ℕ) → names kind pool index ≡ true → index_checked pool kind index at ≡ Ok tt
unfolding index_checked
named_index pool kind index at h = holds_need (names kind pool index) (Index at) h

pair_named : (pool : List Const) (kind : ConstKind) (m : ℕ) (other : ConstKind) (n at : ℕ) → pair_checked pool kind m other n at ≡ Ok tt
    → (names kind pool m ≡ true) × (names other pool n ≡ true)
unfolding pair_checked
pair_named pool kind m other n at e =
    let b = bind_ok (index_checked pool kind m (at + 1)) (λ _. index_checked pool other n (at + 3)) tt e in
    (index_named pool kind m (at + 1) b.1, index_named pool other n (at + 3) b.2)

named_pair : (pool : List Const) (kind : ConstKind) (m : ℕ) (other : ConstKind) (n at : ℕ)
    → (names kind pool m ≡ true) × (names other pool n ≡ true) → pair_checked pool kind m other n at ≡ Ok tt
unfolding pair_checked
named_pair pool kind m other n at h = rw (named_index pool kind m (at + 1) h.0) (named_index pool other n (at + 3) h.1)

constant_named : (pool : List Const) (c : Const) (at : ℕ) → constant_checked pool c at ≡ Ok tt → IsNamed pool c
constant_named pool (Class name) at e = index_named pool kinds.Utf8 name (at + 1) e
constant_named pool (Str bytes) at e = index_named pool kinds.Utf8 bytes (at + 1) e
constant_named pool (Field class name) at e = pair_named pool kinds.Class class kinds.NameAndType name at e
constant_named pool (Method class name) at e = pair_named pool kinds.Class class kinds.NameAndType name at e
constant_named pool (IMethod class name) at e = pair_named pool kinds.Class class kinds.NameAndType name at e
constant_named pool (NameAndType name desc) at e = pair_named pool kinds.Utf8 name kinds.Utf8 desc at e
constant_named pool c at e = tt

named_constant : (pool : List Const) (c : Const) (at : ℕ) → IsNamed pool c → constant_checked pool c at ≡ Ok tt
named_constant pool (Class name) at h = named_index pool kinds.Utf8 name (at + 1) h
named_constant pool (Str bytes) at h = named_index pool kinds.Utf8 bytes (at + 1) h
named_constant pool (Field class name) at h = named_pair pool kinds.Class class kinds.NameAndType name at h
named_constant pool (Method class name) at h = named_pair pool kinds.Class class kinds.NameAndType name at h
named_constant pool (IMethod class name) at h = named_pair pool kinds.Class class kinds.NameAndType name at h
named_constant pool (NameAndType name desc) at h = named_pair pool kinds.Utf8 name kinds.Utf8 desc at h
named_constant pool c at h = refl

all_named : (pool cs : List Const) (at : ℕ) → all_checked pool cs at ≡ Ok tt → AllByRecursion (IsNamed pool) cs
unfolding all_checked
all_named pool [] at e = tt
all_named pool (c ∷ cs) at e =
    let b = bind_ok (constant_checked pool c at) (λ _. all_checked pool cs (at + length (encoding.constant c))) tt e in
    (constant_named pool c at b.1, all_named pool cs (at + length (encoding.constant c)) b.2)

named_all : (pool cs : List Const) (at : ℕ) → AllByRecursion (IsNamed pool) cs → all_checked pool cs at ≡ Ok tt
unfolding all_checked
named_all pool [] at h = refl
named_all pool (c ∷ cs) at h = rw (named_constant pool c at h.0) (named_all pool cs (at + length (encoding.constant c)) h.1)

-- ---- the pool

-- a pool, or no place
pub record IsPool (pool : List Const) : Type 0 where
  pub count : IsU2 (length pool)
  pub each : AllByRecursion FitsConst pool
  pub due : Due true pool
  pub named : AllByRecursion (IsNamed pool) pool

pub pool_is : IsReader pool_at (encoding.with_count encoding.constant) IsPool
unfolding pool_at
pool_is = said (then {Fits = λ cs. (Due true cs × AllByRecursion FitsConst cs) × AllByRecursion (IsNamed cs) cs} {known = λ _. Unit {0}} _ u2_is length (λ a k. tt)
    (λ n k. checked (λ cs. AllByRecursion (IsNamed cs) cs) (λ p cs. all_checked cs cs p.at) (last (places_is true n))
    (λ p cs e. all_named cs cs p.at e)
    (λ p cs h. named_all cs cs p.at h)))
    (λ a f k. (record { count = f.0; each = f.1.0.1; due = f.1.0.0; named = f.1.1 }, tt))
    (λ a f k. ((f.count, ((f.due, f.each), f.named)), tt))

-- A pool with a place is one of a class file.
pub whole_pool : (pool : List Const) → 0 < length pool → IsPool pool → FitsPool pool
whole_pool pool some is = record { count = is.count; each = is.each; seconds = due_has true pool is.due (λ e. some); named = is.named }

pub pool_whole : (pool : List Const) → FitsPool pool → IsPool pool
pool_whole pool is = record { count = is.count; each = is.each; due = (has_due true pool is.seconds).0; named = is.named }
