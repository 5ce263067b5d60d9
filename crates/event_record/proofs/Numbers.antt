-- Numbers that are read.
use Rattle.std.proofs.Common.{◌≡◌, ℕ, zero, suc, ℤ, pos, negsuc, neg_ℤ, ◌<◌, ◌^◌, Bool, true, false, List, [], ◌∷◌, length, get_or, Option, Some, None, refl, sym, ap, subst, arith, FitsSigned, cond}
use Rattle.std.specs.Prelude.{◌&&◌, ◌==◌, bytes_eq, decimal}
use Rattle.std.specs.Fmt.{signed_decimal}
use Rattle.std.specs.Int.{w64}
use Rattle.std.specs.Str.Parse.{digits_value}
use Rattle.std.proofs.lemmas.Bool.{and_parts, ltb-true, lt-ltb}
use Rattle.std.proofs.lemmas.Fmt.{decimal_is_IsNumeral, decimal_nonempty, first_decimal, decimal_digit}
use Rattle.std.proofs.lemmas.Int.{ints}
use Rattle.std.proofs.lemmas.Slice.Eq.{bytes_eq-Decides}
use Rattle.event_record.specs.Number.{value_of, fits_64, number_of}

fits_is : (n : ℤ) → fits_64 n ≡ true → FitsSigned w64 n
fits_is (pos n) e = let h : n < 2 ^ 63 = ltb-true n (2 ^ 63) e in omega (arith, ints)
fits_is (negsuc n) e = let h : n < 2 ^ 63 = ltb-true n (2 ^ 63) e in omega (arith, ints)

pub fits_test : (n : ℤ) → FitsSigned w64 n → fits_64 n ≡ true
fits_test (pos n) f = let h : n < 2 ^ 63 = omega (arith, ints) in lt-ltb n (2 ^ 63) h
fits_test (negsuc n) f = let h : n < 2 ^ 63 = omega (arith, ints) in lt-ltb n (2 ^ 63) h

-- the digits of a number stand for it
digits_back : (n : ℕ) → n < 2 ^ 64 → digits_value 10 (decimal n) ≡ n
digits_back n small = (decimal_is_IsNumeral n small).1

no_sign : (n : ℕ) → n < 2 ^ 64 → (get_or (decimal n) 0 0 == 45) ≡ false
no_sign zero small = rw (decimal_digit 0 (omega arith)) refl
no_sign (suc n) small =
    let h = first_decimal (suc n) (omega arith) small in
    grind (arith, h)

unsigned_back : (text : List ℕ) (n : ℕ) → 0 < length text → (get_or text 0 0 == 45) ≡ false → digits_value 10 text ≡ n → value_of text ≡ pos n
unsigned_back [] n some unsigned e = absurd (omega arith)
unsigned_back (b ∷ digits) n some unsigned e = rw unsigned (ap pos e)

pub value_back : (n : ℤ) → FitsSigned w64 n → value_of (signed_decimal n) ≡ n
value_back (pos n) f =
    let small : n < 2 ^ 64 = omega (arith, ints) in
    unsigned_back (decimal n) n (decimal_nonempty n small) (no_sign n small) (digits_back n small)
value_back (negsuc n) f =
    let small : suc n < 2 ^ 64 = omega (arith, ints) in
    ap (λ (k : ℕ). neg_ℤ (pos k)) (digits_back (suc n) small)

-- what is written so is read
pub number_again : (n : ℤ) → FitsSigned w64 n → number_of (signed_decimal n) ≡ Some n
number_again n f =
    let same : bytes_eq (signed_decimal n) (signed_decimal n) ≡ true = (bytes_eq-Decides (signed_decimal n) (signed_decimal n)).1 refl in
    rw (value_back n f, fits_test n f, same) refl

-- what is read is written so
pub record IsWritten (text : List ℕ) (n : ℤ) : Type 0 where
  pub fits : FitsSigned w64 n
  pub text_is : text ≡ signed_decimal n

pub number_found : (text : List ℕ) (n : ℤ) → number_of text ≡ Some n → IsWritten text n
number_found text n e = by (fits_64 (value_of text) && bytes_eq (signed_decimal (value_of text)) text) refl e where
  by : (b : Bool) → (fits_64 (value_of text) && bytes_eq (signed_decimal (value_of text)) text) ≡ b → cond b (Some (value_of text)) None ≡ Some n → IsWritten text n
  by false is h = absurd cc
  by true is h =
      let p = and_parts (fits_64 (value_of text)) (bytes_eq (signed_decimal (value_of text)) text) is in
      let same : value_of text ≡ n = cc in
      subst (IsWritten text) same (record { fits = fits_is (value_of text) p.0; text_is = sym ((bytes_eq-Decides (signed_decimal (value_of text)) text).0 p.1) })

-- a text that is no number's
pub none_written : (text : List ℕ) → ((n : ℤ) → FitsSigned w64 n → text ≡ signed_decimal n → ⊥) → number_of text ≡ None
none_written text none = by (number_of text) refl where
  by : (o : Option ℤ) → number_of text ≡ o → o ≡ None
  by None is = refl
  by (Some n) is = let w = number_found text n is in absurd (none n w.fits w.text_is)
