-- What is no text of a number.
use Rattle.std.proofs.Common.{◌≡◌, ℤ, FitsSigned, ℕ, ◌<◌, ◌^◌, List, Option, Some, None, Result, Ok, Err, MatchResult, IfNone, Bor, ap, to_z, of_z, eqb, false, true, [], ◌∷◌, arith, sym, ◌∙◌, subst, refl}
use Rattle.std.specs.Fmt.{signed_decimal}
use Rattle.std.specs.Int.{w64}
use Rattle.std.specs.Int.Signed.{mag}
use Rattle.std.specs.Result.{result_ok}
use Rattle.std.specs.Str.{IsUtf8}
use Rattle.std.specs.Str.Parse.{ParsesSigned}
use Rattle.std.proofs.lemmas.Fmt.{IsAscii-signed, parse-signed_decimal}
use Rattle.std.proofs.lemmas.Str.{IsUtf8-from_ascii}
use Rattle.std.proofs.lemmas.Int.{ints, to_z-of_z}
use Rattle.std.proofs.lemmas.Bool.{false≢true}
use Rattle.std.specs.Cmp.Lexicographic.{pointwise}
use Rattle.std.proofs.lemmas.Bool.{eq-eqb}

pub small : (n : ℤ) → FitsSigned w64 n → mag n < 2 ^ 63
small n fits = omega (arith, ints)

-- the text of a number is UTF-8
pub is_utf8 : (text : List ℕ) (n : ℤ) → FitsSigned w64 n → text ≡ signed_decimal n → IsUtf8 text
is_utf8 text n fits e = subst IsUtf8 (sym e) (IsUtf8-from_ascii (signed_decimal n) (IsAscii-signed n (small n fits)))

pub none_if : {A : Type 0} (o : Option A) (Q : Type 0) → Q → IfNone o Q
none_if None Q q = q
none_if (Some x) Q q = tt

-- a text of a number parses
pub parses : {E : Type 0} (text : List ℕ) (n : ℤ) (r : Result ℤ E) → FitsSigned w64 n → text ≡ signed_decimal n → ParsesSigned w64 10 text r → r ≡ Ok n
parses text n r fits e p = parse-signed_decimal w64 n text r fits (small n fits) e p

-- a text that is not UTF-8 is no number's
pub not_utf8 : {E : Type 0} (text : List ℕ) (r : Result (Bor (List ℕ)) E) (X : E → Type 0) → None ≡ result_ok r → MatchResult r (λ s. (s.now ≡ text) × IsUtf8 text) (λ e. (¬ IsUtf8 text) × X e) → (n : ℤ) → FitsSigned w64 n → text ≡ signed_decimal n → ⊥
not_utf8 text (Ok s) X none h n fits e = absurd cc
not_utf8 text (Err d) X none h n fits e = h.0 (is_utf8 text n fits e)

-- what was read as text is the text
pub text_is : {E : Type 0} (text : List ℕ) (r : Result (Bor (List ℕ)) E) (s : Bor (List ℕ)) (Q : E → Type 0) → Some s ≡ result_ok r → MatchResult r (λ s. (s.now ≡ text) × IsUtf8 text) Q → s.now ≡ text
text_is text (Ok x) s Q some h = let same : s ≡ x = cc in ap (λ (b : Bor (List ℕ)). b.now) same ∙ h.0
text_is text (Err d) s Q some h = absurd cc

-- a text that does not parse is no number's
pub not_parsed : {E : Type 0} (text digits : List ℕ) (r : Result ℤ E) → digits ≡ text → None ≡ result_ok r → ParsesSigned w64 10 digits r → (n : ℤ) → FitsSigned w64 n → text ≡ signed_decimal n → ⊥
not_parsed text digits r same none p n fits e = let found = parses digits n r fits (same ∙ e) p in let some = ap result_ok found in absurd cc

-- bytes are equal to themselves
pointwise_refl : (xs : List ℕ) → pointwise eqb xs xs ≡ true
pointwise_refl [] = refl
pointwise_refl (x ∷ xs) = rw (eq-eqb x x refl) (pointwise_refl xs)

-- a text that parses to a number whose text is another is no number's
pub other_text : {E : Type 0} (text digits printed : List ℕ) (number : ℤ) (r : Result ℤ E) → digits ≡ text → Some number ≡ result_ok r → ParsesSigned w64 10 digits r → printed ≡ signed_decimal (to_z w64 (of_z w64 number)) → pointwise eqb printed text ≡ false → (n : ℤ) → FitsSigned w64 n → text ≡ signed_decimal n → ⊥
other_text text digits printed number r same some p print differ n fits e =
    let found = parses digits n r fits (same ∙ e) p in
    let some' = ap result_ok found in
    let is : number ≡ n = cc in
    let back : to_z w64 (of_z w64 n) ≡ n = to_z-of_z w64 n fits in
    let equal : printed ≡ text = print ∙ ap (λ (z : ℤ). signed_decimal (to_z w64 (of_z w64 z))) is ∙ ap signed_decimal back ∙ sym e in
    false≢true (sym differ ∙ ap (λ (t : List ℕ). pointwise eqb printed t) (sym equal) ∙ pointwise_refl printed)
