-- Words that are the decimal text of a count.
use Rattle.std.proofs.Common.{◌≡◌, ℕ, ℤ, pos, ◌≤◌, ◌<◌, ◌^◌, List, sym, ◌∙◌, arith, FitsSigned}
use Rattle.std.specs.Fmt.{signed_decimal}
use Rattle.std.specs.Int.{w64}
use Rattle.std.specs.Int.Signed.{mag}
use Rattle.std.proofs.lemmas.Fmt.{signed_decimal_injective}
use Rattle.std.proofs.lemmas.Int.{ints}
use Rattle.command_inputs.specs.Counts.{IsCount, IsNumber}

-- a count has 63 bits
fits : (most n : ℕ) → most < 2 ^ 32 → n ≤ most → FitsSigned w64 (pos n)
fits most n small within = omega (arith, ints)

small : (z : ℤ) → FitsSigned w64 z → mag z < 2 ^ 63
small z is = omega (arith, ints)

-- A word that is no number is no count.
pub no_number : (word : List ℕ) (most : ℕ) → most < 2 ^ 32 → ((z : ℤ) → FitsSigned w64 z → word ≡ signed_decimal z → ⊥)
    → (n : ℕ) → IsCount word most n → ⊥
no_number word most small none n count = none (pos n) (fits most n small count.within) count.encoded

-- The number of a word that is a count is that count.
pub number_is : (word : List ℕ) (most : ℕ) (z : ℤ) → most < 2 ^ 32 → FitsSigned w64 z → word ≡ signed_decimal z → (n : ℕ) → IsCount word most n → z ≡ pos n
number_is word most z most_fits z_fits is n count =
    signed_decimal_injective z (pos n) (small z z_fits) (small (pos n) (fits most n most_fits count.within)) (sym is ∙ count.encoded)

-- ---- numbers without a sign

fits_long : (n : ℕ) → n < 2 ^ 63 → FitsSigned w64 (pos n)
fits_long n small = omega (arith, ints)

-- A word that is no number with a sign is none without.
pub no_long : (word : List ℕ) → ((z : ℤ) → FitsSigned w64 z → word ≡ signed_decimal z → ⊥) → (n : ℕ) → IsNumber word n → ⊥
no_long word none n is = none (pos n) (fits_long n is.within) is.encoded

-- The number of a word is the one that is told.
pub long_is : (word : List ℕ) (z : ℤ) → FitsSigned w64 z → word ≡ signed_decimal z → (n : ℕ) → IsNumber word n → z ≡ pos n
long_is word z z_fits is n told = signed_decimal_injective z (pos n) (small z z_fits) (small (pos n) (fits_long n told.within)) (sym is ∙ told.encoded)
