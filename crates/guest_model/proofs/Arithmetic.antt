-- What instructions make of numbers is of 32 bits.
use Rattle.std.proofs.Common.{ℕ, ℤ, ◌+◌, ◌*◌, ◌^◌, ◌<◌, arith}
use Rattle.std.specs.Prelude.{pos, ◌/◌, ◌%◌, ◌-◌, FitsSigned, bit_and, bit_or, bit_xor}
use Rattle.std.specs.Int.{w8, w16, w32, cast_signed, cast_unsigned, int_shr}
use Rattle.std.specs.Int.Signed.{mag_shr}
use Rattle.std.proofs.lemmas.Int.{ints}
use Rattle.insn_codec.specs.declared.shape.One.TheVariants as one
use Rattle.insn_codec.specs.declared.shape.Two.TheVariants as two
use Rattle.guest_model.specs.Numbers.{OneMakesWords, TwoMakeWords}
use Rattle.guest_frames.specs.Values.{distance}

-- bits as a number of the type
pub cast_fits : (n : ℕ) → FitsSigned w32 (cast_signed w32 n)
cast_fits n = grind (arith, ints)

wrapped : (n : ℕ) → FitsSigned w32 (cast_signed w32 (n % 2 ^ 32))
wrapped n = cast_fits (n % 2 ^ 32)

pub of_8 : (z : ℤ) → FitsSigned w8 z → FitsSigned w32 z
of_8 z h = grind (arith, ints)

pub of_16 : (z : ℤ) → FitsSigned w16 z → FitsSigned w32 z
of_16 z h = grind (arith, ints)

shifted : (z : ℤ) (k : ℕ) → FitsSigned w32 z → FitsSigned w32 (int_shr z k)
shifted z k h = record { sfits = omega (arith, mag_shr z (2 ^ k), h.sfits) }

pub made_of_two_fits : TwoMakeWords
made_of_two_fits two.Add x y h = wrapped (cast_unsigned w32 x + cast_unsigned w32 y)
made_of_two_fits two.Subtract x y h = wrapped (cast_unsigned w32 x + (2 ^ 32 - cast_unsigned w32 y))
made_of_two_fits two.Multiply x y h = wrapped (cast_unsigned w32 x * cast_unsigned w32 y)
made_of_two_fits two.ShiftLeft x y h = wrapped (cast_unsigned w32 x * 2 ^ distance y)
made_of_two_fits two.ShiftRight x y h = shifted x (distance y) h
made_of_two_fits two.ShiftRightUnsigned x y h = cast_fits (cast_unsigned w32 x / 2 ^ distance y)
made_of_two_fits two.And x y h = cast_fits (bit_and (cast_unsigned w32 x) (cast_unsigned w32 y))
made_of_two_fits two.Or x y h = cast_fits (bit_or (cast_unsigned w32 x) (cast_unsigned w32 y))
made_of_two_fits two.Xor x y h = cast_fits (bit_xor (cast_unsigned w32 x) (cast_unsigned w32 y))

narrow_8 : (n : ℕ) → FitsSigned w32 (cast_signed w8 (n % 2 ^ 8))
narrow_8 n = let lt : n % 2 ^ 8 < 2 ^ 8 = omega arith in grind (arith, ints)

narrow_16 : (n : ℕ) → FitsSigned w32 (cast_signed w16 (n % 2 ^ 16))
narrow_16 n = let lt : n % 2 ^ 16 < 2 ^ 16 = omega arith in grind (arith, ints)

as_char : (n : ℕ) → FitsSigned w32 (pos (n % 2 ^ 16))
as_char n = let lt : n % 2 ^ 16 < 2 ^ 16 = omega arith in grind (arith, ints)

pub made_of_one_fits : OneMakesWords
made_of_one_fits one.Negate x = wrapped (2 ^ 32 - cast_unsigned w32 x)
made_of_one_fits one.ToByte x = narrow_8 (cast_unsigned w32 x)
made_of_one_fits one.ToChar x = as_char (cast_unsigned w32 x)
made_of_one_fits one.ToShort x = narrow_16 (cast_unsigned w32 x)
