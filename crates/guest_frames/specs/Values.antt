-- Values as what instructions move. Numbers wrap at 32 bits. (The Java Virtual Machine Specification, section 6.5.)
use Rattle.std.specs.Prelude.{ℕ, ℤ, pos, ◌^◌, ◌/◌, ◌%◌, ◌==◌, Bool, true, false}
use Rattle.std.specs.Int.{w8, w16, w32, cast_signed, cast_unsigned, int_wrapping_add, int_wrapping_sub, int_wrapping_mul, int_wrapping_neg, int_bit_and, int_bit_or, int_bit_xor, int_shl, int_shr}
use Rattle.guest_heap.specs.declared.value.Value.{Value}
use Rattle.guest_heap.specs.declared.value.Value.TheVariants as values
use Rattle.insn_codec.specs.declared.shape.ValueKind.{ValueKind}
use Rattle.insn_codec.specs.declared.shape.ValueKind.TheVariants as kinds
use Rattle.insn_codec.specs.declared.shape.One.{One}
use Rattle.insn_codec.specs.declared.shape.One.TheVariants as one
use Rattle.insn_codec.specs.declared.shape.Two.{Two}
use Rattle.insn_codec.specs.declared.shape.Two.TheVariants as two
use Rattle.insn_codec.specs.Control.{View}
use Rattle.insn_codec.specs.Effect.{Domain}

abbrev pub is_number : Value → Bool
is_number (values.Int n) = true
is_number other = false

abbrev pub is_reference : Value → Bool
is_reference (values.Int n) = false
is_reference other = true

abbrev pub number_of : Value → ℤ
number_of (values.Int n) = n
number_of other = pos 0

abbrev pub is_null : Value → Bool
is_null values.Null = true
is_null other = false

-- whether two references are of one object
abbrev pub are_one : Value → Value → Bool
are_one values.Null values.Null = true
are_one (values.Ref i) (values.Ref j) = i == j
are_one (values.Class i) (values.Class j) = i == j
are_one (values.Lit i) (values.Lit j) = i == j
are_one v w = false

-- the low five bits
abbrev pub distance : ℤ → ℕ
distance y = cast_unsigned w32 y % 32

abbrev pub made_of_two : Two → ℤ → ℤ → ℤ
made_of_two two.Add x y = int_wrapping_add w32 x y
made_of_two two.Subtract x y = int_wrapping_sub w32 x y
made_of_two two.Multiply x y = int_wrapping_mul w32 x y
made_of_two two.ShiftLeft x y = int_shl w32 x (distance y)
made_of_two two.ShiftRight x y = int_shr x (distance y)
made_of_two two.ShiftRightUnsigned x y = cast_signed w32 (cast_unsigned w32 x / 2 ^ distance y)
made_of_two two.And x y = int_bit_and w32 x y
made_of_two two.Or x y = int_bit_or w32 x y
made_of_two two.Xor x y = int_bit_xor w32 x y

abbrev pub made_of_one : One → ℤ → ℤ
made_of_one one.Negate x = int_wrapping_neg w32 x
made_of_one one.ToByte x = cast_signed w8 (cast_unsigned w32 x % 2 ^ 8)
made_of_one one.ToChar x = pos (cast_unsigned w32 x % 2 ^ 16)
made_of_one one.ToShort x = cast_signed w16 (cast_unsigned w32 x % 2 ^ 16)

abbrev pub fits : ValueKind → Value → Bool
fits kinds.Int v = is_number v
fits kinds.Reference v = is_reference v

abbrev pub values_moved : Domain Value
values_moved = record {
  fits = fits;
  made = is_reference;
  int = values.Int;
  null = values.Null;
  two = λ op v w. values.Int (made_of_two op (number_of v) (number_of w));
  one = λ op v. values.Int (made_of_one op (number_of v));
}

abbrev pub values_seen : View Value
values_seen = record { number = number_of; is_null = is_null; are_one = are_one }
