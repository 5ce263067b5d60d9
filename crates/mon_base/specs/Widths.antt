-- Numbers that one, two, four and eight bytes hold, and how they are encoded: the highest byte first. (The Java Virtual
-- Machine Specification, chapter 4: u1, u2, u4.)
use Rattle.std.specs.Prelude.{ℕ, ◌<◌, ◌^◌, List}
use Rattle.byteorder.specs.Endian.{big_bytes}

abbrev pub IsU1 : ℕ → Type 0
IsU1 n = n < 2 ^ 8

abbrev pub IsU2 : ℕ → Type 0
IsU2 n = n < 2 ^ 16

abbrev pub IsU4 : ℕ → Type 0
IsU4 n = n < 2 ^ 32

abbrev pub IsU8 : ℕ → Type 0
IsU8 n = n < 2 ^ 64

abbrev pub u1 : ℕ → List ℕ
u1 n = big_bytes 1 n

abbrev pub u2 : ℕ → List ℕ
u2 n = big_bytes 2 n

abbrev pub u4 : ℕ → List ℕ
u4 n = big_bytes 4 n

abbrev pub u8 : ℕ → List ℕ
u8 n = big_bytes 8 n
