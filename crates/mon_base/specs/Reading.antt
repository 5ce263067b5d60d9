-- Reading bytes from left to right. (docs/ARCHITECTURE.md)
use Rattle.std.specs.Prelude.{◌≡◌, ℕ, ℤ, zero, suc, ◌+◌, ◌<◌, ◌==◌, Bool, true, false, List, [], ◌∷◌, length, take, drop, slice_index, Option, Some, None, option_map, Result, Ok, Err, nat_lt, if◌then◌else◌}
use Rattle.std.specs.Int.{w32, cast_signed}
pub use Rattle.byteorder.specs.Endian.{big_number, big_bytes}

-- a place among bytes: how many stand before it, and those that are left
pub record Place : Type 0 where
  pub at : ℕ
  pub rest : List ℕ

-- each is a byte
abbrev pub IsBytes : List ℕ → Type 0
IsBytes bytes = (i : ℕ) → slice_index bytes i < 256

-- the next n bytes, and the place after them
abbrev pub bytes_at : ℕ → Place → Option (List ℕ × Place)
bytes_at n place =
    if nat_lt (length place.rest) n then None
    else Some (take n place.rest, record { at = place.at + n; rest = drop n place.rest })

-- the number that the next n bytes are, the highest first, and the place after them
abbrev pub number_at : ℕ → Place → Option (ℕ × Place)
number_at n place = option_map (λ read. (big_number n read.0, read.1)) (bytes_at n place)

-- the number with a sign that the next four bytes are, as two's complement
abbrev pub int_at : Place → Option (ℤ × Place)
int_at place = option_map (λ read. (cast_signed w32 (big_number 4 read.0), read.1)) (bytes_at 4 place)

-- the part of the next n bytes that is there, at the same place
abbrev pub part : ℕ → Place → Place
part n place = record { at = place.at; rest = take n place.rest }

-- A call at the place old that left new answered what reading gives. Where that is nothing, the place stays.
abbrev pub Gives : {X : Type 0} → Option X → (Place → Option (X × Place)) → Place → Place → Type 0
Gives (Some x) reading old new = reading old ≡ Some (x, new)
Gives None reading old new = (reading old ≡ None) × (new ≡ old)

-- One reading after another: the first fault is the answer.
infixl 10 ◌>>=◌
abbrev pub ◌>>=◌ : {A B E : Type 0} → Result A E → (A → Result B E) → Result B E
(Ok x) >>= f = f x
(Err e) >>= f = Err e

-- a test among readings, and the fault where it fails
abbrev pub need : {E : Type 0} → Bool → E → Result (Unit {0}) E
need true fault = Ok tt
need false fault = Err fault

-- n items, one after another
unfoldable pub counted : {X E : Type 0} → (Place → Result (X × Place) E) → ℕ → Place → Result (List X × Place) E
counted item zero place = Ok ([], place)
counted item (suc n) place = do
  first ← item place
  others ← counted item n first.1
  Ok (first.0 ∷ others.0, others.1)

-- what the reader gives of all the bytes, after which none may be left
abbrev pub whole : {A E : Type 0} → (Place → Result (A × Place) E) → (Place → E) → List ℕ → Result A E
whole reader fault bytes = do
  read ← reader (record { at = 0; rest = bytes })
  end ← need (length read.1.rest == 0) (fault read.1)
  Ok read.0
