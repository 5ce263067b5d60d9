-- Numbers, byte strings and indices are read exactly as they are encoded.
use Rattle.std.proofs.Common.{◌≡◌, ℕ, ◌<◌, true, List, length}
use Rattle.mon_base.specs.Reading.{Place, need}
use Rattle.mon_base.proofs.Reading.{IsTail, IsReader, need_holds, holds_need, then, said, last, items, number_is, bytes_is, text_is, one, two, four, eight}
use Rattle.mon_base.proofs.Readers.{checked}
use Rattle.class_codec.specs.declared.fault.ClassFault.TheVariants.{Short, Index}
use Rattle.class_codec.specs.declared.pool.ConstKind.{ConstKind}
use Rattle.class_codec.specs.declared.tree.Const.{Const}
use Rattle.class_codec.specs.Pool.{names}
use Rattle.class_codec.specs.Encoding as encoding
use Rattle.mon_base.specs.Widths.{IsU2, IsU4, IsU8, u1, u2, u4, u8}
use Rattle.class_codec.specs.Fits.{IsIndex, FitsBlock, FitCounted}
use Rattle.class_codec.specs.Reading.{Read, u1_at, u2_at, u4_at, u8_at, taken_at, block_at, index_at, counted_at}

pub u1_is : IsReader u1_at u1 (λ n. n < 256)
unfolding u1_at
u1_is = number_is one (λ p. Short p.at)

pub u2_is : IsReader u2_at u2 IsU2
unfolding u2_at
u2_is = number_is two (λ p. Short p.at)

pub u4_is : IsReader u4_at u4 IsU4
unfolding u4_at
u4_is = number_is four (λ p. Short p.at)

pub u8_is : IsReader u8_at u8 IsU8
unfolding u8_at
u8_is = number_is eight (λ p. Short p.at)

pub taken_is : (n : ℕ) → IsTail (taken_at n) (λ bytes. bytes) (λ bytes. Unit {0}) (λ bytes. length bytes ≡ n)
unfolding taken_at
taken_is n = bytes_is n (λ p. Short p.at)

-- bytes of which the length was told
pub rest_is : (n : ℕ) → IsTail (taken_at n) (λ bytes. bytes) (λ bytes. Unit {0}) (λ bytes. Unit {0} × (length bytes ≡ n))
rest_is n = last (taken_is n)

pub block_is : IsReader block_at encoding.block FitsBlock
unfolding block_at u4_at taken_at
block_is = text_is four (λ p. Short p.at) (λ p. Short p.at)

pub index_is : (kind : ConstKind) (pool : List Const) → IsReader (index_at kind pool) u2 (IsIndex kind pool)
unfolding index_at
index_is kind pool = said (checked (λ index. names kind pool index ≡ true) (λ p index. need (names kind pool index) (Index p.at)) u2_is
    (λ p index e. need_holds (names kind pool index) (Index p.at) e)
    (λ p index h. holds_need (names kind pool index) (Index p.at) h))
    (λ a f k. (record { fits = f.0; named = f.1 }, tt))
    (λ a f k. ((f.fits, f.named), tt))

-- items that two bytes count
pub counted_is : {X : Type 0} {item : Place → Read X} {encode : X → List ℕ} {Fits : X → Type 0} → IsReader item encode Fits
    → IsReader (counted_at item) (encoding.with_count encode) (FitCounted Fits)
unfolding counted_at
counted_is is = said (then {known = λ _. Unit {0}} _ u2_is length (λ a k. tt) (λ n k. last (items is n)))
    (λ a f k. (record { count = f.0; each = f.1 }, tt))
    (λ a f k. ((f.count, f.each), tt))
