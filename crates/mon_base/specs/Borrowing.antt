-- What becomes of a list of which an item is borrowed.
use Rattle.std.specs.Prelude.{ℕ, List, slice_set}
use Rattle.std.specs.Borrow.{Fml, Lends, MutBor, RattleType}
use Rattle.mon_base.specs.contracts.list.List.{the_row}

-- Once the loan is over, what was left there stands in the place.
abbrev pub BorrowsItem : (T : RattleType) → MutBor (List T.Denot) → ℕ → MutBor T.Denot → Fml
BorrowsItem T list place item = Lends (the_row T) T list item (slice_set list.now place)
