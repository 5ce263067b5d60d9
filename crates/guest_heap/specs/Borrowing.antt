-- What becomes of frames of which the top one is borrowed. (docs/MACHINE.md)
use Rattle.std.specs.Prelude.{List, slice_set}
use Rattle.std.specs.Borrow.{Fml, Lends, MutBor}
use Rattle.guest_heap.specs.declared.frame.Frame.{Frame}
use Rattle.guest_heap.specs.contracts.frame.Frame.{the_row as frame_row}
use Rattle.guest_heap.specs.contracts.frame.Frames.{the_row}

-- Once the loan is over, what was left there is the top frame.
abbrev pub BorrowsTop : MutBor (List Frame) → MutBor Frame → Fml
BorrowsTop frames top = Lends the_row frame_row frames top (slice_set frames.now 0)

-- the same of the frame under it
abbrev pub BorrowsCaller : MutBor (List Frame) → MutBor Frame → Fml
BorrowsCaller frames caller = Lends the_row frame_row frames caller (slice_set frames.now 1)
