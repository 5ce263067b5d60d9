use Rattle.std.proofs.Common.{arith}
use Rattle.mon_base.proofs.Lists.{front_is}
use Rattle.bundle_gen.proofs.Counting.{bytes_at, bytes_none}
use Rattle.bundle_gen.proofs.lengths.bytes_of.Goals as goal

pub overflow_add-bytes : goal.overflow_add-bytes
overflow_add-bytes c =
    let split = front_is c.loop-left.left.now c.file-item.result c.in-len1-up.len_at_least c.file-item.is in
    let one = bytes_at c.file-item.result c.loop-left.left.now _ split in
    omega (arith, c.loop-left.invariant, one, c.in_ok-length.ensures, c.requires)

pub loop-left-preserved : goal.loop-left-preserved
loop-left-preserved c =
    let split = front_is c.loop-left.left.now c.file-item.result c.in-len1-up.len_at_least c.file-item.is in
    let one = bytes_at c.file-item.result c.loop-left.left.now _ split in
    omega (arith, c.loop-left.invariant, one, c.in_ok-length.ensures)

pub returns : goal.returns
returns c = omega (arith, c.loop-left.invariant, bytes_none c.loop-left.left.now c.in_default.len_below)
