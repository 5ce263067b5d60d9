use Rattle.std.proofs.Common.{arith}
use Rattle.insn_codec.specs.Encoding.{len_from}
use Rattle.insn_codec.specs.Reading.{ended}
use Rattle.insn_codec.proofs.Standing.{fits_size, two_left, len_step, ended_step}
use Rattle.insn_codec.proofs.layout.check_end.Goals as goal

pub size-at-requires : goal.size-at-requires
size-at-requires c = omega (
  arith,
  fits_size c.loop-left.left.now c.first-item.result c.loop-left.at (len_from 0 c.args.insns.now)
      c.in-len1-up.len_at_least c.first-item.is c.loop-left.invariant.1,
)

pub overflow_add-at : goal.overflow_add-at
overflow_add-at c = omega (
  arith,
  c.size-at.ensures,
  fits_size c.loop-left.left.now c.first-item.result c.loop-left.at (len_from 0 c.args.insns.now)
      c.in-len1-up.len_at_least c.first-item.is c.loop-left.invariant.1,
)

pub loop-left-preserved : goal.loop-left-preserved
loop-left-preserved c =
    let some = c.in-len1-up.len_at_least in
    let more = two_left c.loop-left.left.now c.is_empty.result some c.is_empty.ensures c.if-is_empty.false in (
      ended_step c.loop-left.left.now c.first-item.result c.loop-left.at c.size-at.result (ended 0 c.args.insns.now)
          more c.first-item.is c.size-at.ensures c.loop-left.invariant.0,
      len_step c.loop-left.left.now c.first-item.result c.loop-left.at c.size-at.result (len_from 0 c.args.insns.now)
          some c.first-item.is c.size-at.ensures c.loop-left.invariant.1,
    )
