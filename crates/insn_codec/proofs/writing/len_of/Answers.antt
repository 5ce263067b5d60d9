use Rattle.std.proofs.Common.{arith}
use Rattle.insn_codec.specs.Encoding.{len_from}
use Rattle.insn_codec.proofs.Standing.{fits_size, len_step, len_done}
use Rattle.insn_codec.proofs.writing.len_of.Goals as goal

pub size-at-requires : goal.size-at-requires
size-at-requires c = omega (
  arith,
  fits_size c.loop-left.left.now c.first-item.result c.loop-left.at (len_from 0 c.args.insns.now)
      c.in-len1-up.len_at_least c.first-item.is c.loop-left.invariant,
)

pub overflow_add-at : goal.overflow_add-at
overflow_add-at c = omega (
  arith,
  c.size-at.ensures,
  fits_size c.loop-left.left.now c.first-item.result c.loop-left.at (len_from 0 c.args.insns.now)
      c.in-len1-up.len_at_least c.first-item.is c.loop-left.invariant,
)

pub loop-left-preserved : goal.loop-left-preserved
loop-left-preserved c =
    len_step c.loop-left.left.now c.first-item.result c.loop-left.at c.size-at.result (len_from 0 c.args.insns.now)
    c.in-len1-up.len_at_least c.first-item.is c.size-at.ensures c.loop-left.invariant

pub returns : goal.returns
returns c = len_done c.loop-left.left.now c.loop-left.at (len_from 0 c.args.insns.now) c.in_default.len_below c.loop-left.invariant
