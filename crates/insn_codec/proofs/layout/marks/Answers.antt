use Rattle.std.proofs.Common.{arith}
use Rattle.insn_codec.specs.Encoding.{len_from}
use Rattle.insn_codec.specs.Targets.{marks_from}
use Rattle.insn_codec.proofs.Standing.{fits_size, size-some, len_step, marks_step, marks_done}
use Rattle.insn_codec.proofs.layout.marks.Goals as goal

pub size-len-requires : goal.size-len-requires
size-len-requires c = omega (
  arith,
  fits_size c.loop-left.left.now c.first-item.result c.loop-left.at (len_from 0 c.args.insns.now)
      c.in-len1-up.len_at_least c.first-item.is c.loop-left.invariant.1,
)

pub overflow_add-number : goal.overflow_add-number
overflow_add-number c = omega (
  arith,
  c.size-len.ensures,
  size-some c.loop-left.at c.first-item.result,
  fits_size c.loop-left.left.now c.first-item.result c.loop-left.at (len_from 0 c.args.insns.now)
      c.in-len1-up.len_at_least c.first-item.is c.loop-left.invariant.1,
)

pub loop-left-preserved : goal.loop-left-preserved
loop-left-preserved c =
    let some = c.in-len1-up.len_at_least in
    rw c.in_ok-mark.ensures (
      marks_step c.loop-left.marks.items c.loop-left.left.now c.first-item.result c.loop-left.number c.loop-left.at c.size-len.result (marks_from 0 0 c.args.insns.now)
          some c.first-item.is c.size-len.ensures c.loop-left.invariant.0,
      len_step c.loop-left.left.now c.first-item.result c.loop-left.at c.size-len.result (len_from 0 c.args.insns.now)
          some c.first-item.is c.size-len.ensures c.loop-left.invariant.1,
      omega (arith, c.size-len.ensures, size-some c.loop-left.at c.first-item.result, c.loop-left.invariant.2),
    )

pub returns : goal.returns
returns c = marks_done c.loop-left.marks.items c.loop-left.left.now c.loop-left.number c.loop-left.at (marks_from 0 0 c.args.insns.now) c.in_default.len_below c.loop-left.invariant.0
