use Rattle.std.proofs.Common.{◌∙◌, arith}
use Rattle.insn_codec.specs.Encoding.{len_from, starts_of}
use Rattle.insn_codec.proofs.Standing.{fits_size, len_step, starts_step, starts_done}
use Rattle.insn_codec.proofs.layout.starts.Goals as goal

pub size-at-requires : goal.size-at-requires
size-at-requires c = omega (
  arith,
  fits_size c.loop-left.left.now c.first-item.result c.loop-left.at (len_from 0 c.args.insns.now)
      c.in-len1-up.len_at_least c.first-item.is c.loop-left.invariant.1,
)

pub overflow_add-at : goal.overflow_add-at
overflow_add-at c = omega (
  arith,
  c.size-at.ensures,
  fits_size c.loop-left.left.now c.first-item.result c.loop-left.at (len_from 0 c.args.insns.now)
      c.in-len1-up.len_at_least c.first-item.is c.loop-left.invariant.1,
)

pub loop-left-preserved : goal.loop-left-preserved
loop-left-preserved c =
    let some = c.in-len1-up.len_at_least in
    rw c.in_ok-push.ensures.items (
      starts_step c.loop-left.starts.items c.loop-left.left.now c.first-item.result c.loop-left.at c.size-at.result (starts_of c.args.insns.now)
          some c.first-item.is c.size-at.ensures c.loop-left.invariant.0,
      len_step c.loop-left.left.now c.first-item.result c.loop-left.at c.size-at.result (len_from 0 c.args.insns.now)
          some c.first-item.is c.size-at.ensures c.loop-left.invariant.1,
    )

pub returns : goal.returns
returns c = c.from_vec.ensures ∙ c.in_ok-push-2.ensures.items
    ∙ starts_done c.loop-left.starts.items c.loop-left.left.now c.loop-left.at (starts_of c.args.insns.now) c.in_default.len_below c.loop-left.invariant.0
