use Rattle.std.proofs.Common.{◌++◌, arith}
use Rattle.std.proofs.lemmas.Result.{err_from_is_err_and}
use Rattle.insn_codec.specs.Encoding.{len_from, bytes_from}
use Rattle.insn_codec.specs.Writing.{reach_from}
use Rattle.insn_codec.proofs.Putting.{reach_ends, reach_on, bytes_on, reach_done, bytes_done, first_fits, others_fit}
use Rattle.insn_codec.proofs.Standing.{fits_size, len_step}
use Rattle.insn_codec.proofs.writing.put_all.Goals as goal

pub put_insn-requires : goal.put_insn-requires
put_insn-requires c =
    let some = c.in-len1-up.len_at_least in
    let h = fits_size c.loop-left.left.now c.first-item.result c.loop-left.at (len_from 0 c.args.insns.now) some c.first-item.is c.loop-left.invariant.2 in
    record {
      place = omega (arith, h, c.requires.len);
      insn = first_fits c.loop-left.left.now c.first-item.result some c.first-item.is c.loop-left.invariant.3;
    }

pub size-at-requires : goal.size-at-requires
size-at-requires c = omega (
  arith,
  c.requires.len,
  fits_size c.loop-left.left.now c.first-item.result c.loop-left.at (len_from 0 c.args.insns.now)
      c.in-len1-up.len_at_least c.first-item.is c.loop-left.invariant.2,
)

pub overflow_add-at : goal.overflow_add-at
overflow_add-at c = omega (
  arith,
  c.requires.len,
  c.size-at.ensures,
  fits_size c.loop-left.left.now c.first-item.result c.loop-left.at (len_from 0 c.args.insns.now)
      c.in-len1-up.len_at_least c.first-item.is c.loop-left.invariant.2,
)

pub returns-in_err-put_insn : goal.returns-in_err-put_insn
returns-in_err-put_insn c =
    let p = err_from_is_err_and c.from_residual.result c.from_residual.ensures.1 in
    let starts = c.args.starts.now in
    rw (p.1, p.2) (reach_ends c.in_err-put_insn.field-0.0 starts c.loop-left.at c.loop-left.left.now c.first-item.result (reach_from starts 0 c.args.insns.now)
    c.in-len1-up.len_at_least c.first-item.is c.in_err-put_insn.ensures c.loop-left.invariant.0)

pub loop-left-preserved : goal.loop-left-preserved
loop-left-preserved c =
    let starts = c.args.starts.now in
    let some = c.in-len1-up.len_at_least in
    let left = c.loop-left.left.now in
    let first = c.first-item.result in
    let is = c.first-item.is in
    let at = c.loop-left.at in
    let len = c.size-at.result in
    rw c.in_ok-put_insn.ensures.1 (
      reach_on starts at len left first (reach_from starts 0 c.args.insns.now) some is c.size-at.ensures c.in_ok-put_insn.ensures.0 c.loop-left.invariant.0,
      bytes_on starts at len left first c.loop-left.out (c.args.out.now ++ bytes_from starts 0 c.args.insns.now) some is c.size-at.ensures c.loop-left.invariant.1,
      len_step left first at len (len_from 0 c.args.insns.now) some is c.size-at.ensures c.loop-left.invariant.2,
      others_fit left some c.loop-left.invariant.3,
    )

pub returns : goal.returns
returns c =
    let starts = c.args.starts.now in
    let none = c.in_default.len_below in (
      reach_done starts c.loop-left.at c.loop-left.left.now (reach_from starts 0 c.args.insns.now) none c.loop-left.invariant.0,
      bytes_done starts c.loop-left.at c.loop-left.left.now c.loop-left.out (c.args.out.now ++ bytes_from starts 0 c.args.insns.now) none c.loop-left.invariant.1,
    )
