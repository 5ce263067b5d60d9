use Rattle.std.proofs.lemmas.Result.{err_from_is_err_and}
use Rattle.std.proofs.Common.{◌++◌}
use Rattle.std.specs.List.{flat_map}
use Rattle.insn_codec.specs.Encoding.{i4, offset}
use Rattle.insn_codec.specs.Writing.{all_far}
use Rattle.insn_codec.proofs.Putting.{far_ends, far_on, offsets_on, far_done, offsets_done}
use Rattle.insn_codec.proofs.writing.put_all_far.Goals as goal

pub returns-in_err-put_far : goal.returns-in_err-put_far
returns-in_err-put_far c =
    let p = err_from_is_err_and c.from_residual.result c.from_residual.ensures.1 in
    let starts = c.args.starts.now in
    rw (p.1, p.2) (far_ends c.in_err-put_far.field-0.0 starts c.args.at c.loop-left.left.now (all_far starts c.args.at c.args.targets.now)
    c.in-len1-up.len_at_least c.in_err-put_far.ensures c.loop-left.invariant.0)

pub loop-left-preserved : goal.loop-left-preserved
loop-left-preserved c =
    let starts = c.args.starts.now in
    let some = c.in-len1-up.len_at_least in
    let total = c.args.out.now ++ flat_map (λ to. i4 (offset starts c.args.at to)) c.args.targets.now in
    rw c.in_ok-put_far.ensures.1 (
      far_on starts c.args.at c.loop-left.left.now (all_far starts c.args.at c.args.targets.now) some c.in_ok-put_far.ensures.0 c.loop-left.invariant.0,
      offsets_on starts c.args.at c.loop-left.out c.loop-left.left.now total some c.loop-left.invariant.1,
    )

pub returns : goal.returns
returns c =
    let starts = c.args.starts.now in
    let none = c.in_default.len_below in
    let total = c.args.out.now ++ flat_map (λ to. i4 (offset starts c.args.at to)) c.args.targets.now in (
      far_done starts c.args.at c.loop-left.left.now (all_far starts c.args.at c.args.targets.now) none c.loop-left.invariant.0,
      offsets_done starts c.args.at c.loop-left.out c.loop-left.left.now total none c.loop-left.invariant.1,
    )
