use Rattle.std.proofs.lemmas.Result.{err_from_is_err_and}
use Rattle.class_codec.specs.Reading.{all_checked}
use Rattle.class_codec.proofs.Loop.{checks_step, sum_step, check_step_ends, checks_end}
use Rattle.class_codec.proofs.indices.check_all.Goals as goal

pub returns-in_err-check_constant : goal.returns-in_err-check_constant
returns-in_err-check_constant c =
    let p = err_from_is_err_and c.from_residual.result c.from_residual.ensures.1 in
    let pool = c.args.pool.now in
    let left = c.loop-left.left.now in
    let total = all_checked pool pool c.args.start in
    rw (p.1, p.2) (check_step_ends c.in_err-check_constant.field-0.0 pool left c.first-item.result c.loop-left.at total
    c.in-len1-up.len_at_least c.first-item.is c.in_err-check_constant.ensures c.loop-left.invariant.0)

pub loop-left-preserved : goal.loop-left-preserved
loop-left-preserved c =
    let pool = c.args.pool.now in
    let left = c.loop-left.left.now in
    let total = all_checked pool pool c.args.start in
    let some = c.in-len1-up.len_at_least in
    let is = c.first-item.is in
    let len = c.len_of-at.ensures in (
      checks_step pool left c.first-item.result c.loop-left.at c.len_of-at.result total some is len
          c.in_ok-check_constant.ensures c.loop-left.invariant.0,
      sum_step left c.first-item.result c.loop-left.at c.len_of-at.result c.args.end some is len c.loop-left.invariant.1,
    )

pub returns : goal.returns
returns c =
    let pool = c.args.pool.now in
    let total = all_checked pool pool c.args.start in
    checks_end pool c.loop-left.left.now c.loop-left.at total c.in_default.len_below c.loop-left.invariant.0
