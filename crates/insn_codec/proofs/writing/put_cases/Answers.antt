use Rattle.std.specs.Int.{w32}
use Rattle.std.proofs.lemmas.Int.{to_z-of_z}
use Rattle.std.proofs.Common.{ℕ, ℤ, pos, List, get_or, FitsSigned, rules, ◌<◌, length, ◌++◌, ap, ◌∙◌, arith}
use Rattle.std.proofs.lemmas.Result.{err_from_is_err_and}
use Rattle.std.specs.List.{flat_map}
use Rattle.insn_codec.specs.Encoding.{i4, offset, case, cases}
use Rattle.insn_codec.specs.Writing.{all_far}
use Rattle.insn_codec.proofs.Putting.{case_ends, case_far, cases_on, cases_far_done, cases_done}
use Rattle.insn_codec.proofs.writing.put_cases.Goals as goal

pub returns-in_err-put_far : goal.returns-in_err-put_far
returns-in_err-put_far c =
    let p = err_from_is_err_and c.from_residual-in_err-put_far.result c.from_residual-in_err-put_far.ensures.1 in
    let starts = c.args.starts.now in
    rw (p.1, p.2) (case_ends c.in_err-put_far.field-0.0 starts c.args.at c.loop-i.i c.args.targets.now (all_far starts c.args.at c.args.targets.now)
    c.loop-i-test.true c.in_err-put_far.ensures c.loop-i.invariant.0)

pub loop-i-preserved : goal.loop-i-preserved
loop-i-preserved c =
    let starts = c.args.starts.now in
    let total = c.args.out.now ++ flat_map (case starts c.args.at) (cases c.args.keys.now c.args.targets.now) in
    let short : c.loop-i.i < length c.args.keys.now = omega (arith, c.requires.same, c.loop-i-test.true) in
    let key : ℤ = get_or c.args.keys.now c.loop-i.i (pos 0) in
    let far : List ℕ = i4 (offset starts c.args.at (get_or c.args.targets.now c.loop-i.i 0)) in
    let fits : FitsSigned w32 key = search rules in
    let put = c.in_ok-put_far.ensures.1 ∙ ap (λ (bytes : List ℕ). bytes ++ far) (c.in_ok-put_i4.ensures ∙ ap (λ (z : ℤ). c.loop-i.out ++ i4 z) (to_z-of_z w32 key fits)) in
    rw put (
      case_far starts c.args.at c.loop-i.i c.args.targets.now (all_far starts c.args.at c.args.targets.now) c.loop-i-test.true c.in_ok-put_far.ensures.0
          c.loop-i.invariant.0,
      cases_on starts c.args.at c.loop-i.i c.args.keys.now c.args.targets.now c.loop-i.out total short c.loop-i-test.true c.loop-i.invariant.1,
    )

pub returns : goal.returns
returns c =
    let starts = c.args.starts.now in
    let total = c.args.out.now ++ flat_map (case starts c.args.at) (cases c.args.keys.now c.args.targets.now) in (
      cases_far_done starts c.args.at c.loop-i.i c.args.targets.now (all_far starts c.args.at c.args.targets.now) c.loop-i-test.false c.loop-i.invariant.0,
      cases_done starts c.args.at c.loop-i.i c.args.keys.now c.args.targets.now c.loop-i.out total c.loop-i-test.false c.loop-i.invariant.1,
    )
