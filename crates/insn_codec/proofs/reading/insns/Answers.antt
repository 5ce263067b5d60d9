use Rattle.std.proofs.Common.{◌≡◌, [], length, sym, ◌∙◌, refl, arith}
use Rattle.std.proofs.lemmas.Result.{err_from_is_err_and}
use Rattle.mon_base.specs.Reading.{Place}
use Rattle.insn_codec.specs.Targets.{finds}
use Rattle.insn_codec.proofs.Sequence.{goes_on, ends, whole, not_read, done, starts_off, len_on, moved_on, left_over, no_more}
use Rattle.insn_codec.proofs.Standing.{len_none}
use Rattle.insn_codec.proofs.reading.insns.Goals as goal

pub loop-init : goal.loop-init
loop-init c =
    let start : Place = record { at = 0; rest = c.args.code.now } in
    let none : c.new-insns.result.items ≡ [] = c.new-insns.ensures.items in
    rw (none, c.new-from.ensures) (starts_off (finds c.args.targets.now) c.args.code.now start start refl, sym (len_none 0), omega arith, omega arith)

pub returns-in_err-next : goal.returns-in_err-next
returns-in_err-next c =
    let p = err_from_is_err_and c.from_residual.result c.from_residual.ensures.1 in
    let find = finds c.args.targets.now in
    let n = length c.args.code.now in
    let some = left_over c.is_at_end.result c.loop.from.rest c.is_at_end.ensures c.if-is_at_end.false in
    rw (p.1, p.2) (record {
      reads = not_read find c.args.code.now c.in_err-next.field-0.0 (ends find c.in_err-next.field-0.0 c.loop.insns.items n c.loop.counter c.loop.from
          (whole find c.args.code.now) c.loop-test.true some c.in_err-next.ensures.reads c.loop.invariant.0);
      len = tt;
    })

pub loop-preserved : goal.loop-preserved
loop-preserved c =
    let find = finds c.args.targets.now in
    let n = length c.args.code.now in
    let some = left_over c.is_at_end.result c.loop.from.rest c.is_at_end.ensures c.if-is_at_end.false in
    rw c.in_ok-push.ensures.items (
      goes_on find c.loop.insns.items n c.loop.counter c.loop.from c.in_ok-next.next c.insn.new.from (whole find c.args.code.now)
          c.loop-test.true some c.in_ok-next.ensures.reads c.loop.invariant.0,
      len_on c.loop.insns.items c.in_ok-next.next c.loop.from.at c.insn.new.from.at c.loop.invariant.1 c.in_ok-next.ensures.moves,
      c.in_ok-next.ensures.stays ∙ c.loop.invariant.2,
      moved_on c.in_ok-next.next c.loop.counter c.loop.from.at c.insn.new.from.at c.loop.invariant.3 c.in_ok-next.ensures.moves,
    )

pub returns : goal.returns
returns c =
    let none : length c.loop.from.rest ≡ 0 = omega (arith, c.loop.invariant.2, c.loop.invariant.3, c.loop-test.false) in
    record {
      reads = done (finds c.args.targets.now) c.loop.insns.items c.args.code.now c.loop.counter c.loop.from none c.loop.invariant.0;
      len = omega (arith, none, c.loop.invariant.1, c.loop.invariant.2);
    }

pub returns-then-is_at_end : goal.returns-then-is_at_end
returns-then-is_at_end c =
    let none : length c.loop.from.rest ≡ 0 = no_more c.is_at_end.result c.loop.from.rest c.is_at_end.ensures c.if-is_at_end.true in
    record {
      reads = done (finds c.args.targets.now) c.loop.insns.items c.args.code.now c.loop.counter c.loop.from none c.loop.invariant.0;
      len = omega (arith, none, c.loop.invariant.1, c.loop.invariant.2);
    }
