use Rattle.std.proofs.Common.{◌∙◌}
use Rattle.std.proofs.lemmas.Result.{err_from_is_err_and}
use Rattle.mon_base.specs.Reading.{counted}
use Rattle.mon_base.proofs.Loop.{goes_on, ends, is_done}
use Rattle.insn_codec.specs.declared.fault.CodeFault.TheVariants.{Memory}
use Rattle.insn_codec.specs.Targets.{finds}
use Rattle.insn_codec.proofs.Loop.{counts_on}
use Rattle.insn_codec.proofs.switches.several.Goals as goal

pub returns-in_err-item-clause-reads : goal.returns-in_err-item-clause-reads
returns-in_err-item-clause-reads g c =
    let p = err_from_is_err_and c.from_residual.result c.from_residual.ensures.1 in
    let item = g.T.Item.item_at (finds c.args.targets.now) c.args.at in
    let total = counted item c.args.count c.args.from.now in
    rw (p.1, p.2) (ends Memory item c.in_err-item.field-0.0 c.loop.items.items c.args.count c.loop.counter c.loop.from total
    c.loop-test.true c.in_err-item.ensures.reads c.loop.invariant.0)

pub loop-preserved : goal.loop-preserved
loop-preserved g c =
    let item = g.T.Item.item_at (finds c.args.targets.now) c.args.at in
    let total = counted item c.args.count c.args.from.now in
    rw c.in_ok-push.ensures.items (
      goes_on item c.loop.items.items c.args.count c.loop.counter c.loop.from c.in_ok-item.item c.read.new.from total
          c.loop-test.true c.in_ok-item.ensures.reads c.loop.invariant.0,
      counts_on g.T.Item.len c.loop.items.items c.in_ok-item.item c.args.from.now.at c.loop.from.at c.read.new.from.at
          c.loop.invariant.1 c.in_ok-item.ensures.moves,
      c.in_ok-item.ensures.stays ∙ c.loop.invariant.2,
    )

pub returns-clause-reads : goal.returns-clause-reads
returns-clause-reads g c =
    let item = g.T.Item.item_at (finds c.args.targets.now) c.args.at in
    let total = counted item c.args.count c.args.from.now in
    is_done item c.loop.items.items c.args.count c.loop.counter c.loop.from total c.loop-test.false c.loop.invariant.0
