use Rattle.std.proofs.Common.{arith}
use Rattle.mon_store.proofs.Answering.{HasFile-no_longer, Answers-after_size}
use Rattle.mon_store.proofs.read.read_file.Goals as goal

pub returns-clause-too_long : goal.returns-clause-too_long
returns-clause-too_long g c = λ len is.
    let long = c.read_to_end.ensures.too_long len is in
    let one_more = long.0 in
    let size = c.in_ok-size.ensures in
    (omega arith, HasFile-no_longer _ _ _ _ _ len size.files size.ok c.if-size-limit.false long.0 long.1)

pub returns-clause-exact : goal.returns-clause-exact
returns-clause-exact g c =
    let size = c.in_ok-size.ensures in
    let rest = c.read_to_end.ensures in
    Answers-after_size
    (g.S.Store.files c.args.store.now) (g.S.Store.files c.size.new.self)
    c.args.name.now c.in_ok-size.size c.args.limit c.read_to_end.result
    (g.S.Store.faults c.args.store.now) (g.S.Store.faults c.size.new.self) (g.S.Store.faults c.read_to_end.new.store)
    (g.S.Store.last c.read_to_end.new.store)
    size.files size.faults size.ok c.if-size-limit.false
    rest.ok rest.within rest.asked.failed rest.asked.absent rest.too_long
