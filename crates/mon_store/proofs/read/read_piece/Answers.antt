use Rattle.std.proofs.Common.{arith}
use Rattle.std.proofs.lemmas.Grind.{common_steps}
use Rattle.mon_store.proofs.Pieces.{Begins-grown}
use Rattle.mon_store.proofs.read.read_piece.Goals as goal

pub returns-clause-front : goal.returns-clause-front
returns-clause-front g c = λ begins.
    Begins-grown (g.S.Store.files c.args.store.now) c.args.name.now c.args.text.now c.read.new.into c.extend.new.self
    c.len-2.result c.in_ok-count.count c.len-2.ensures
    c.in_ok-count.ensures.ok c.in_ok-count.ensures.fits c.in_ok-extend.ensures.ok begins

pub returns-clause-grows : goal.returns-clause-grows
returns-clause-grows g c = grind (arith, common_steps)

pub returns-clause-within : goal.returns-clause-within
returns-clause-within g c = grind (arith, common_steps)
