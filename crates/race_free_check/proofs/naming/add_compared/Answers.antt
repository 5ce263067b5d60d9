use Rattle.conspec_automaton.specs.Points.{compared_with}
use Rattle.race_free_check.proofs.Grown.{kept_more}
use Rattle.race_free_check.proofs.naming.add_compared.Goals as goal

pub loop-atom-preserved : goal.loop-atom-preserved
loop-atom-preserved c = record {
  adds = kept_more (compared_with c.args.base) c.args.atoms.now c.loop-atom.atom-index _ c.args.numbers.now.items c.loop-atom.numbers.items c.add_some.new.numbers.items c.compared_with-number.result c.loop-atom-test.true c.loop-atom.invariant.adds c.in_ok-add_some.ensures.adds c.compared_with-number.ensures;
  small = c.in_ok-add_some.ensures.small;
}
