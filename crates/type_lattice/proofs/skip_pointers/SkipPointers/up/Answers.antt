use Rattle.std.proofs.Common.{sym, ◌∙◌}
use Rattle.type_lattice.proofs.Ascending.{led, stays_in}
use Rattle.type_lattice.proofs.skip_pointers.SkipPointers.up.Goals as goal

pub loop-left-preserved : goal.loop-left-preserved
loop-left-preserved c =
    let parents = c.step.ensures.parents in
    let leads = c.in-Some.ensures.leads in
    record {
      goes_on = sym (led c.args.self.now parents c.loop-left.at c.loop-left.left c.in-Some.above c.in-Some.gone leads) ∙ c.loop-left.invariant.goes_on;
      within = stays_in c.args.self.now parents c.in-Some.gone c.loop-left.at c.in-Some.above c.loop-left.invariant.within leads.there;
    }
