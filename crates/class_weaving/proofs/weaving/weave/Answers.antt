use Rattle.class_weaving.proofs.Sizing.{fits_if, unfit_if}
use Rattle.class_weaving.proofs.Encodes.{encodes_if}
use Rattle.class_weaving.proofs.weaving.weave.Goals as goal

pub returns-clause-fits : goal.returns-clause-fits
returns-clause-fits g c =
    fits_if c.args.program.now (g.P.Planner.plan c.args.planner.now) c.args.vars.now c.all_woven.result c.requires.sound c.requires.good c.all_woven.ensures

pub returns-clause-unfit : goal.returns-clause-unfit
returns-clause-unfit g c =
    unfit_if c.args.program.now (g.P.Planner.plan c.args.planner.now) c.args.vars.now c.all_woven.result c.requires.sound c.requires.good c.all_woven.ensures

pub returns-clause-encodes : goal.returns-clause-encodes
returns-clause-encodes g c =
    encodes_if c.args.program.now (g.P.Planner.plan c.args.planner.now) c.args.vars.now c.all_woven.result c.requires.sound c.requires.good c.requires.few c.all_woven.ensures
