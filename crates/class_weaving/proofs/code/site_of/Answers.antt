use Rattle.std.proofs.Common.{◌∙◌, ap}
use Rattle.std.specs.BTreeMap.{get}
use Rattle.std.specs.Ordering.{nat_cmp}
use Rattle.class_weaving.proofs.Known.{copy_fits, known_more, known_still}
use Rattle.class_weaving.proofs.code.site_of.Goals as goal

pub returns-in_default : goal.returns-in_default
returns-in_default g c = record {
  is = c.block.ensures.is;
  fits = c.block.ensures.fits;
  known = known_still ((g.P.Planner.plan c.args.planner.now).block c.args.base) c.args.sites.now c.args.places.now c.block.result c.requires.known;
}

pub returns-in-Some-clause-fits : goal.returns-in-Some-clause-fits
returns-in-Some-clause-fits g c =
    copy_fits c.args.sites.now c.in-Some.site.now (get nat_cmp c.args.places.now c.in-ApiMethod.method) c.copy_site.result c.requires.fits c.in-Some.ensures c.copy_site.ensures

pub returns-in-Some-clause-known : goal.returns-in-Some-clause-known
returns-in-Some-clause-known g c =
    known_still ((g.P.Planner.plan c.args.planner.now).block c.args.base) c.args.sites.now c.args.places.now c.copy_site.result c.requires.known

pub returns-clause-known : goal.returns-clause-known
returns-clause-known g c =
    let block = (g.P.Planner.plan c.args.planner.now).block c.args.base in
    known_more block c.args.sites.now c.in_ok-site.site c.args.places.now c.note_place.new.places c.in-ApiMethod.method c.requires.known (c.in_ok-site.ensures.is ∙ ap block c.in-ApiMethod.is)
    c.in_ok-note_place.ensures
