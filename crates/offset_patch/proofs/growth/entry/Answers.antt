use Rattle.std.proofs.Common.{sym, ◌∙◌}
use Rattle.offset_patch.proofs.Finding.{found_below, found_there, found_number, named_more, number_fits}
use Rattle.offset_patch.proofs.growth.entry.Goals as goal

pub returns-in-Some-clause-is : goal.returns-in-Some-clause-is
returns-in-Some-clause-is c = found_there c.args.pool.now c.args.growth.now c.args.wanted c.in-Some.at c.requires.good (sym c.in-Some.is ∙ c.place.ensures)

pub returns-in-Some-clause-below : goal.returns-in-Some-clause-below
returns-in-Some-clause-below c = found_below c.args.pool.now c.args.growth.now c.args.wanted c.in-Some.at c.requires.good (sym c.in-Some.is ∙ c.place.ensures)

pub returns-in_ok-index-in-None-clause-is : goal.returns-in_ok-index-in-None-clause-is
returns-in_ok-index-in-None-clause-is c =
    let none = sym (c.requires.good.placed c.args.wanted) ∙ sym c.place.ensures ∙ c.in-None.is in
    found_number c.args.pool.now c.args.growth.now.added.keys c.number.new.added.keys c.args.wanted c.in_ok-index-in-None.ensures.keys c.in_ok-index-in-None.index none
    c.in_ok-index-in-None.ensures.is

pub returns-in_ok-index-in-None-clause-good : goal.returns-in_ok-index-in-None-clause-good
returns-in_ok-index-in-None-clause-good c =
    record {
      placed = c.requires.good.placed;
      named = named_more c.args.pool.now c.args.growth.now.added.keys c.number.new.added.keys c.args.wanted c.in_ok-index-in-None.ensures.keys c.requires.good.named c.requires.names;
    }

pub returns-in_ok-index-in-None-clause-below : goal.returns-in_ok-index-in-None-clause-below
returns-in_ok-index-in-None-clause-below c =
    number_fits c.args.pool.now c.args.growth.now.added.keys c.number.new.added.keys c.args.wanted c.in_ok-index-in-None.ensures.keys c.in_ok-index-in-None.index
    c.in_ok-index-in-None.ensures.is
