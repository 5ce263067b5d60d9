use Rattle.std.proofs.Common.{◌∙◌, sym}
use Rattle.class_index.proofs.Numbering.{own_more, own_same}
use Rattle.class_index.proofs.numbers.add_declared.Goals as goal

pub returns-in_ok-add_own : goal.returns-in_ok-add_own
returns-in_ok-add_own c =
    own_more c.args.numbers.now c.requires c.args.own.now c.add_own.new.own c.args.id.now c.in-Some.number (sym c.in_ok-number.ensures ∙ c.in-Some.is) c.in_ok-add_own.ensures

pub returns-in_default : goal.returns-in_default
returns-in_default c = own_same c.args.numbers.now c.requires c.args.own.now c.args.id.now (sym c.in_ok-number.ensures ∙ c.in_default.is)
