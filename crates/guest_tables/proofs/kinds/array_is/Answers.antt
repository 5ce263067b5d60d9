use Rattle.std.proofs.Common.{sym, ap, ◌∙◌}
use Rattle.guest_model.specs.Kinds.{class_is}
use Rattle.type_lattice.specs.Components.{answered}
use Rattle.guest_tables.proofs.Components.{array_asked}
use Rattle.guest_tables.proofs.kinds.array_is.Goals as goal

pub returns-in-Same : goal.returns-in-Same
returns-in-Same c =
    let is = class_is c.args.guest.now in
    ap (answered is) (sym c.in-Same.is) ∙ c.arrays_compared.ensures is ∙ sym (array_asked c.args.guest.now c.args.from.now c.args.to.now)

pub returns-in-Apart : goal.returns-in-Apart
returns-in-Apart c =
    let is = class_is c.args.guest.now in
    ap (answered is) (sym c.in-Apart.is) ∙ c.arrays_compared.ensures is ∙ sym (array_asked c.args.guest.now c.args.from.now c.args.to.now)

pub returns-in-Classes : goal.returns-in-Classes
returns-in-Classes c =
    let is = class_is c.args.guest.now in
    c.class_is.ensures ∙ ap (answered is) (sym c.in-Classes.is) ∙ c.arrays_compared.ensures is ∙ sym (array_asked c.args.guest.now c.args.from.now c.args.to.now)
