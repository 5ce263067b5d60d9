use Rattle.std.proofs.Common.{sym, ◌∙◌}
use Rattle.type_lattice.proofs.Arrays.{array_of_item, neither_first}
use Rattle.type_lattice.proofs.assigning.array_of_fits.Goals as goal

pub returns : goal.returns
returns c =
    c.items_fit.ensures
    ∙ sym (array_of_item c.args.program.now c.args.item.now c.args.to.now ∙ neither_first _ _ _ (sym c.if-eq.ensures) (sym c.if-is_interface.ensures))
