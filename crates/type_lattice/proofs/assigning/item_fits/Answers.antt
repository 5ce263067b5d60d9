use Rattle.std.proofs.Common.{List, ℕ, Option, false, sym, ap, ◌∙◌}
use Rattle.std.specs.Option.{option_map_or}
use Rattle.bytecode_model.specs.Assigning.{class_fits}
use Rattle.type_lattice.proofs.Arrays.{item_class}
use Rattle.type_lattice.proofs.assigning.item_fits.Goals as goal

pub returns-in-None : goal.returns-in-None
returns-in-None c =
    let program = c.args.program.now in
    let item = c.args.item.now in
    ap (λ (o : Option (List ℕ)). option_map_or (λ above. class_fits program item above) o false) c.in-None.ensures
    ∙ sym (item_class program item c.args.to.now (sym c.if-is_array.ensures))

pub returns-in-Some : goal.returns-in-Some
returns-in-Some c =
    let program = c.args.program.now in
    let item = c.args.item.now in
    c.class_fits.ensures ∙ ap (λ (o : Option (List ℕ)). option_map_or (λ above. class_fits program item above) o false) c.in-Some.ensures
    ∙ sym (item_class program item c.args.to.now (sym c.if-is_array.ensures))
