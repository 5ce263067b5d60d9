use Rattle.std.proofs.Common.{◌∙◌, sym, ap}
use Rattle.std.specs.Prelude.{bytes_eq, option_and_then}
use Rattle.std.specs.List.{slice_get}
use Rattle.api_listing.specs.declared.types.ListedClass.{ListedClass}
use Rattle.mon_base.proofs.Lists.{got}
use Rattle.bytecode_model.proofs.Placing.{find_at}
use Rattle.bytecode_model.proofs.places.placed_class.Goals as goal

pub returns-in-None : goal.returns-in-None
returns-in-None c =
    ap (option_and_then (slice_get c.args.classes.now)) (c.in-None.ensures ∙ c.requires c.args.name.now) ∙ sym (find_at (λ (x : ListedClass). bytes_eq x.name c.args.name.now) c.args.classes.now)

pub returns-in-Some : goal.returns-in-Some
returns-in-Some c =
    let h = c.get.ensures.lookup in
    got c.get.result c.args.classes.now c.in-Some.place h.3 h.1
    ∙ ap (option_and_then (slice_get c.args.classes.now)) (c.in-Some.ensures ∙ c.requires c.args.name.now) ∙ sym (find_at (λ (x : ListedClass). bytes_eq x.name c.args.name.now) c.args.classes.now)
