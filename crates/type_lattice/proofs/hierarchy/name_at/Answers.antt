use Rattle.std.proofs.Common.{Option, Some, sym, ap, ◌∙◌}
use denote.Ref.{Bor}
use Rattle.std.specs.Prelude.{option_copied, option_map}
use Rattle.api_listing.specs.declared.types.ListedClass.{ListedClass}
use Rattle.mon_base.proofs.Lists.{got}
use Rattle.type_lattice.proofs.hierarchy.name_at.Goals as goal

pub returns-in-Some : goal.returns-in-Some
returns-in-Some c =
    ap Some c.as_slice.ensures
    ∙ ap (λ (o : Option (Bor ListedClass)). option_map (λ (x : ListedClass). x.name) (option_copied o)) (sym c.in-Some.is)
    ∙ ap (option_map (λ (x : ListedClass). x.name)) (got c.get.result c.args.classes.now c.args.place c.get.ensures.lookup.3 c.get.ensures.lookup.1)

pub returns-in-None : goal.returns-in-None
returns-in-None c =
    ap (λ (o : Option (Bor ListedClass)). option_map (λ (x : ListedClass). x.name) (option_copied o)) (sym c.in-None.is)
    ∙ ap (option_map (λ (x : ListedClass). x.name)) (got c.get.result c.args.classes.now c.args.place c.get.ensures.lookup.3 c.get.ensures.lookup.1)
