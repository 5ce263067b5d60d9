use Rattle.std.proofs.Common.{List, sym, subst, ap, ◌∙◌}
use Rattle.api_listing.specs.declared.types.ListedClass.{ListedClass}
use Rattle.api_listing.specs.Nearest.{class_named}
use Rattle.bytecode_model.specs.Places.{ClassesPlaced}
use Rattle.type_lattice.proofs.hierarchy.Hierarchy.class_named.Goals as goal

pub placed_class-requires : goal.placed_class-requires
placed_class-requires c = subst (ClassesPlaced c.self.inside.places) (sym c.as_slice.ensures) c.self.invariant.placed

pub returns : goal.returns
returns c =
    c.placed_class.ensures ∙ ap (λ (cs : List ListedClass). class_named cs c.args.name.now) (c.as_slice.ensures ∙ c.self.view_is)
