use Rattle.std.proofs.Common.{◌∙◌, ap}
use Rattle.api_listing.specs.declared.types.ListedClass.{ListedClass}
use Rattle.bytecode_model.specs.Places.{class_place}
use Rattle.bytecode_model.proofs.CopiedItems.{one_more_mapped}
use Rattle.type_lattice.proofs.hierarchy.parent_places.Goals as goal

pub loop-class-preserved : goal.loop-class-preserved
loop-class-preserved c =
    let classes = c.args.classes.now in
    let placed = λ (class : ListedClass). class_place classes class.parent in
    one_more_mapped placed classes c.loop-class.parents.items c.push.new.self.items c.loop-class.class-index c.class-item.result c.noted.result
    c.loop-class-test.true c.loop-class.invariant (c.noted.ensures ∙ c.requires _ ∙ ap (class_place classes) c.as_slice.ensures ∙ ap placed c.class-item.is) c.in_ok-push.ensures.items
