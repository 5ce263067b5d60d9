use Rattle.std.proofs.Common.{◌∙◌, ap}
use Rattle.api_listing.specs.declared.types.Listing.{Listing}
use Rattle.api_listing.specs.Nearest.{class_named}
use Rattle.class_text.proofs.library.Library.class_named.Goals as goal

pub placed_class-requires : goal.placed_class-requires
placed_class-requires c = rw c.as_slice.ensures c.self.invariant.classes_placed

pub returns : goal.returns
returns c =
    c.placed_class.ensures ∙ ap (λ cs. class_named cs c.as_slice-2.result.now) c.as_slice.ensures ∙ ap (class_named c.self.inside.listing.now.classes) c.as_slice-2.ensures
    ∙ ap (λ (l : Listing). class_named l.classes c.args.name.now) c.self.view_is
