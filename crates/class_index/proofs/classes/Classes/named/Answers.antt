use Rattle.std.proofs.Common.{◌∙◌, ap}
use Rattle.api_listing.specs.Nearest.{class_named}
use Rattle.class_index.proofs.classes.Classes.named.Goals as goal

pub placed_class-requires : goal.placed_class-requires
placed_class-requires c = rw c.as_slice.ensures c.self.invariant.placed

pub returns : goal.returns
returns c =
    c.placed_class.ensures ∙ ap (λ cs. class_named cs c.as_slice-2.result.now) c.as_slice.ensures ∙ ap (class_named c.self.inside.list) c.as_slice-2.ensures
    ∙ ap (λ cs. class_named cs c.args.name.now) c.self.view_is
