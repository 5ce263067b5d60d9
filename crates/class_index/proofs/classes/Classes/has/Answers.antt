use Rattle.std.proofs.Common.{◌∙◌, ap}
use Rattle.std.specs.Prelude.{bytes_eq}
use Rattle.std.specs.Option.{is_some}
use Rattle.api_listing.specs.declared.types.ListedClass.{ListedClass}
use Rattle.api_listing.specs.Listing.{is_known}
use Rattle.bytecode_model.specs.ByName.{noted}
use Rattle.bytecode_model.proofs.Placing.{has_place}
use Rattle.class_index.proofs.classes.Classes.has.Goals as goal

pub returns : goal.returns
returns c =
    c.contains_key.ensures ∙ ap (λ n. is_some (noted c.self.inside.places n)) c.as_slice.ensures ∙ ap is_some (c.self.invariant.placed c.args.name.now) ∙ has_place (λ (x : ListedClass). bytes_eq x.name c.args.name.now) 0 c.self.inside.list
    ∙ ap (λ cs. is_known cs c.args.name.now) c.self.view_is
