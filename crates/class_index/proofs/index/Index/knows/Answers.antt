use Rattle.std.proofs.Common.{◌∙◌, ap}
use Rattle.api_listing.specs.Listing.{is_known}
use Rattle.class_index.specs.Index.{Given}
use Rattle.bytecode_model.specs.Operands.{known_in}
use Rattle.class_index.proofs.index.Index.knows.Goals as goal

pub returns : goal.returns
returns c = c.has.ensures ∙ ap (λ cs. is_known cs c.args.name.now) c.self.invariant.all ∙ ap (λ (g : Given). known_in g.files g.listing c.args.name.now) c.self.view_is
