use Rattle.std.proofs.Common.{◌∙◌, ap}
use Rattle.class_index.specs.Index.{Given, found_in}
use Rattle.bytecode_model.specs.Members.{field_of, fields_declared, first_found, first_of}
use Rattle.bytecode_model.specs.SearchOrder.{field_order}
use Rattle.class_index.proofs.Declaring.{first_found_same}
use Rattle.class_index.proofs.index.Index.field_of.Goals as goal

pub returns : goal.returns
returns c =
    let given = c.self.inside in
    let look = first_of (fields_declared given.files.now given.listing.now) in
    c.in_ok-found.ensures ∙ first_found_same (found_in given.members.fields) look c.args.id.now _ c.self.invariant.fields_found
    ∙ ap (λ cs. first_found look c.args.id.now (field_order cs c.args.id.now.class)) c.self.invariant.all
    ∙ ap (λ (g : Given). field_of g.files g.listing c.args.id.now) c.self.view_is
