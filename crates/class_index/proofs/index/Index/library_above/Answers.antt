use Rattle.std.proofs.Common.{◌∙◌, ap, sym}
use Rattle.bytecode_model.specs.Conditions.{overrides_in}
use Rattle.bytecode_model.specs.Heads.{all_classes}
use Rattle.class_index.specs.Index.{Given}
use Rattle.bytecode_model.specs.SearchOrder.{search_order}
use Rattle.class_index.proofs.Owning.{owners_suffice}
use Rattle.class_index.proofs.index.Index.library_above.Goals as goal

pub returns : goal.returns
returns c id =
    let given = c.self.inside in
    let name = c.args.name.now in
    let above = c.in_ok-above.above in
    let names = search_order given.classes.now name in
    ap (λ (g : Given). overrides_in g.listing id above) (sym c.self.view_is) ∙ ap (overrides_in given.listing.now id) c.in_ok-above.ensures
    ∙ owners_suffice given.library.owners given.listing.now names c.self.invariant.owned id
    ∙ ap (λ cs. overrides_in given.listing.now id (search_order cs name)) c.self.invariant.all
    ∙ ap (λ (g : Given). overrides_in g.listing id (search_order (all_classes g.listing g.files) name)) c.self.view_is
