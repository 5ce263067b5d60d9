use Rattle.std.proofs.Common.{◌∙◌, ap, sym}
use Rattle.bytecode_model.specs.Conditions.{overrides_in}
use Rattle.class_index.specs.Index.{Given}
use Rattle.class_index.proofs.Owning.{owners_suffice}
use Rattle.class_index.proofs.index.Index.library_among.Goals as goal

pub returns : goal.returns
returns c id =
    let given = c.self.inside in
    let names = c.args.classes.now in
    ap (λ (g : Given). overrides_in g.listing id c.in_ok-some.some) (sym c.self.view_is) ∙ ap (overrides_in given.listing.now id) c.in_ok-some.ensures
    ∙ owners_suffice given.library.owners given.listing.now names c.self.invariant.owned id
    ∙ ap (λ (g : Given). overrides_in g.listing id names) c.self.view_is
