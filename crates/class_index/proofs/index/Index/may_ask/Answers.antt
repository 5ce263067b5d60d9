use Rattle.std.proofs.Common.{◌∙◌, ap, subst, sym}
use Rattle.bytecode_model.specs.ByName.{noted}
use Rattle.class_index.specs.Asking.{AsksNothing, is_set_at}
use Rattle.class_index.specs.Index.{Given}
use Rattle.class_index.proofs.Unasked.{asks_nothing}
use Rattle.class_index.proofs.index.Index.may_ask.Goals as goal

pub returns-in-Some : goal.returns-in-Some
returns-in-Some c =
    λ none.
    let given = c.self.inside in
    let files = given.files.now in
    let name = c.args.interface.now in
    let class = c.args.class.now in
    let flags = c.in-Some.flags.now in
    let place = c.noted.ensures ∙ ap (noted given.given.places) c.as_slice-in-Some.ensures ∙ c.self.invariant.placed name in
    subst (λ (g : Given). AsksNothing g.files g.listing name class) c.self.view_is
    (asks_nothing files given.listing.now class name flags (c.self.invariant.asks class flags (sym c.in-Some.ensures.value))
    (ap (is_set_at flags) (sym place) ∙ ap (λ fs. is_set_at fs c.noted.result) (sym c.as_slice.ensures) ∙ sym c.is_set_at.ensures ∙ none))
