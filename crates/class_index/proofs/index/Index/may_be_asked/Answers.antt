use Rattle.std.proofs.Common.{◌∙◌, Bool, ap, subst, sym}
use Rattle.std.specs.List.{list_any}
use Rattle.class_index.specs.Asking.{IsUnasked}
use Rattle.class_index.specs.Index.{Given}
use Rattle.class_index.proofs.Unasked.{is_unasked}
use Rattle.class_index.proofs.index.Index.may_be_asked.Goals as goal

pub returns-in-Some : goal.returns-in-Some
returns-in-Some c =
    λ none.
    let given = c.self.inside in
    let class = c.args.class.now in
    let flags = c.in-Some.flags.now in
    subst (λ (g : Given). IsUnasked g.files g.listing class) c.self.view_is
    (is_unasked given.files.now given.listing.now class flags (c.self.invariant.asks class flags (sym c.in-Some.ensures.value))
    (ap (list_any (λ (b : Bool). b)) (sym c.as_slice.ensures) ∙ sym c.any_set.ensures ∙ none))
