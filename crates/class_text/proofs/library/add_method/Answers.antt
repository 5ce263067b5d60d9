use Rattle.std.proofs.Common.{◌∙◌, sym, ap, cond, Some}
use Rattle.std.specs.Ordering.{is_eq}
use Rattle.api_listing.specs.Seen.{id_cmp}
use Rattle.class_text.specs.Library.{method_in}
use Rattle.class_text.proofs.Placing.{adds_method}
use Rattle.class_text.proofs.library.add_method.Goals as goal

pub returns-in_ok-insert : goal.returns-in_ok-insert
returns-in_ok-insert c =
    adds_method c.args.places.now c.insert.new.self c.args.id.now c.args.place (sym c.contains_key.ensures ∙ c.if-not-contains_key.true)
    (λ q. c.in_ok-insert.ensures.updates.0 q ∙ ap (λ n. cond (is_eq (id_cmp n q)) (Some c.args.place) (method_in c.args.places.now q)) c.in_ok-id.ensures)
