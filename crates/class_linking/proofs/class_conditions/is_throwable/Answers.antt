use Rattle.std.proofs.Common.{◌∙◌, ap, map}
use Rattle.std.specs.Prelude.{bytes_eq}
use Rattle.std.specs.List.{list_any}
use Rattle.api_listing.proofs.Tables.{list_any-map}
use Rattle.class_linking.proofs.ClassLoop.{throwables_are}
use Rattle.class_linking.proofs.class_conditions.is_throwable.Goals as goal

pub returns : goal.returns
returns c =
    let name = c.args.name.now in
    c.is_among.ensures ∙ list_any-map (λ t. bytes_eq t name) (λ t. t.now) c.as_slice.result.now
    ∙ ap (list_any (λ t. bytes_eq t name)) (ap (map (λ t. t.now)) c.as_slice.ensures ∙ throwables_are)
