use Rattle.std.proofs.Common.{◌∙◌, ap, ◌||◌}
use Rattle.std.specs.Ordering.{is_eq}
use Rattle.api_listing.specs.BuiltIn.{is_method}
use Rattle.api_listing.specs.Seen.{id_cmp, has_id}
use Rattle.listing_text.proofs.Lists.{cond_or}
use Rattle.api_listing.proofs.Names.{id_cmp-is}
use Rattle.listing_text.proofs.seen.add_id.Goals as goal

pub returns : goal.returns
returns c =
    λ q. c.in_ok-insert.ensures.updates.0 q ∙ cond_or (is_eq (id_cmp c.in_ok-copy.copy q)) (has_id c.args.ids.now q)
    ∙ ap (λ b. b || has_id c.args.ids.now q) (id_cmp-is c.in_ok-copy.copy q ∙ ap (is_method q.class q.name q.desc) c.in_ok-copy.ensures)
