use Rattle.std.proofs.Common.{◌≡◌, ◌∙◌, IfOk, ap, subst}
use Rattle.std.specs.BTreeMap.{get}
use Rattle.api_listing.specs.Seen.{id_cmp}
use Rattle.class_index.proofs.members.found_at.Goals as goal

pub returns : goal.returns
returns c =
    let there = c.get.ensures.value ∙ ap (get id_cmp c.args.declared.now) c.in_ok-id.ensures in
    subst (λ o. IfOk c.copy_of.result (λ found. found ≡ o)) there c.copy_of.ensures
