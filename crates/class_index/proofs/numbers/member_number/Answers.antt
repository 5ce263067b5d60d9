use Rattle.std.proofs.Common.{◌∙◌, ap}
use Rattle.std.specs.BTreeMap.{get}
use Rattle.api_listing.specs.Seen.{id_cmp}
use Rattle.class_index.proofs.numbers.member_number.Goals as goal

pub returns-in-Some : goal.returns-in-Some
returns-in-Some c = c.in-Some.ensures.value ∙ ap (get id_cmp c.args.numbers.now) c.in_ok-key.ensures

pub returns : goal.returns
returns c = c.in-None.ensures.value ∙ ap (get id_cmp c.args.numbers.now) c.in_ok-key.ensures
