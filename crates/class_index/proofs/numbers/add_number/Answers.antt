use Rattle.std.proofs.Common.{◌≡◌, ◌∙◌, ◌+◌, ap, sym}
use Rattle.std.specs.Prelude.{is_some, if◌then◌else◌}
use Rattle.std.specs.BTreeMap.{btree_map_len}
use Rattle.class_index.proofs.Numbering.{with_number}
use Rattle.class_index.proofs.numbers.add_number.Goals as goal

pub returns : goal.returns
returns c =
    let old = c.args.numbers.now in
    let new = c.insert.new.self in
    let absent = sym c.contains_key.ensures ∙ c.if-contains_key.false in
    let more : btree_map_len new ≡ btree_map_len old + 1 =
    c.in_ok-insert.ensures.len ∙ ap (λ b. btree_map_len old + (if b then 0 else 1)) (ap is_some c.in_ok-insert.ensures.old ∙ absent) in
    with_number old new _ c.len-number.result c.requires c.len-number.ensures.len c.in_ok-insert.ensures.updates.0 more
