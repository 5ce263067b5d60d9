use Rattle.std.proofs.Common.{sym, ◌∙◌}
use Rattle.offset_patch.proofs.Finding.{adds_first}
use Rattle.offset_patch.proofs.growth.add_first.Goals as goal

pub returns-in_ok-insert : goal.returns-in_ok-insert
returns-in_ok-insert c = adds_first c.args.places.now c.insert.new.self c.args.key c.args.at (sym c.contains_key.ensures ∙ c.if-not-contains_key.true) c.in_ok-insert.ensures.updates.0
