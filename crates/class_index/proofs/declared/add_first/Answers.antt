use Rattle.std.proofs.Common.{◌∙◌, sym}
use Rattle.class_index.proofs.Declaring.{adds}
use Rattle.class_index.proofs.declared.add_first.Goals as goal

pub returns : goal.returns
returns c = adds c.args.found.now c.insert.new.self c.args.id c.args.first (sym c.contains_key.ensures ∙ c.if-contains_key.false) c.in_ok-insert.ensures.updates.0
