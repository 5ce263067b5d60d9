use Rattle.std.proofs.Common.{◌∙◌, sym}
use Rattle.event_record.proofs.Naming.{adds_name}
use Rattle.event_record.proofs.names.add_first.Goals as goal

pub returns-in_ok-insert : goal.returns-in_ok-insert
returns-in_ok-insert c =
    adds_name c.args.places.now c.insert.new.self c.name_of-name.result c.args.id.now c.args.index c.name_of-name.ensures (sym c.contains_key.ensures ∙ c.if-not-contains_key.true) c.in_ok-insert.ensures.updates.0
