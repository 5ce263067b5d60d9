use Rattle.cert_format.proofs.Places.{has_next}
use Rattle.cert_format.proofs.names.next_name.Goals as goal

pub returns-clause-seen : goal.returns-clause-seen
returns-clause-seen c = λ before has. has_next before c.args.seen.now c.insert.new.self c.in_ok-name.name.now has c.in_ok-insert.ensures.updates.0
