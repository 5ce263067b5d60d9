use Rattle.std.proofs.Common.{◌≡◌, ◌-◌}
use Rattle.cert_format.specs.Index.{HasNames}
use Rattle.cert_format.specs.Reading.{more_names_at}
use Rattle.cert_format.proofs.names.fill.Given as goal

abbrev pub invariant-loop : goal.invariant-loop
invariant-loop l = record {
  read : more_names_at (l.count - l.counter) l.names l.from ≡ more_names_at l.count l.fn.names l.fn.from;
  seen : HasNames l.names l.seen;
}
