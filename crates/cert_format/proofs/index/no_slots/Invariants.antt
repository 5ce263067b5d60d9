use Rattle.std.proofs.Common.{List as Items}
use Rattle.cert_format.specs.Names.{Name}
use Rattle.cert_format.specs.Index.{ArePlaced}
use Rattle.cert_format.proofs.index.no_slots.Given as goal

abbrev pub invariant-loop : goal.invariant-loop
invariant-loop l = (names : Items Name) → ArePlaced names l.slots
