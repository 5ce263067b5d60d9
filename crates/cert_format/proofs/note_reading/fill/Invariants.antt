use Rattle.std.proofs.Common.{◌≡◌, ◌-◌}
use Rattle.mon_base.specs.Reading.{counted}
use Rattle.mon_base.proofs.Loop.{with_front}
use Rattle.cert_format.specs.Reading.{term_at}
use Rattle.cert_format.proofs.note_reading.fill.Given as goal

abbrev pub invariant-loop : goal.invariant-loop
invariant-loop l = with_front l.terms (counted term_at (l.count - l.counter) l.from) ≡ counted term_at l.count l.fn.from
