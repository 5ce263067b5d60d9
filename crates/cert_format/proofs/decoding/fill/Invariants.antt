use Rattle.std.proofs.Common.{◌≡◌, ◌-◌, []}
use Rattle.cert_format.specs.Reading.{instruction_at, several_at}
use Rattle.cert_format.proofs.Loops.{with_fronts}
use Rattle.cert_format.proofs.decoding.fill.Given as goal

abbrev pub invariant-loop : goal.invariant-loop
invariant-loop l =
    with_fronts l.frames l.notes (several_at (instruction_at l.table.vars l.table.names.now) (l.count - l.counter) l.used l.from)
    ≡ with_fronts [] [] (several_at (instruction_at l.table.vars l.table.names.now) l.count l.fn.used l.fn.from)
