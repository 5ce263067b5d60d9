use Rattle.std.proofs.Common.{◌≡◌, take}
use Rattle.conspec_automaton.specs.Points.{near}
use Rattle.race_free_check.proofs.numbers.near.Given as goal

abbrev pub invariant-loop-number : goal.invariant-loop-number
invariant-loop-number l = l.found.items ≡ near l.fn.low l.fn.high (take l.number-index l.numbers)
