use Rattle.std.proofs.Common.{◌≡◌, ◌++◌, replicate}
use Rattle.guest_tables.proofs.encoding.push_brackets.Given as goal

abbrev pub invariant-loop-done : goal.invariant-loop-done
invariant-loop-done l = l.text ≡ l.fn.text ++ replicate l.done 91
