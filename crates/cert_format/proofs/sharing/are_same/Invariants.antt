use Rattle.std.proofs.Common.{◌≡◌, length}
use Rattle.cert_format.proofs.sharing.are_same.Given as goal

abbrev pub invariant-loop-a : goal.invariant-loop-a
invariant-loop-a l = l.a ≡ l.b → l.fn.a ≡ l.fn.b

abbrev pub decreases-loop-a : goal.decreases-loop-a
decreases-loop-a l = length l.a
