use Rattle.std.proofs.Common.{◌≡◌, ◌++◌, take}
use Rattle.cert_format.proofs.sharing.put_types.Given as goal

abbrev pub invariant-loop-t : goal.invariant-loop-t
invariant-loop-t l = l.out ≡ l.fn.out ++ take l.t-index l.types
