use Rattle.std.proofs.Common.{◌≡◌, ◌++◌, map}
use Rattle.cert_format.proofs.pairs.push_all.Given as goal

abbrev pub invariant-loop-pair : goal.invariant-loop-pair
invariant-loop-pair g l =
    (l.firsts ≡ l.fn.firsts ++ map (λ pair. pair.0) l.yielded) × (l.seconds ≡ l.fn.seconds ++ map (λ pair. pair.1) l.yielded)
