use Rattle.std.proofs.Common.{◌≡◌, ◌++◌, take}
use Rattle.woven_typing.specs.Following.{types_after}
use Rattle.woven_typing.proofs.following.put_after.Given as goal

abbrev pub invariant-loop-t : goal.invariant-loop-t
invariant-loop-t l = l.out ≡ l.fn.out ++ types_after l.fn.place l.taken (take l.t-index l.stay)
