use Rattle.std.proofs.Common.{◌≡◌, ◌++◌, take}
use Rattle.class_weaving.proofs.members.put_others.Given as goal

abbrev pub invariant-loop-attr : goal.invariant-loop-attr
invariant-loop-attr l = l.attrs ≡ l.fn.attrs ++ take l.attr-index l.olds
