use Rattle.std.proofs.Common.{◌≡◌, ◌++◌, map, take}
use Rattle.bytecode_model.specs.Rules.{when_thrown}
use Rattle.woven_typing.proofs.roles.put_thrown.Given as goal

abbrev pub invariant-loop-t : goal.invariant-loop-t
invariant-loop-t l = l.out ≡ l.fn.out ++ map when_thrown (take l.t-index l.locals)
