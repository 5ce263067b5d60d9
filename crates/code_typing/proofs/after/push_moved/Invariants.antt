use Rattle.std.proofs.Common.{◌≡◌, ◌++◌, map, take}
use Rattle.bytecode_model.specs.Makes.{moved_from}
use Rattle.code_typing.proofs.after.push_moved.Given as goal

abbrev pub invariant-loop-place : goal.invariant-loop-place
invariant-loop-place l = l.out ≡ l.fn.out ++ map (moved_from l.depth l.fn.taken) (take l.place-index l.order)
