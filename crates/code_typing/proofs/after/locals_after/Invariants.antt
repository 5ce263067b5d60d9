use Rattle.std.proofs.Common.{◌≡◌, ℕ, ◌<◌, length}
use Rattle.code_typing.specs.Changing.{local_told}
use Rattle.bytecode_model.specs.Makes.{type_at}
use Rattle.code_typing.proofs.after.locals_after.Given as goal

abbrev pub invariant-loop-j : goal.invariant-loop-j
invariant-loop-j l =
    (length l.locals ≡ l.j) × ((k : ℕ) → k < l.j → type_at l.locals k ≡ local_told l.shape l.change l.found l.taken k)
