use Rattle.std.proofs.Common.{◌≡◌, ◌+◌, ◌-◌, ◌≤◌, length, take}
use Rattle.bytecode_model.specs.Layout.{coded}
use Rattle.code_typing.proofs.typing.count_coded.Given as goal

abbrev pub invariant-loop : goal.invariant-loop
invariant-loop l =
    (l.count + length (coded (take (l.n - l.counter) l.left)) ≡ length (coded (take l.n l.fn.methods))) × (l.count ≤ l.counter)
