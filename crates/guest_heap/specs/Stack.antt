-- What an operand stack is seen as: its operands, the top first, and how many it holds at most. (docs/MACHINE.md)
use Rattle.std.specs.Prelude.{ℕ, List}
use Rattle.guest_heap.specs.declared.value.Value.{Value}

pub record Operands : Type 0 where
  pub items : List Value
  pub size : ℕ
