-- What fits on an operand stack. (docs/MACHINE.md)
use Rattle.std.specs.Prelude.{nat_lt, if◌then◌else◌, List, length, Option, Some, None, option_and_then, option_map}
use Rattle.insn_codec.specs.Effect.{Moved}
use Rattle.guest_heap.specs.declared.value.Value.{Value}
use Rattle.guest_heap.specs.Stack.{Operands}

-- locals and a stack
abbrev pub Held : Type 0
Held = List Value × Operands

-- the stack with these operands, where they are at most its size
abbrev pub with_items : Operands → List Value → Option Operands
with_items stack items = if nat_lt stack.size (length items) then None else Some (record { items = items; size = stack.size })

-- the same of operands that there may be
abbrev pub left_on : Operands → Option (List Value) → Option Operands
left_on stack items = option_and_then (with_items stack) items

-- the same of what an effect leaves
abbrev pub held : Operands → Moved Value → Option Held
held stack moved = option_map (λ (left : Operands). (moved.0, left)) (with_items stack moved.1)

abbrev pub held_by : Operands → Option (Moved Value) → Option Held
held_by stack moved = option_and_then (held stack) moved
