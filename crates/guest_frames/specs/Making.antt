-- Numbers that are made of operands, and of a local. (docs/MACHINE.md)
use Rattle.std.specs.Prelude.{ℕ, ℤ, List, ◌∷◌, drop, Option, option_and_then, option_map}
use Rattle.insn_codec.specs.declared.shape.ValueKind.TheVariants as kinds
use Rattle.insn_codec.specs.declared.shape.One.{One}
use Rattle.insn_codec.specs.declared.shape.Two.{Two}
use Rattle.insn_codec.specs.declared.shape.Two.TheVariants as twos
use Rattle.insn_codec.specs.Effect.{local, operand, with_local}
use Rattle.guest_heap.specs.declared.value.Value.{Value}
use Rattle.guest_frames.specs.Values.{values_moved}

-- the operands with one number made of the two topmost, or of the top one
abbrev pub made_of_tops : Two → List Value → Option (List Value)
made_of_tops op items =
    option_and_then (λ (y : Value). option_map (λ (x : Value). values_moved.two op x y ∷ drop 2 items) (operand values_moved kinds.Int 1 items))
    (operand values_moved kinds.Int 0 items)

abbrev pub made_of_top : One → List Value → Option (List Value)
made_of_top op items = option_map (λ (x : Value). values_moved.one op x ∷ drop 1 items) (operand values_moved kinds.Int 0 items)

-- the locals with a number added to one of them
abbrev pub incremented : ℕ → ℤ → List Value → Option (List Value)
incremented slot by locals =
    option_and_then (λ (x : Value). with_local slot (values_moved.two twos.Add x (values_moved.int by)) locals) (local values_moved kinds.Int slot locals)
