-- The types after a call, told of those before it. (docs/TYPING.md)
use Rattle.std.specs.Prelude.{ℕ, ◌+◌, if◌then◌else◌, List, ◌++◌, length, map}
use Rattle.cert_format.specs.declared.typing.FrameType.{FrameType}
use Rattle.cert_format.specs.declared.typing.VType.{VType}
use Rattle.insn_codec.specs.declared.shape.Heap.TheVariants as heap
use Rattle.insn_codec.specs.declared.shape.How.{How}
use Rattle.insn_codec.specs.declared.shape.Shape.{Shape}
use Rattle.insn_codec.specs.declared.shape.Shape.TheVariants as shapes
use Rattle.insn_codec.specs.Shapes.{shape_of}
use Rattle.bytecode_model.specs.Described.{arguments, result_type}
use Rattle.bytecode_model.specs.Makes.{below, call_yields, topmost, when_called}
use Rattle.bytecode_model.specs.InsnPlace.{InsnPlace, desc_referred, has_receiver}

-- how many operands a call takes: its arguments, and its receiver
abbrev pub arguments_count : InsnPlace → ℕ
arguments_count place = length (arguments (desc_referred place))

abbrev pub count_called : InsnPlace → How → ℕ
count_called place how = if has_receiver how then arguments_count place + 1 else arguments_count place

-- Nothing else is a call.
abbrev pub count_of : InsnPlace → Shape → ℕ
count_of place (shapes.Heap (heap.Call how)) = count_called place how
count_of place other = 0

abbrev pub count_taken : InsnPlace → ℕ
count_taken place = count_of place (shape_of place.insn)

-- the operands that the call takes
abbrev pub call_operands : InsnPlace → List VType → List VType
call_operands place stack = topmost (count_taken place) stack

-- what becomes of types that stay: a constructor makes its receiver
abbrev pub types_after : InsnPlace → List VType → List VType → List VType
types_after place operands stay = map (when_called place operands) stay

-- what it gives
abbrev pub given : InsnPlace → List VType
given place = call_yields (result_type (desc_referred place))

abbrev pub stack_following : InsnPlace → List VType → List VType
stack_following place stack = types_after place (call_operands place stack) (below (count_taken place) stack) ++ given place

abbrev pub frame_after : InsnPlace → FrameType → FrameType
frame_after place frame = record {
  locals = types_after place (call_operands place frame.stack) frame.locals;
  stack = stack_following place frame.stack;
}
