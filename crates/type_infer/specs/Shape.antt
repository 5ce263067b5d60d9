-- How many instructions each method of a class with code has. (docs/TYPING.md)
use Rattle.std.specs.Prelude.{ℕ, List, length, map}
use Rattle.bytecode_model.specs.declared.program.LinkedClass.{LinkedClass}
use Rattle.bytecode_model.specs.declared.program.Method.{Method}
use Rattle.bytecode_model.specs.Layout.{coded}

abbrev pub class_shape : LinkedClass → List ℕ
class_shape class = map (λ (method : Method). length method.insns) (coded class.methods)
