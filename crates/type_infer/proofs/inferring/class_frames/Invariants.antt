use Rattle.std.proofs.Common.{◌≡◌, ◌++◌, List, length, map}
use Rattle.std.specs.List.{AllByRecursion}
use Rattle.bytecode_model.specs.declared.program.Method.{Method}
use Rattle.bytecode_model.specs.Sound.{IsSoundMethod}
use Rattle.bytecode_model.specs.Rules.{Frames}
use Rattle.bytecode_model.specs.Layout.{coded}
use Rattle.type_infer.specs.Fits.{FitFrames}
use Rattle.type_infer.specs.Shape.{class_shape}
use Rattle.type_infer.specs.Solving.{MethodsAreSolved}
use Rattle.type_infer.proofs.inferring.class_frames.Given as goal

abbrev pub invariant-loop-left : goal.invariant-loop-left
invariant-loop-left l = record {
  shaped : map length l.told ++ map (λ (method : Method). length method.insns) (coded l.left) ≡ class_shape l.fn.class;
  fits : AllByRecursion FitFrames l.told;
  sound : AllByRecursion IsSoundMethod l.left;
  solved : (rest : List Frames) → MethodsAreSolved l.fn.program l.own l.fn.class l.left rest → MethodsAreSolved l.fn.program l.own l.fn.class l.fn.class.methods (l.told ++ rest);
}

abbrev pub decreases-loop-left : goal.decreases-loop-left
decreases-loop-left l = length l.left
