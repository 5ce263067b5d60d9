use Rattle.std.proofs.Common.{◌≡◌, ◌+◌, ◌++◌, List, Option, length, map}
use Rattle.std.specs.List.{AllByRecursion}
use Rattle.cert_format.specs.declared.typing.FrameType.{FrameType}
use Rattle.bytecode_model.specs.Sound.{IsSoundClass}
use Rattle.bytecode_model.specs.Rules.{Frames}
use Rattle.bytecode_model.specs.Layout.{layout_of, program_layout}
use Rattle.type_infer.specs.Fits.{FitFrames}
use Rattle.type_infer.specs.Shape.{class_shape}
use Rattle.type_infer.specs.Solving.{ClassesAreSolved}
use Rattle.type_infer.proofs.inferring.program_frames.Given as goal

abbrev pub invariant-loop-left : goal.invariant-loop-left
invariant-loop-left l = record {
  shaped : layout_of l.frames ++ map class_shape l.left ≡ program_layout l.fn.program;
  fits : AllByRecursion (λ (methods : List (List (Option FrameType))). AllByRecursion FitFrames methods) l.frames;
  sound : AllByRecursion IsSoundClass l.left;
  count : l.own + length l.left ≡ length l.fn.program.classes;
  solved : (rest : List (List Frames)) → ClassesAreSolved l.fn.program l.own l.left rest → ClassesAreSolved l.fn.program 0 l.fn.program.classes (l.frames ++ rest);
}

abbrev pub decreases-loop-left : goal.decreases-loop-left
decreases-loop-left l = length l.left
