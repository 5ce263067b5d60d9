-- Objects that are made: by a `new`, wherever it stands.
use Rattle.std.proofs.Common.{◌≡◌, ℕ, List, [], refl}
use Rattle.class_codec.specs.declared.tree.Const.{Const}
use Rattle.insn_codec.specs.declared.insn.Insn.{Insn}
use Rattle.insn_codec.specs.declared.shape.Heap.TheVariants as heap
use Rattle.insn_codec.specs.declared.shape.Shape.{Shape}
use Rattle.insn_codec.specs.declared.shape.Shape.TheVariants as shapes
use Rattle.bytecode_model.specs.declared.program.Target.{Target}
use Rattle.bytecode_model.specs.Makes.{made_by}
use Rattle.bytecode_model.specs.InsnPlace.{class_of}
use Rattle.insn_codec.specs.Shapes.{shape_of}
use Rattle.offset_patch.specs.declared.block.BlockInsn.{BlockInsn}
use Rattle.offset_patch.specs.Splicing.{put}
use Rattle.class_weaving.specs.Outcome.{part_named}
use Rattle.block_template.proofs.Calling.{HoldsOfAll}
use Rattle.woven_typing.proofs.Kept.{retargeted}

pub made_nothing : (s : Shape) (ref : Target) → class_of ref ≡ [] → made_by s ref ≡ []
made_nothing (shapes.Heap heap.New) ref e = e
made_nothing (shapes.Heap heap.Constant) ref e = refl
made_nothing (shapes.Heap (heap.ReadItem item)) ref e = refl
made_nothing (shapes.Heap (heap.WriteItem item)) ref e = refl
made_nothing (shapes.Heap (heap.Divide remainder)) ref e = refl
made_nothing (shapes.Heap heap.ReadStatic) ref e = refl
made_nothing (shapes.Heap heap.WriteStatic) ref e = refl
made_nothing (shapes.Heap heap.ReadField) ref e = refl
made_nothing (shapes.Heap heap.WriteField) ref e = refl
made_nothing (shapes.Heap (heap.Call how)) ref e = refl
made_nothing (shapes.Heap (heap.NewArray k)) ref e = refl
made_nothing (shapes.Heap heap.NewArrayOf) ref e = refl
made_nothing (shapes.Heap heap.Length) ref e = refl
made_nothing (shapes.Heap heap.Throw) ref e = refl
made_nothing (shapes.Heap heap.Cast) ref e = refl
made_nothing (shapes.Heap heap.IsInstance) ref e = refl
made_nothing (shapes.Heap heap.Enter) ref e = refl
made_nothing (shapes.Heap heap.Exit) ref e = refl
made_nothing (shapes.Heap (heap.Return k)) ref e = refl
made_nothing shapes.Nothing ref e = refl
made_nothing (shapes.Push n) ref e = refl
made_nothing shapes.PushNull ref e = refl
made_nothing (shapes.Load k slot) ref e = refl
made_nothing (shapes.Store k slot) ref e = refl
made_nothing (shapes.Move form) ref e = refl
made_nothing (shapes.Two op) ref e = refl
made_nothing (shapes.One op) ref e = refl
made_nothing (shapes.Increment slot by) ref e = refl
made_nothing (shapes.Test relation to) ref e = refl
made_nothing (shapes.Compare relation to) ref e = refl
made_nothing (shapes.CompareReferences same to) ref e = refl
made_nothing (shapes.TestNull null to) ref e = refl
made_nothing (shapes.Goto to) ref e = refl
made_nothing shapes.Switch ref e = refl

pub made_elsewhere : (to : ℕ → ℕ) (s : Shape) (ref : Target) → made_by (retargeted to s) ref ≡ made_by s ref
made_elsewhere to (shapes.Heap what) ref = refl
made_elsewhere to shapes.Nothing ref = refl
made_elsewhere to (shapes.Push n) ref = refl
made_elsewhere to shapes.PushNull ref = refl
made_elsewhere to (shapes.Load k slot) ref = refl
made_elsewhere to (shapes.Store k slot) ref = refl
made_elsewhere to (shapes.Move form) ref = refl
made_elsewhere to (shapes.Two op) ref = refl
made_elsewhere to (shapes.One op) ref = refl
made_elsewhere to (shapes.Increment slot by) ref = refl
made_elsewhere to (shapes.Test relation from) ref = refl
made_elsewhere to (shapes.Compare relation from) ref = refl
made_elsewhere to (shapes.CompareReferences same from) ref = refl
made_elsewhere to (shapes.TestNull null from) ref = refl
made_elsewhere to (shapes.Goto from) ref = refl
made_elsewhere to shapes.Switch ref = refl

-- ---- blocks

-- It makes no object, wherever it stands.
pub record MakesNothing (insn : BlockInsn) : Type 0 where
  pub is : (pool : List Const) (fronts : List ℕ) (begin : ℕ) (own : Insn) (state : ℕ) (ref : Target)
      → made_by (shape_of (put pool fronts begin own insn)) (part_named state ref insn) ≡ []

-- what names no class
nameless : (insn : BlockInsn) → ((state : ℕ) (ref : Target) → class_of (part_named state ref insn) ≡ []) → MakesNothing insn
nameless insn none = record {
  is = λ pool fronts begin own state ref.
      made_nothing (shape_of (put pool fronts begin own insn)) (part_named state ref insn) (none state ref);
}

pub blocks_make : (count : ℕ) → HoldsOfAll MakesNothing count
blocks_make count = record {
  plain = λ op. nameless _ (λ state ref. refl);
  in_local = λ op slot wide. nameless _ (λ state ref. refl);
  byte = λ n. nameless _ (λ state ref. refl);
  short = λ n. nameless _ (λ state ref. refl);
  number = λ n. nameless _ (λ state ref. refl);
  variable = λ bools op var. nameless _ (λ state ref. refl);
  class = record { is = λ pool fronts begin own state ref. refl };
  way_out = nameless _ (λ state ref. refl);
  jump = λ op place within. nameless _ (λ state ref. refl);
}
