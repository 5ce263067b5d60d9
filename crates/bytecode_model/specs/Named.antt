-- What is known of the operands of a linked program. (docs/LINKING.md)
use Rattle.std.specs.Prelude.{◌≡◌, ℕ, ◌<◌, List, [], length, slice_get, Some}
use Rattle.std.specs.Option.{option_map_or}
use Rattle.mon_base.specs.declared.method.MethodId.{MethodId}
use Rattle.api_listing.specs.declared.types.ListedMethod.{ListedMethod}
use Rattle.api_listing.specs.declared.types.Listing.{Listing}
use Rattle.class_codec.specs.Pool.{reference_at}
use Rattle.insn_codec.specs.declared.insn.Insn.{Insn}
use Rattle.insn_codec.specs.declared.shape.Heap.TheVariants as heap
use Rattle.insn_codec.specs.declared.shape.Shape.TheVariants as shapes
use Rattle.insn_codec.specs.Shapes.{shape_of}
use Rattle.insn_codec.specs.declared.shape.How.{How}
use Rattle.bytecode_model.specs.declared.program.LinkedClass.{LinkedClass}
use Rattle.bytecode_model.specs.declared.program.Method.{Method}
use Rattle.bytecode_model.specs.declared.program.Program.{Program}
use Rattle.bytecode_model.specs.declared.program.Target.{Target}
use Rattle.bytecode_model.specs.declared.program.Target.TheVariants as target
use Rattle.bytecode_model.specs.Operands.{index_of}

-- the descriptor that the reference of an instruction tells
abbrev pub desc_told : LinkedClass → Insn → List ℕ
desc_told class insn = option_map_or (λ (id : MethodId). id.desc) (reference_at class.file.pool (index_of insn)) []

-- The instruction calls the method of the listing, by its descriptor.
pub record IsListedCall (listing : Listing) (class : LinkedClass) (insn : Insn) (index : ℕ) : Type 0 where
  pub method : ListedMethod
  pub there : slice_get listing.methods index ≡ Some method
  pub how : How
  pub calls : shape_of insn ≡ shapes.Heap (heap.Call how)
  pub desc : desc_told class insn ≡ method.id.desc

-- The constant of the instruction is in the pool, what names a method of the listing calls it, and a field that is named
-- is of one of the classes.
pub record IsRightOperand (program : Program) (class : LinkedClass) (insn : Insn) (ref : Target) : Type 0 where
  pub constant : index_of insn < length class.file.pool
  pub listed : (index : ℕ) → ref ≡ target.ApiMethod index → IsListedCall program.listing class insn index
  pub field : (of index : ℕ) → ref ≡ target.Field of index → of < length program.classes

-- It is so for each instruction of the program.
abbrev pub AreRightOperands : Program → Type 0
AreRightOperands program =
    (own index at : ℕ) (class : LinkedClass) (method : Method) (insn : Insn) (ref : Target) → slice_get program.classes own ≡ Some class
    → slice_get class.methods index ≡ Some method → slice_get method.insns at ≡ Some insn → slice_get method.refs at ≡ Some ref
    → IsRightOperand program class insn ref
