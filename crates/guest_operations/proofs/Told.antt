-- What a ConstantValue tells.
use Rattle.std.proofs.Common.{◌≡◌, ℕ, List, Option, Some, None, refl, sym, ap, ◌∙◌}
use Rattle.std.specs.Prelude.{slice_get, option_and_then}
use Rattle.std.specs.List.{filter_map}
use Rattle.class_codec.specs.declared.tree.ClassFile.{ClassFile}
use Rattle.class_codec.specs.declared.tree.Const.{Const}
use Rattle.class_codec.specs.declared.tree.Member.{Member}
use Rattle.bytecode_model.specs.declared.program.Program.{Program}
use Rattle.bytecode_model.specs.Heads.{desc_of}
use Rattle.guest_heap.specs.declared.value.Value.{Value}
use Rattle.guest_model.specs.Layout.{constant_bytes, two_bytes, value_of_constant, value_told}
use Rattle.guest_operations.specs.Statics.{constant_told}

module _ (pool : List Const) (told : Const → Option Value) where
  of_index : (i : Option ℕ) → option_and_then (λ (index : ℕ). option_and_then told (slice_get pool index)) i ≡ option_and_then told (option_and_then (slice_get pool) i)
  of_index None = refl
  of_index (Some index) = refl

  of_bytes : (o : Option (List ℕ))
      → option_and_then (λ (bytes : List ℕ). option_and_then (λ (index : ℕ). option_and_then told (slice_get pool index)) (two_bytes bytes)) o
      ≡ option_and_then told (option_and_then (slice_get pool) (option_and_then two_bytes o))
  of_bytes None = refl
  of_bytes (Some bytes) = of_index (two_bytes bytes)

pub told_at : (program : Program) (file : ClassFile) (field : Member) (pool : List Const) (desc : List ℕ) (constant : Const) → pool ≡ file.pool → desc ≡ desc_of pool field
    → constant_told pool field ≡ Some constant → value_told program file field ≡ value_of_constant program pool desc constant
told_at program file field pool desc constant pool_is desc_is told =
    of_bytes file.pool (value_of_constant program file.pool (desc_of file.pool field)) (slice_get (filter_map (constant_bytes file.pool) field.attrs) 0)
    ∙ ap (λ (p : List Const). option_and_then (value_of_constant program p (desc_of p field)) (constant_told p field)) (sym pool_is)
    ∙ ap (option_and_then (value_of_constant program pool (desc_of pool field))) told
    ∙ ap (λ (d : List ℕ). value_of_constant program pool d constant) (sym desc_is)
