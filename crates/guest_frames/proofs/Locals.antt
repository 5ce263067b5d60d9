-- A local that is there.
use Rattle.std.proofs.Common.{◌≡◌, ℕ, zero, suc, ◌<◌, List, [], ◌∷◌, length, Some, arith}
use Rattle.insn_codec.specs.declared.shape.ValueKind.{ValueKind}
use Rattle.insn_codec.specs.Effect.{local}
use Rattle.guest_heap.specs.declared.value.Value.{Value}
use Rattle.guest_frames.specs.Values.{values_moved}

pub inside : (kind : ValueKind) (slot : ℕ) (locals : List Value) (v : Value) → local values_moved kind slot locals ≡ Some v → slot < length locals
inside kind slot [] v e = absurd cc
inside kind zero (x ∷ locals) v e = omega arith
inside kind (suc slot) (x ∷ locals) v e = omega (arith, inside kind slot locals v e)
