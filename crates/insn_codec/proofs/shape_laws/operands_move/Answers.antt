use Rattle.std.proofs.Common.{◌∷◌, arith}
use Rattle.insn_codec.specs.declared.forms.StackForm.TheVariants.{Pop, Pop2, Dup, DupX1, DupX2, Dup2, Dup2X1, Dup2X2, Swap}
use Rattle.insn_codec.proofs.Moving.{enough}
use Rattle.insn_codec.proofs.shape_laws.operands_move.Goals as goal

pub returns : goal.returns
returns g c = record {
  pop = λ a s. enough Pop (a ∷ s) (omega arith);
  pop2 = λ a b s. enough Pop2 (a ∷ b ∷ s) (omega arith);
  dup = λ a s. enough Dup (a ∷ s) (omega arith);
  dup_x1 = λ a b s. enough DupX1 (a ∷ b ∷ s) (omega arith);
  dup_x2 = λ a b c s. enough DupX2 (a ∷ b ∷ c ∷ s) (omega arith);
  dup2 = λ a b s. enough Dup2 (a ∷ b ∷ s) (omega arith);
  dup2_x1 = λ a b c s. enough Dup2X1 (a ∷ b ∷ c ∷ s) (omega arith);
  dup2_x2 = λ a b c d s. enough Dup2X2 (a ∷ b ∷ c ∷ d ∷ s) (omega arith);
  swap = λ a b s. enough Swap (a ∷ b ∷ s) (omega arith);
}
