-- The forms of moving operands, as data: how many are taken, and which of them are put back, the topmost first.
-- (The Java Virtual Machine Specification, section 6.5, from pop to swap.)
use Rattle.std.specs.Prelude.{ℕ, List, [], ◌∷◌}
use Rattle.insn_codec.specs.declared.forms.StackForm.{StackForm}
use Rattle.insn_codec.specs.declared.forms.StackForm.TheVariants.{Pop, Pop2, Dup, DupX1, DupX2, Dup2, Dup2X1, Dup2X2, Swap}

abbrev pub depth_of : StackForm → ℕ
depth_of Pop = 1
depth_of Pop2 = 2
depth_of Dup = 1
depth_of DupX1 = 2
depth_of DupX2 = 3
depth_of Dup2 = 2
depth_of Dup2X1 = 3
depth_of Dup2X2 = 4
depth_of Swap = 2

abbrev pub order_of : StackForm → List ℕ
order_of Pop = []
order_of Pop2 = []
order_of Dup = 0 ∷ 0 ∷ []
order_of DupX1 = 0 ∷ 1 ∷ 0 ∷ []
order_of DupX2 = 0 ∷ 1 ∷ 2 ∷ 0 ∷ []
order_of Dup2 = 0 ∷ 1 ∷ 0 ∷ 1 ∷ []
order_of Dup2X1 = 0 ∷ 1 ∷ 2 ∷ 0 ∷ 1 ∷ []
order_of Dup2X2 = 0 ∷ 1 ∷ 2 ∷ 3 ∷ 0 ∷ 1 ∷ []
order_of Swap = 1 ∷ 0 ∷ []
