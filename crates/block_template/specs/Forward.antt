-- The jumps of a block go forward. (docs/BLOCKS.md)
use Rattle.std.specs.Prelude.{ℕ, ◌+◌, ◌<◌, IfSome, List, [], ◌∷◌, ⊤}
use Rattle.cert_format.specs.declared.certificate.Mode.{Mode}
use Rattle.conspec_automaton.specs.declared.policy.Policy.{Policy}
use Rattle.offset_patch.specs.declared.block.Block.{Block}
use Rattle.offset_patch.specs.declared.block.BlockInsn.{BlockInsn}
use Rattle.offset_patch.specs.declared.block.BlockInsn.TheVariants.{Plain, Byte, Short, Local, Want, Jump, Call}
use Rattle.block_template.specs.Blocks.{block}

-- A jump that stands at this place goes to a place after it.
abbrev pub GoesForward : ℕ → BlockInsn → Type 0
GoesForward at (Jump op place) = at < place
GoesForward at (Plain op) = ⊤
GoesForward at (Byte n) = ⊤
GoesForward at (Short n) = ⊤
GoesForward at (Local op slot wide) = ⊤
GoesForward at (Want op want) = ⊤
GoesForward at Call = ⊤

-- So does each of these instructions, of which the first stands at `at`.
abbrev pub GoForward : ℕ → List BlockInsn → Type 0
GoForward at [] = ⊤
GoForward at (insn ∷ insns) = GoesForward at insn × GoForward (at + 1) insns

-- So do those of the block of each method, in both modes.
abbrev pub BlocksGoForward : Type 0
BlocksGoForward =
    (policy : Policy) (mode : Mode) (method base : ℕ) → IfSome (block policy mode method base) (λ (made : Block). GoForward 0 made.insns)
