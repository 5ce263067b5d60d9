-- How many bytes the code of a method has with its blocks. (docs/BLOCKS.md)
use Rattle.std.specs.Prelude.{ℕ, ◌+◌, true, false, List, [], ◌∷◌, Option}
use Rattle.insn_codec.specs.declared.insn.Insn.{Insn}
use Rattle.insn_codec.specs.Encoding.{size}
use Rattle.offset_patch.specs.declared.block.Block.{Block}
use Rattle.offset_patch.specs.declared.block.BlockInsn.{BlockInsn}
use Rattle.offset_patch.specs.declared.block.BlockInsn.TheVariants.{Plain, Byte, Short, Local, Want, Jump, Call}
use Rattle.offset_patch.specs.Splicing.{part_of}

-- how many bytes an instruction has that begins at the byte `at`, in the part of the client's instruction `own`
abbrev pub size_in : Insn → ℕ → BlockInsn → ℕ
size_in own at (Plain op) = 1
size_in own at (Byte n) = 2
size_in own at (Short n) = 3
size_in own at (Local op slot false) = 2
size_in own at (Local op slot true) = 4
size_in own at (Want op want) = 3
size_in own at (Jump op place) = 3
size_in own at Call = size at own

-- where a part ends that begins at the byte `at`
abbrev pub part_end : Insn → ℕ → List BlockInsn → ℕ
part_end own at [] = at
part_end own at (insn ∷ insns) = part_end own (at + size_in own at insn) insns

-- where the parts of the instructions end, of which the first begins at the byte `at`
abbrev pub end_from : ℕ → List Insn → List (Option Block) → ℕ
end_from at [] sites = at
end_from at (insn ∷ insns) [] = at
end_from at (insn ∷ insns) (site ∷ sites) = end_from (part_end insn at (part_of site)) insns sites

-- the length of the code
abbrev pub length_of : List Insn → List (Option Block) → ℕ
length_of insns sites = end_from 0 insns sites
