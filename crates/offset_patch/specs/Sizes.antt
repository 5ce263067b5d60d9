-- The sizes of a method with blocks, each of which has to fit: sums over the method and its blocks, in the order in which
-- they are told. (docs/BLOCKS.md)
use Rattle.std.specs.Prelude.{ℕ, ℤ, pos, ◌+◌, ◌-ℤ◌, int_le, not, Bool, false, List, [], ◌∷◌, ◌++◌, length, map, take, find, slice_index, Option}
use Rattle.class_codec.specs.declared.tree.Code.{Code}
use Rattle.class_codec.specs.declared.tree.Const.{Const}
use Rattle.insn_codec.specs.declared.insn.Insn.{Insn}
use Rattle.insn_codec.specs.declared.insn.Insn.TheVariants as insns
use Rattle.insn_codec.specs.Writing.{held_by_2}
use Rattle.bytecode_model.specs.declared.program.Method.{Method}
use Rattle.offset_patch.specs.declared.block.Block.{Block}
use Rattle.offset_patch.specs.declared.block.BlockInsn.{BlockInsn}
use Rattle.offset_patch.specs.declared.block.BlockInsn.TheVariants.{Plain, Byte, Short, Local, Want, Jump, Call}
use Rattle.offset_patch.specs.declared.fault.Size.{Size}
use Rattle.offset_patch.specs.declared.fault.Size.TheVariants as sizes
use Rattle.offset_patch.specs.declared.fault.SpliceFault.{SpliceFault}
use Rattle.offset_patch.specs.declared.fault.SpliceFault.TheVariants as faults
use Rattle.offset_patch.specs.Length.{size_in, part_end, length_of}
use Rattle.offset_patch.specs.Splicing.{part_of, catching, grown, operands_needed}

-- ---- where parts begin, in bytes

-- where the part of each instruction begins, and where the last one ends
abbrev pub byte_fronts_from : ℕ → List Insn → List (Option Block) → List ℕ
byte_fronts_from at [] sites = at ∷ []
byte_fronts_from at (insn ∷ insns) [] = at ∷ []
byte_fronts_from at (insn ∷ insns) (site ∷ sites) = at ∷ byte_fronts_from (part_end insn at (part_of site)) insns sites

-- ---- offsets that two bytes hold

-- that of a client's instruction at the byte `at`, to the front of its target
abbrev pub own_offset : List ℕ → ℕ → Insn → List ℤ
own_offset fronts at (insns.Branch op to) = (pos (slice_index fronts to) -ℤ pos at) ∷ []
own_offset fronts at other = []

-- that of an instruction at the byte `at`, of the part that begins at `begin`: a jump goes to an instruction of the part
abbrev pub item_offset : List ℕ → Insn → List BlockInsn → ℕ → ℕ → BlockInsn → List ℤ
item_offset fronts own part begin at (Jump op place) = (pos (part_end own begin (take place part)) -ℤ pos at) ∷ []
item_offset fronts own part begin at Call = own_offset fronts at own
item_offset fronts own part begin at (Plain op) = []
item_offset fronts own part begin at (Byte n) = []
item_offset fronts own part begin at (Short n) = []
item_offset fronts own part begin at (Local op slot wide) = []
item_offset fronts own part begin at (Want op want) = []

-- those of the part's instructions from the byte `at` on
abbrev pub part_offsets : List ℕ → Insn → List BlockInsn → ℕ → ℕ → List BlockInsn → List ℤ
part_offsets fronts own part begin at [] = []
part_offsets fronts own part begin at (insn ∷ insns) = item_offset fronts own part begin at insn ++ part_offsets fronts own part begin (at + size_in own at insn) insns

abbrev pub offsets_from : List ℕ → ℕ → List Insn → List (Option Block) → List ℤ
offsets_from fronts at [] sites = []
offsets_from fronts at (insn ∷ insns) [] = []
offsets_from fronts at (insn ∷ insns) (site ∷ sites) =
    part_offsets fronts insn (part_of site) at at (part_of site) ++ offsets_from fronts (part_end insn at (part_of site)) insns sites

-- those of the code, in its order
abbrev pub offsets_of : List Insn → List (Option Block) → List ℤ
offsets_of insns sites = offsets_from (byte_fronts_from 0 insns sites) 0 insns sites

-- ---- the sizes

-- each as the fault that it is where it does not fit
abbrev pub method_sizes : List ℕ → ℕ → List Const → Method → Code → ℕ → List (Option Block) → List SpliceFault
method_sizes class number pool method code locals sites =
    faults.Overflow class number sizes.Stack (pos (code.max_stack + operands_needed))
    ∷ faults.Overflow class number sizes.Locals (pos (code.max_locals + locals))
    ∷ faults.Overflow class number sizes.Entries (pos (length code.table + catching sites))
    ∷ faults.Overflow class number sizes.Pool (pos (length (grown pool sites)))
    ∷ faults.Overflow class number sizes.Length (pos (length_of method.insns sites))
    ∷ map (faults.Overflow class number sizes.Branch) (offsets_of method.insns sites)

-- two bytes hold an offset; any other size is at most 65,535
abbrev pub holds : Size → ℤ → Bool
holds sizes.Branch value = held_by_2 value
holds sizes.Stack value = int_le value (pos 65535)
holds sizes.Locals value = int_le value (pos 65535)
holds sizes.Entries value = int_le value (pos 65535)
holds sizes.Pool value = int_le value (pos 65535)
holds sizes.Length value = int_le value (pos 65535)

abbrev pub is_unfit : SpliceFault → Bool
is_unfit (faults.Overflow class method what value) = not (holds what value)
is_unfit faults.Memory = false

-- the first that does not fit
abbrev pub first_unfit : List SpliceFault → Option SpliceFault
first_unfit sizes = find is_unfit sizes
