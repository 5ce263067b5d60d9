-- The bytes of a code, from its instructions. (The Java Virtual Machine Specification, chapter 6.)
use Rattle.std.specs.Prelude.{ℕ, ℤ, pos, ◌+ℤ◌, ◌-ℤ◌, ◌+◌, ◌-◌, ◌*◌, ◌%◌, true, false, List, [], ◌∷◌, ◌++◌, length, replicate, slice_index}
use Rattle.std.specs.List.{flat_map}
use Rattle.std.specs.Int.{w8, w16, w32, cast_unsigned}
use Rattle.mon_base.specs.Widths.{u1, u2, u4}
use Rattle.insn_codec.specs.declared.insn.Case.{Case}
use Rattle.insn_codec.specs.declared.insn.Insn.{Insn}
use Rattle.insn_codec.specs.declared.insn.Insn.TheVariants.{Plain, Byte, Short, Ldc, Pool, Iface, Local, Inc, Branch, GotoW, NewArray, Table, Lookup}
use Rattle.insn_codec.specs.declared.opcodes.TheConstants.{
  BIPUSH,
  SIPUSH,
  LDC,
  IINC,
  TABLESWITCH,
  LOOKUPSWITCH,
  INVOKEINTERFACE,
  NEWARRAY,
  WIDE,
  GOTO_W,
}

-- the same with a sign, as two's complement
abbrev pub i1 : ℤ → List ℕ
i1 n = u1 (cast_unsigned w8 n)

abbrev pub i2 : ℤ → List ℕ
i2 n = u2 (cast_unsigned w16 n)

abbrev pub i4 : ℤ → List ℕ
i4 n = u4 (cast_unsigned w32 n)

-- ---- where instructions stand

abbrev pub opcode_of : Insn → ℕ
opcode_of (Plain op) = op
opcode_of (Byte n) = BIPUSH
opcode_of (Short n) = SIPUSH
opcode_of (Ldc index) = LDC
opcode_of (Pool op index) = op
opcode_of (Iface index count) = INVOKEINTERFACE
opcode_of (Local op slot wide) = op
opcode_of (Inc slot by wide) = IINC
opcode_of (Branch op to) = op
opcode_of (GotoW to) = GOTO_W
opcode_of (NewArray kind) = NEWARRAY
opcode_of (Table other low targets) = TABLESWITCH
opcode_of (Lookup other keys targets) = LOOKUPSWITCH

-- how many zeros a switch at `at` has after its opcode, so that four bytes of the code divide what stands before the rest
abbrev pub padding : ℕ → ℕ
padding at = 3 - at % 4

-- how many bytes an instruction at `at` has
abbrev pub size : ℕ → Insn → ℕ
size at (Plain op) = 1
size at (Byte n) = 2
size at (Short n) = 3
size at (Ldc index) = 2
size at (Pool op index) = 3
size at (Iface index count) = 5
size at (Local op slot false) = 2
size at (Local op slot true) = 4
size at (Inc slot by false) = 3
size at (Inc slot by true) = 6
size at (Branch op to) = 3
size at (GotoW to) = 5
size at (NewArray kind) = 2
size at (Table other low targets) = 13 + padding at + 4 * length targets
size at (Lookup other keys targets) = 9 + padding at + 8 * length targets

-- where the instructions from `at` on begin, and where they end
unfoldable pub starts_from : ℕ → List Insn → List ℕ
starts_from at [] = at ∷ []
starts_from at (first ∷ others) = at ∷ starts_from (at + size at first) others

abbrev pub starts_of : List Insn → List ℕ
starts_of insns = starts_from 0 insns

-- how many bytes the instructions from `at` on have
unfoldable pub len_from : ℕ → List Insn → ℕ
len_from at [] = 0
len_from at (first ∷ others) = size at first + len_from (at + size at first) others

-- ---- the bytes

-- how far an instruction at `at` is from its target, with the beginning of each instruction
abbrev pub offset : List ℕ → ℕ → ℕ → ℤ
offset starts at to = pos (slice_index starts to) -ℤ pos at

-- a key and the offset of its target
abbrev pub case : List ℕ → ℕ → Case → List ℕ
case starts at one = i4 one.key ++ i4 (offset starts at one.to)

-- the keys with their targets
abbrev pub cases : List ℤ → List ℕ → List Case
cases [] targets = []
cases (key ∷ keys) [] = []
cases (key ∷ keys) (to ∷ targets) = record { key = key; to = to } ∷ cases keys targets

-- the least and the greatest number of a tableswitch, and its offsets
abbrev pub range : List ℕ → ℕ → ℤ → List ℕ → List ℕ
range starts at low targets =
    i4 low ++ (i4 (low +ℤ pos (length targets) -ℤ pos 1) ++ flat_map (λ to. i4 (offset starts at to)) targets)

-- the count of a lookupswitch, its keys and their offsets
abbrev pub keyed : List ℕ → ℕ → List ℤ → List ℕ → List ℕ
keyed starts at keys targets = u4 (length targets) ++ flat_map (case starts at) (cases keys targets)

-- the bytes of an instruction at `at`
abbrev pub bytes_of : List ℕ → ℕ → Insn → List ℕ
bytes_of starts at (Plain op) = u1 op
bytes_of starts at (Byte n) = u1 BIPUSH ++ i1 n
bytes_of starts at (Short n) = u1 SIPUSH ++ i2 n
bytes_of starts at (Ldc index) = u1 LDC ++ u1 index
bytes_of starts at (Pool op index) = u1 op ++ u2 index
bytes_of starts at (Iface index count) = u1 INVOKEINTERFACE ++ (u2 index ++ (u1 count ++ u1 0))
bytes_of starts at (Local op slot false) = u1 op ++ u1 slot
bytes_of starts at (Local op slot true) = u1 WIDE ++ (u1 op ++ u2 slot)
bytes_of starts at (Inc slot by false) = u1 IINC ++ (u1 slot ++ i1 by)
bytes_of starts at (Inc slot by true) = u1 WIDE ++ (u1 IINC ++ (u2 slot ++ i2 by))
bytes_of starts at (Branch op to) = u1 op ++ i2 (offset starts at to)
bytes_of starts at (GotoW to) = u1 GOTO_W ++ i4 (offset starts at to)
bytes_of starts at (NewArray kind) = u1 NEWARRAY ++ u1 kind
bytes_of starts at (Table other low targets) =
    (u1 TABLESWITCH ++ (replicate (padding at) 0 ++ i4 (offset starts at other))) ++ range starts at low targets
bytes_of starts at (Lookup other keys targets) =
    (u1 LOOKUPSWITCH ++ (replicate (padding at) 0 ++ i4 (offset starts at other))) ++ keyed starts at keys targets

-- the bytes of the instructions from `at` on
unfoldable pub bytes_from : List ℕ → ℕ → List Insn → List ℕ
bytes_from starts at [] = []
bytes_from starts at (first ∷ others) = bytes_of starts at first ++ bytes_from starts (at + size at first) others

abbrev pub encoding : List Insn → List ℕ
encoding insns = bytes_from (starts_of insns) 0 insns
