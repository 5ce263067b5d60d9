-- The instructions by which blocks push and store: numbers and locals, each in its shortest form. (docs/BLOCKS.md)
use Rattle.std.specs.Prelude.{ℕ, ℤ, pos, neg_ℤ, ◌+◌, nat_lt, nat_le, int_le, ◌&&◌, if◌then◌else◌, Bool, false, List, map, slice_get}
use Rattle.std.specs.Ordering.{int_eq}
use Rattle.std.specs.Option.{option_map_or}
use Rattle.conspec_tree.specs.declared.types.Base.{Base}
use Rattle.conspec_tree.specs.declared.types.Base.TheVariants as bases
use Rattle.conspec_tree.specs.declared.types.Kind.{Kind}
use Rattle.conspec_tree.specs.declared.types.Rel.{Rel}
use Rattle.conspec_tree.specs.declared.types.Rel.TheVariants as relations
use Rattle.conspec_tree.specs.declared.types.Var.{Var}
use Rattle.offset_patch.specs.declared.block.BlockInsn.{BlockInsn}
use Rattle.offset_patch.specs.declared.block.BlockInsn.TheVariants.{Plain, Byte, Short, Local, Want}
use Rattle.offset_patch.specs.declared.block.PoolWant.{PoolWant}
use Rattle.offset_patch.specs.declared.block.PoolWant.TheVariants.{StateField, Integer}
use Rattle.insn_codec.specs.declared.opcodes.TheConstants.{
  ICONST_M1,
  ICONST_0,
  ICONST_1,
  ICONST_2,
  ICONST_3,
  ICONST_4,
  ICONST_5,
  LDC_W,
  ILOAD,
  ALOAD,
  ILOAD_0,
  ALOAD_0,
  ISTORE,
  ASTORE,
  ISTORE_0,
  ASTORE_0,
  IF_ICMPEQ,
  IF_ICMPNE,
  IF_ICMPLT,
  IF_ICMPGE,
  IF_ICMPGT,
  IF_ICMPLE,
  GETSTATIC,
}
use Rattle.conspec_tree.specs.Kinds.{is_number}

-- ---- locals

-- the shortest form of a load or a store: one of the four opcodes from `short` on, or `op` with the local's number
abbrev pub local : ℕ → ℕ → ℕ → BlockInsn
local short op slot = if nat_lt slot 4 then Plain (short + slot) else Local op slot (nat_le 256 slot)

-- istore, and astore for a class or an array
abbrev pub store : Kind → ℕ → BlockInsn
store kind slot = if is_number kind then local ISTORE_0 ISTORE slot else local ASTORE_0 ASTORE slot

-- iload, and aload
abbrev pub load : Kind → ℕ → BlockInsn
load kind slot = if is_number kind then local ILOAD_0 ILOAD slot else local ALOAD_0 ALOAD slot

-- ---- numbers

-- one opcode for the numbers from -1 to 5, or an operand of one or two bytes, or an entry of the constant pool
abbrev pub push : ℤ → BlockInsn
push n =
    if int_eq n (neg_ℤ (pos 1)) then Plain ICONST_M1
    else if int_eq n (pos 0) then Plain ICONST_0
    else if int_eq n (pos 1) then Plain ICONST_1
    else if int_eq n (pos 2) then Plain ICONST_2
    else if int_eq n (pos 3) then Plain ICONST_3
    else if int_eq n (pos 4) then Plain ICONST_4
    else if int_eq n (pos 5) then Plain ICONST_5
    else if int_le (neg_ℤ (pos 128)) n && int_le n (pos 127) then Byte n
    else if int_le (neg_ℤ (pos 32768)) n && int_le n (pos 32767) then Short n
    else Want LDC_W (Integer n)

-- ---- variables, and what an atom compares

-- which variables are bools
abbrev pub bools_in : List Var → List Bool
bools_in vars = map (λ (v : Var). v.is_bool) vars

-- the field of the variable of this index, where these tell which variables are bools
abbrev pub field : List Bool → ℕ → PoolWant
field bools var = StateField var (option_map_or (λ (b : Bool). b) (slice_get bools var) false)

-- an argument stands in a local from `base` on, and a result in `base`
abbrev pub push_base : List Bool → ℕ → Base → BlockInsn
push_base bools base (bases.Var var) = Want GETSTATIC (field bools var)
push_base bools base (bases.Arg i) = local ILOAD_0 ILOAD (base + i)
push_base bools base bases.Result = local ILOAD_0 ILOAD base

-- the jump that is taken where the relation does not hold
abbrev pub negated : Rel → ℕ
negated relations.Eq = IF_ICMPNE
negated relations.Ne = IF_ICMPEQ
negated relations.Lt = IF_ICMPGE
negated relations.Le = IF_ICMPGT
negated relations.Gt = IF_ICMPLE
negated relations.Ge = IF_ICMPLT
