-- What blocks are made of. (docs/BLOCKS.md)
use Rattle.std.specs.Prelude.{◌≡◌, ◌≤◌, ◌<◌, ◌^◌, ◌==◌, ◌||◌, ℕ, suc, Bool, List, [], ◌∷◌, length, FitsSigned, IsTrue, IfSome, Option, Some, None, ⊤}
use Rattle.std.specs.List.{AllByRecursion}
use Rattle.std.specs.Int.{w8, w16, w32}
use Rattle.insn_codec.specs.declared.opcode.Operands.TheVariants as ops
use Rattle.insn_codec.specs.Opcodes.{operands_of}
use Rattle.insn_codec.specs.declared.opcodes.TheConstants.{LDC_W, GETSTATIC, PUTSTATIC, INVOKESTATIC}
use Rattle.mon_base.specs.Widths.{IsU1, IsU4}
use Rattle.insn_codec.specs.Fits.{FitsSlot}
use Rattle.offset_patch.specs.declared.block.Block.{Block}
use Rattle.offset_patch.specs.declared.block.BlockInsn.{BlockInsn}
use Rattle.offset_patch.specs.declared.block.BlockInsn.TheVariants.{Plain, Byte, Short, Local, Want, Jump, Call}
use Rattle.offset_patch.specs.declared.block.PoolWant.{PoolWant}
use Rattle.offset_patch.specs.declared.block.PoolWant.TheVariants.{StateClass, StateField, Exit, Integer}

-- whether the opcode takes such an entry by an index of two bytes
abbrev pub takes : PoolWant → ℕ → Bool
takes StateClass op = op == LDC_W
takes (StateField var is_bool) op = (op == GETSTATIC) || (op == PUTSTATIC)
takes Exit op = op == INVOKESTATIC
takes (Integer n) op = op == LDC_W

-- A number has 32 bits, and so has a variable's index.
abbrev pub IsWant : PoolWant → Type 0
IsWant (Integer n) = FitsSigned w32 n
IsWant StateClass = ⊤
IsWant (StateField var is_bool) = IsU4 var
IsWant Exit = ⊤

-- The opcode takes such operands.
abbrev pub IsBlockInsn : BlockInsn → Type 0
IsBlockInsn (Plain op) = IsU1 op × (operands_of op ≡ ops.Plain)
IsBlockInsn (Byte n) = FitsSigned w8 n
IsBlockInsn (Short n) = FitsSigned w16 n
IsBlockInsn (Local op slot wide) = IsU1 op × (operands_of op ≡ ops.Local) × FitsSlot wide slot
IsBlockInsn (Want op want) = IsTrue (takes want op) × IsWant want
IsBlockInsn (Jump op place) = IsU1 op × (operands_of op ≡ ops.Branch)
IsBlockInsn Call = ⊤

-- A jump goes to one of so many instructions, or after the last of them.
abbrev pub JumpsWithin : ℕ → BlockInsn → Type 0
JumpsWithin count (Jump op place) = place ≤ count
JumpsWithin count other = ⊤

-- how often the client's instruction stands in a part
abbrev pub calls_in : List BlockInsn → ℕ
calls_in [] = 0
calls_in (Call ∷ insns) = suc (calls_in insns)
calls_in (insn ∷ insns) = calls_in insns

-- A block has an instruction, and each is one. The client's stands there once; a jump stays in the block, or goes after it;
-- what is thrown is caught in the block.
pub record IsBlock (block : Block) : Type 0 where
  pub some : 1 ≤ length block.insns
  pub few : length block.insns < 2 ^ 32
  pub once : calls_in block.insns ≡ 1
  pub each : AllByRecursion IsBlockInsn block.insns
  pub jumps : AllByRecursion (JumpsWithin (length block.insns)) block.insns
  pub catches : IfSome block.handler (λ place. place < length block.insns)

abbrev pub IsSite : Option Block → Type 0
IsSite None = ⊤
IsSite (Some block) = IsBlock block
