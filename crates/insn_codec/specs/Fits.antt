-- Which instructions stand in a code, and which lists of them are one. (The Java Virtual Machine Specification,
-- sections 4.8 and 6.)
use Rattle.std.specs.Prelude.{◌≡◌, ℕ, ℤ, pos, ◌+ℤ◌, ◌-ℤ◌, ◌<ℤ◌, ◌<◌, ◌≤◌, ◌+◌, ◌^◌, ◌||◌, ◌==◌, nat_le, ◌&&◌, Bool, true, false, List, [], ◌∷◌, length, FitsSigned, ⊤}
use Rattle.std.specs.List.{AllByRecursion}
use Rattle.std.specs.Int.{w8, w16, w32}
use Rattle.mon_base.specs.Widths.{IsU1, IsU2}
use Rattle.insn_codec.specs.declared.opcode.Operands.TheVariants as ops
use Rattle.insn_codec.specs.declared.insn.Insn.{Insn}
use Rattle.insn_codec.specs.declared.insn.Insn.TheVariants.{Plain, Byte, Short, Ldc, Pool, Iface, Local, Inc, Branch, GotoW, NewArray, Table, Lookup}
use Rattle.insn_codec.specs.Opcodes.{operands_of, goes_on}
use Rattle.insn_codec.specs.Encoding.{opcode_of, size, offset, starts_of, encoding}

-- the types of an array's items: boolean, char, byte, short, int
abbrev pub is_item_type : ℕ → Bool
is_item_type kind = (kind == 4) || (kind == 5) || (nat_le 8 kind && nat_le kind 10)

abbrev pub Ascend : List ℤ → Type 0
Ascend [] = ⊤
Ascend (key ∷ []) = ⊤
Ascend (key ∷ next ∷ keys) = (key <ℤ next) × Ascend (next ∷ keys)

-- a number of a local variable, and what is added to it, of one byte or, after wide, of two
abbrev pub FitsSlot : Bool → ℕ → Type 0
FitsSlot false slot = IsU1 slot
FitsSlot true slot = IsU2 slot

abbrev pub FitsBy : Bool → ℤ → Type 0
FitsBy false by = FitsSigned w8 by
FitsBy true by = FitsSigned w16 by

pub record FitsTable (low : ℤ) (targets : List ℕ) : Type 0 where
  pub least : FitsSigned w32 low
  pub some : 1 ≤ length targets
  pub most : FitsSigned w32 (low +ℤ pos (length targets) -ℤ pos 1)

pub record FitsLookup (keys : List ℤ) (targets : List ℕ) : Type 0 where
  pub each : AllByRecursion (FitsSigned w32) keys
  pub ascend : Ascend keys
  pub same : length keys ≡ length targets
  pub count : length targets < 2 ^ 31

-- An instruction that stands in a code, its targets aside.
abbrev pub IsInsn : Insn → Type 0
IsInsn (Plain op) = IsU1 op × (operands_of op ≡ ops.Plain)
IsInsn (Byte n) = FitsSigned w8 n
IsInsn (Short n) = FitsSigned w16 n
IsInsn (Ldc index) = IsU1 index
IsInsn (Pool op index) = IsU1 op × (operands_of op ≡ ops.Pool) × IsU2 index
IsInsn (Iface index count) = IsU2 index × IsU1 count
IsInsn (Local op slot wide) = IsU1 op × (operands_of op ≡ ops.Local) × FitsSlot wide slot
IsInsn (Inc slot by wide) = FitsSlot wide slot × FitsBy wide by
IsInsn (Branch op to) = IsU1 op × (operands_of op ≡ ops.Branch)
IsInsn (GotoW to) = ⊤
IsInsn (NewArray kind) = is_item_type kind ≡ true
IsInsn (Table other low targets) = FitsTable low targets
IsInsn (Lookup other keys targets) = FitsLookup keys targets

-- Each target is one of n instructions.
abbrev pub AimsWithin : ℕ → Insn → Type 0
AimsWithin n (Branch op to) = to < n
AimsWithin n (GotoW to) = to < n
AimsWithin n (Table other low targets) = (other < n) × AllByRecursion (λ to. to < n) targets
AimsWithin n (Lookup other keys targets) = (other < n) × AllByRecursion (λ to. to < n) targets
AimsWithin n insn = ⊤

-- The offsets of an instruction at `at` are held by their bytes.
abbrev pub Reaches : List ℕ → ℕ → Insn → Type 0
Reaches starts at (Branch op to) = FitsSigned w16 (offset starts at to)
Reaches starts at (GotoW to) = FitsSigned w32 (offset starts at to)
Reaches starts at (Table other low targets) = FitsSigned w32 (offset starts at other) × AllByRecursion (λ to. FitsSigned w32 (offset starts at to)) targets
Reaches starts at (Lookup other keys targets) = FitsSigned w32 (offset starts at other) × AllByRecursion (λ to. FitsSigned w32 (offset starts at to)) targets
Reaches starts at insn = ⊤

abbrev pub ReachFrom : List ℕ → ℕ → List Insn → Type 0
ReachFrom starts at [] = ⊤
ReachFrom starts at (first ∷ others) = Reaches starts at first × ReachFrom starts (at + size at first) others

-- Control cannot go on past the last instruction.
abbrev pub Ends : List Insn → Type 0
Ends [] = ⊤
Ends (last ∷ []) = goes_on (opcode_of last) ≡ false
Ends (first ∷ next ∷ others) = Ends (next ∷ others)

pub record IsEncodable (insns : List Insn) : Type 0 where
  pub each : AllByRecursion IsInsn insns
  pub targets : AllByRecursion (AimsWithin (length insns)) insns
  pub offsets : ReachFrom (starts_of insns) 0 insns
  pub ends : Ends insns

-- The bytes are those of the code.
pub record EncodesCode (bytes : List ℕ) (insns : List Insn) : Type 0 where
  pub fits : IsEncodable insns
  pub is : bytes ≡ encoding insns
