-- Which opcode an instruction has, and in what form it stands.
use Rattle.std.proofs.Common.{◌≡◌, ℕ, zero, suc, ℤ, pos, ◌<◌, Bool, true, false, not, List, [], ◌++◌, replicate, refl, sym, ap, subst, ◌∙◌, inl, inr, arith}
use Rattle.std.specs.Prelude.{◌==◌, ◌&&◌, ◌||◌}
use Rattle.std.proofs.lemmas.Bool.{cases_lt, false≢true}
use Rattle.std.proofs.lemmas.Bool.Decides.{nat_tests}
use Rattle.insn_codec.specs.declared.opcode.Operands.{Operands}
use Rattle.insn_codec.specs.declared.opcode.Operands.TheVariants as ops
use Rattle.insn_codec.specs.declared.insn.Insn.{Insn}
use Rattle.insn_codec.specs.declared.insn.Insn.TheVariants.{Plain, Byte, Short, Ldc, Pool, Iface, Local, Inc, Branch, GotoW, NewArray, Table, Lookup}
use Rattle.insn_codec.specs.Opcodes.{Opcode, opcode_at, operands_of}
use Rattle.mon_base.specs.Widths.{u1, u2}
use Rattle.insn_codec.specs.Encoding.{i1, i2, i4, offset, padding}
use Rattle.insn_codec.specs.Fits.{IsInsn, AimsWithin, Reaches}
use Rattle.insn_codec.proofs.OpcodeTable.{no_opcode}
use Rattle.insn_codec.proofs.SwitchLaws.{is_table, is_lookup, after_padding, after_zeros}
use Rattle.insn_codec.specs.declared.opcodes.TheConstants.{
  BIPUSH,
  SIPUSH,
  LDC,
  IINC,
  TABLESWITCH,
  LOOKUPSWITCH,
  INVOKEINTERFACE,
  NEWARRAY,
  WIDE,
  GOTO_W,
}

-- ---- opcodes

abbrev pub number : Operands → ℕ
number ops.Plain = 0
number ops.Byte = 1
number ops.Short = 2
number ops.Ldc = 3
number ops.Pool = 4
number ops.Local = 5
number ops.Inc = 6
number ops.Branch = 7
number ops.GotoW = 8
number ops.Table = 9
number ops.Lookup = 10
number ops.Iface = 11
number ops.NewArray = 12
number ops.Wide = 13
number ops.LeftOut = 14
number ops.Unknown = 15

abbrev pub all_below : ℕ → (ℕ → Bool) → Bool
all_below zero test = true
all_below (suc n) test = test n && all_below n test

pub both : (a b : Bool) → (a && b) ≡ true → (a ≡ true) × (b ≡ true)
both true b h = (refl, h)
both false b h = absurd (false≢true h)

pub each_below : (n : ℕ) (test : ℕ → Bool) → all_below n test ≡ true → (i : ℕ) → i < n → test i ≡ true
each_below zero test h i lt = absurd (omega arith)
each_below (suc n) test h i lt =
    let b = both (test n) (all_below n test) h in
    elim (cases_lt i n) [
      | inl less ↦ each_below n test b.1 i less
      | inr most ↦ let same : n ≡ i = omega arith in subst (λ (k : ℕ). test k ≡ true) same b.0
    ]

-- An opcode with operands is below 202.
pub known_opcode : (op : ℕ) → (number (operands_of op) == 15) ≡ false → op < 202
known_opcode op known =
    elim (cases_lt op 202) [
      | inl less ↦ less
      | inr more ↦ absurd (false≢true (sym known ∙ ap (λ (o : Opcode). number o.operands == 15) (no_opcode op more)))
    ]

abbrev pub only_at : ℕ → ℕ → ℕ → Bool
only_at kind only op = not (number (operands_of op) == kind) || (op == only)

pub passed : (b c : Bool) → (not b || c) ≡ true → b ≡ true → c ≡ true
passed b c h holds = sym (rw holds refl) ∙ h

pub equal_numbers : (m n : ℕ) → (m == n) ≡ true → m ≡ n
equal_numbers m n h = grind (arith, nat_tests)

pub number_itself : (n : ℕ) → (n == n) ≡ true
number_itself n = grind (arith, nat_tests)

pub only_one : (o : Operands) (only : ℕ) → (number o == 15) ≡ false → all_below 202 (only_at (number o) only) ≡ true
    → (op : ℕ) → operands_of op ≡ o → op ≡ only
only_one o only known table op is =
    let less = known_opcode op (ap (λ (x : Operands). number x == 15) is ∙ known) in
    let test = each_below 202 (only_at (number o) only) table op less in
    let same : (number (operands_of op) == number o) ≡ true = ap (λ (x : Operands). number x == number o) is ∙ number_itself (number o) in
    equal_numbers op only (passed (number (operands_of op) == number o) (op == only) test same)

pub only_byte : (op : ℕ) → operands_of op ≡ ops.Byte → op ≡ BIPUSH
unfolding opcode_at
only_byte op is = only_one ops.Byte BIPUSH refl refl op is

pub byte_code : operands_of BIPUSH ≡ ops.Byte
unfolding opcode_at
byte_code = refl

pub only_short : (op : ℕ) → operands_of op ≡ ops.Short → op ≡ SIPUSH
unfolding opcode_at
only_short op is = only_one ops.Short SIPUSH refl refl op is

pub short_code : operands_of SIPUSH ≡ ops.Short
unfolding opcode_at
short_code = refl

pub only_ldc : (op : ℕ) → operands_of op ≡ ops.Ldc → op ≡ LDC
unfolding opcode_at
only_ldc op is = only_one ops.Ldc LDC refl refl op is

pub ldc_code : operands_of LDC ≡ ops.Ldc
unfolding opcode_at
ldc_code = refl

pub only_inc : (op : ℕ) → operands_of op ≡ ops.Inc → op ≡ IINC
unfolding opcode_at
only_inc op is = only_one ops.Inc IINC refl refl op is

pub inc_code : operands_of IINC ≡ ops.Inc
unfolding opcode_at
inc_code = refl

pub only_gotow : (op : ℕ) → operands_of op ≡ ops.GotoW → op ≡ GOTO_W
unfolding opcode_at
only_gotow op is = only_one ops.GotoW GOTO_W refl refl op is

pub gotow_code : operands_of GOTO_W ≡ ops.GotoW
unfolding opcode_at
gotow_code = refl

pub only_table : (op : ℕ) → operands_of op ≡ ops.Table → op ≡ TABLESWITCH
unfolding opcode_at
only_table op is = only_one ops.Table TABLESWITCH refl refl op is

pub table_code : operands_of TABLESWITCH ≡ ops.Table
unfolding opcode_at
table_code = refl

pub only_lookup : (op : ℕ) → operands_of op ≡ ops.Lookup → op ≡ LOOKUPSWITCH
unfolding opcode_at
only_lookup op is = only_one ops.Lookup LOOKUPSWITCH refl refl op is

pub lookup_code : operands_of LOOKUPSWITCH ≡ ops.Lookup
unfolding opcode_at
lookup_code = refl

pub only_iface : (op : ℕ) → operands_of op ≡ ops.Iface → op ≡ INVOKEINTERFACE
unfolding opcode_at
only_iface op is = only_one ops.Iface INVOKEINTERFACE refl refl op is

pub iface_code : operands_of INVOKEINTERFACE ≡ ops.Iface
unfolding opcode_at
iface_code = refl

pub only_newarray : (op : ℕ) → operands_of op ≡ ops.NewArray → op ≡ NEWARRAY
unfolding opcode_at
only_newarray op is = only_one ops.NewArray NEWARRAY refl refl op is

pub newarray_code : operands_of NEWARRAY ≡ ops.NewArray
unfolding opcode_at
newarray_code = refl

pub only_wide : (op : ℕ) → operands_of op ≡ ops.Wide → op ≡ WIDE
unfolding opcode_at
only_wide op is = only_one ops.Wide WIDE refl refl op is

pub wide_code : operands_of WIDE ≡ ops.Wide
unfolding opcode_at
wide_code = refl

-- ---- forms

-- with what operands an instruction stands
abbrev pub form_of : Insn → Operands
form_of (Plain op) = ops.Plain
form_of (Byte n) = ops.Byte
form_of (Short n) = ops.Short
form_of (Ldc index) = ops.Ldc
form_of (Pool op index) = ops.Pool
form_of (Iface index count) = ops.Iface
form_of (Local op slot false) = ops.Local
form_of (Local op slot true) = ops.Wide
form_of (Inc slot by false) = ops.Inc
form_of (Inc slot by true) = ops.Wide
form_of (Branch op to) = ops.Branch
form_of (GotoW to) = ops.GotoW
form_of (NewArray kind) = ops.NewArray
form_of (Table other low targets) = ops.Table
form_of (Lookup other keys targets) = ops.Lookup

abbrev pub first_byte : Insn → ℕ
first_byte (Plain op) = op
first_byte (Byte n) = BIPUSH
first_byte (Short n) = SIPUSH
first_byte (Ldc index) = LDC
first_byte (Pool op index) = op
first_byte (Iface index count) = INVOKEINTERFACE
first_byte (Local op slot false) = op
first_byte (Local op slot true) = WIDE
first_byte (Inc slot by false) = IINC
first_byte (Inc slot by true) = WIDE
first_byte (Branch op to) = op
first_byte (GotoW to) = GOTO_W
first_byte (NewArray kind) = NEWARRAY
first_byte (Table other low targets) = TABLESWITCH
first_byte (Lookup other keys targets) = LOOKUPSWITCH

-- what follows the first byte
abbrev pub after_first : List ℕ → ℕ → Insn → List ℕ
after_first starts at (Plain op) = []
after_first starts at (Byte n) = i1 n
after_first starts at (Short n) = i2 n
after_first starts at (Ldc index) = u1 index
after_first starts at (Pool op index) = u2 index
after_first starts at (Iface index count) = u2 index ++ (u1 count ++ u1 0)
after_first starts at (Local op slot false) = u1 slot
after_first starts at (Local op slot true) = u1 op ++ u2 slot
after_first starts at (Inc slot by false) = u1 slot ++ i1 by
after_first starts at (Inc slot by true) = u1 IINC ++ (u2 slot ++ i2 by)
after_first starts at (Branch op to) = i2 (offset starts at to)
after_first starts at (GotoW to) = i4 (offset starts at to)
after_first starts at (NewArray kind) = u1 kind
after_first starts at (Table other low targets) = replicate (padding at) 0 ++ after_padding starts at (Table other low targets)
after_first starts at (Lookup other keys targets) = replicate (padding at) 0 ++ after_zeros starts at (Lookup other keys targets)

-- an instruction of a code of n instructions
abbrev pub FitsInsn : List ℕ → ℕ → ℕ → Insn → Type 0
FitsInsn starts n at a = IsInsn a × (AimsWithin n a × Reaches starts at a)

-- what is known of it after its first byte
abbrev pub Known : Operands → ℕ → Insn → Type 0
Known o op a = (first_byte a ≡ op) × (form_of a ≡ o)

pub is_plain : (a : Insn) → form_of a ≡ ops.Plain → Plain (first_byte a) ≡ a
is_plain (Plain op) e = refl
is_plain (Local op slot false) e = absurd cc
is_plain (Local op slot true) e = absurd cc
is_plain (Inc slot by false) e = absurd cc
is_plain (Inc slot by true) e = absurd cc
is_plain a e = absurd cc

pub is_byte : (a : Insn) → form_of a ≡ ops.Byte → (n : ℤ) × (Byte n ≡ a)
is_byte (Byte n) e = (n, refl)
is_byte (Local op slot false) e = absurd cc
is_byte (Local op slot true) e = absurd cc
is_byte (Inc slot by false) e = absurd cc
is_byte (Inc slot by true) e = absurd cc
is_byte a e = absurd cc

pub is_short : (a : Insn) → form_of a ≡ ops.Short → (n : ℤ) × (Short n ≡ a)
is_short (Short n) e = (n, refl)
is_short (Local op slot false) e = absurd cc
is_short (Local op slot true) e = absurd cc
is_short (Inc slot by false) e = absurd cc
is_short (Inc slot by true) e = absurd cc
is_short a e = absurd cc

pub is_ldc : (a : Insn) → form_of a ≡ ops.Ldc → (n : ℕ) × (Ldc n ≡ a)
is_ldc (Ldc index) e = (index, refl)
is_ldc (Local op slot false) e = absurd cc
is_ldc (Local op slot true) e = absurd cc
is_ldc (Inc slot by false) e = absurd cc
is_ldc (Inc slot by true) e = absurd cc
is_ldc a e = absurd cc

pub is_pool : (a : Insn) → form_of a ≡ ops.Pool → (n : ℕ) × (Pool (first_byte a) n ≡ a)
is_pool (Pool op index) e = (index, refl)
is_pool (Local op slot false) e = absurd cc
is_pool (Local op slot true) e = absurd cc
is_pool (Inc slot by false) e = absurd cc
is_pool (Inc slot by true) e = absurd cc
is_pool a e = absurd cc

pub is_local : (a : Insn) → form_of a ≡ ops.Local → (n : ℕ) × (Local (first_byte a) n false ≡ a)
is_local (Local op slot false) e = (slot, refl)
is_local (Local op slot true) e = absurd cc
is_local (Inc slot by false) e = absurd cc
is_local (Inc slot by true) e = absurd cc
is_local a e = absurd cc

pub is_branch : (a : Insn) → form_of a ≡ ops.Branch → (n : ℕ) × (Branch (first_byte a) n ≡ a)
is_branch (Branch op to) e = (to, refl)
is_branch (Local op slot false) e = absurd cc
is_branch (Local op slot true) e = absurd cc
is_branch (Inc slot by false) e = absurd cc
is_branch (Inc slot by true) e = absurd cc
is_branch a e = absurd cc

pub is_goto_w : (a : Insn) → form_of a ≡ ops.GotoW → (n : ℕ) × (GotoW n ≡ a)
is_goto_w (GotoW to) e = (to, refl)
is_goto_w (Local op slot false) e = absurd cc
is_goto_w (Local op slot true) e = absurd cc
is_goto_w (Inc slot by false) e = absurd cc
is_goto_w (Inc slot by true) e = absurd cc
is_goto_w a e = absurd cc

pub is_new_array : (a : Insn) → form_of a ≡ ops.NewArray → (n : ℕ) × (NewArray n ≡ a)
is_new_array (NewArray kind) e = (kind, refl)
is_new_array (Local op slot false) e = absurd cc
is_new_array (Local op slot true) e = absurd cc
is_new_array (Inc slot by false) e = absurd cc
is_new_array (Inc slot by true) e = absurd cc
is_new_array a e = absurd cc

pub table_form : (a : Insn) → form_of a ≡ ops.Table → is_table a ≡ true
table_form (Table other low targets) e = refl
table_form (Local op slot false) e = absurd cc
table_form (Local op slot true) e = absurd cc
table_form (Inc slot by false) e = absurd cc
table_form (Inc slot by true) e = absurd cc
table_form a e = absurd cc

pub lookup_form : (a : Insn) → form_of a ≡ ops.Lookup → is_lookup a ≡ true
lookup_form (Lookup other keys targets) e = refl
lookup_form (Local op slot false) e = absurd cc
lookup_form (Local op slot true) e = absurd cc
lookup_form (Inc slot by false) e = absurd cc
lookup_form (Inc slot by true) e = absurd cc
lookup_form a e = absurd cc

-- No instruction stands with operands that are left out or unknown.
known_form : (a : Insn) → number (form_of a) < 14
known_form (Plain op) = omega arith
known_form (Byte n) = omega arith
known_form (Short n) = omega arith
known_form (Ldc index) = omega arith
known_form (Pool op index) = omega arith
known_form (Iface index count) = omega arith
known_form (Local op slot false) = omega arith
known_form (Local op slot true) = omega arith
known_form (Inc slot by false) = omega arith
known_form (Inc slot by true) = omega arith
known_form (Branch op to) = omega arith
known_form (GotoW to) = omega arith
known_form (NewArray kind) = omega arith
known_form (Table other low targets) = omega arith
known_form (Lookup other keys targets) = omega arith

pub none_left_out : (a : Insn) → form_of a ≡ ops.LeftOut → ⊥
none_left_out a e = let is : number (form_of a) ≡ 14 = ap number e in absurd (omega (arith, known_form a, is))

pub none_unknown : (a : Insn) → form_of a ≡ ops.Unknown → ⊥
none_unknown a e = let is : number (form_of a) ≡ 15 = ap number e in absurd (omega (arith, known_form a, is))

-- ---- fields

abbrev pub slot_of : Insn → ℕ
slot_of (Local op slot wide) = slot
slot_of (Inc slot by wide) = slot
slot_of a = 0

abbrev pub by_of : Insn → ℤ
by_of (Inc slot by wide) = by
by_of a = pos 0

abbrev pub index_of : Insn → ℕ
index_of (Iface index count) = index
index_of a = 0

abbrev pub count_of : Insn → ℕ
count_of (Iface index count) = count
count_of a = 0

-- the opcode after wide
abbrev pub inner_of : Insn → ℕ
inner_of (Local op slot wide) = op
inner_of (Inc slot by wide) = IINC
inner_of a = 0

-- what follows it
abbrev pub after_inner : Insn → List ℕ
after_inner (Local op slot wide) = u2 slot
after_inner (Inc slot by wide) = u2 slot ++ i2 by
after_inner a = []

pub inc_made : (a : Insn) → form_of a ≡ ops.Inc → Inc (slot_of a) (by_of a) false ≡ a
inc_made (Inc slot by false) e = refl
inc_made (Local op slot false) e = absurd cc
inc_made (Local op slot true) e = absurd cc
inc_made (Inc slot by true) e = absurd cc
inc_made a e = absurd cc

pub iface_made : (a : Insn) → form_of a ≡ ops.Iface → Iface (index_of a) (count_of a) ≡ a
iface_made (Iface index count) e = refl
iface_made (Local op slot false) e = absurd cc
iface_made (Local op slot true) e = absurd cc
iface_made (Inc slot by false) e = absurd cc
iface_made (Inc slot by true) e = absurd cc
iface_made a e = absurd cc
