-- Reading a code from left to right: the instructions, or the first fault. (docs/INSTRUCTIONS.md)
use Rattle.std.specs.Prelude.{ℕ, zero, suc, ℤ, pos, negsuc, ◌+ℤ◌, ◌-ℤ◌, int_le, ◌+◌, ◌==◌, ◌&&◌, Bool, true, false, List, [], ◌∷◌, length, map, not, Option, Some, None, ok_or, Result, Ok, Err, nat_le, nat_abs, if◌then◌else◌}
use Rattle.std.specs.List.{list_all}
use Rattle.std.specs.Int.{w8, w16, w32, cast_signed}
use Rattle.mon_base.specs.Reading.{Place, bytes_at, number_at, ◌>>=◌, need, counted}
use Rattle.insn_codec.specs.declared.fault.CodeFault.{CodeFault}
use Rattle.insn_codec.specs.declared.fault.CodeFault.TheVariants.{Opcode, Cut, Target, LeftOut, Form, End}
use Rattle.insn_codec.specs.declared.opcode.Operands.{Operands}
use Rattle.insn_codec.specs.declared.opcode.Operands.TheVariants as ops
use Rattle.insn_codec.specs.declared.insn.Insn.{Insn}
use Rattle.insn_codec.specs.declared.insn.Insn.TheVariants as insns
use Rattle.insn_codec.specs.declared.insn.Case.{Case}
use Rattle.insn_codec.specs.Opcodes.{operands_of, goes_on}
use Rattle.insn_codec.specs.Encoding.{opcode_of, padding, size}
use Rattle.insn_codec.specs.Fits.{is_item_type}
use Rattle.insn_codec.specs.declared.opcodes.TheConstants.{NEWARRAY}

-- What the reader of X answers: the value and the place after it, or the fault.
abbrev pub Read : Type 0 → Type 0
Read X = Result (X × Place) CodeFault

-- where the bytes end
abbrev pub end_of : Place → ℕ
end_of p = p.at + length p.rest

-- ---- numbers, of the instruction at `at`

unfoldable pub u1_at : ℕ → Place → Read ℕ
u1_at at p = ok_or (number_at 1 p) (Cut at)

unfoldable pub u2_at : ℕ → Place → Read ℕ
u2_at at p = ok_or (number_at 2 p) (Cut at)

unfoldable pub i1_at : ℕ → Place → Read ℤ
i1_at at p = do
  n ← u1_at at p
  Ok (cast_signed w8 n.0, n.1)

unfoldable pub i2_at : ℕ → Place → Read ℤ
i2_at at p = do
  n ← u2_at at p
  Ok (cast_signed w16 n.0, n.1)

unfoldable pub i4_at : ℕ → Place → Read ℤ
i4_at at p = do
  n ← ok_or (number_at 4 p) (Cut at)
  Ok (cast_signed w32 n.0, n.1)

-- ---- targets

-- Which instruction begins at a position.
abbrev pub Finder : Type 0
Finder = ℤ → Option ℕ

-- any position is taken
abbrev pub any : Finder
any position = Some 0

abbrev pub next_index : Option ℕ → Option ℕ
next_index None = None
next_index (Some i) = Some (i + 1)

-- the index of the instruction that begins at p, of those that stand from `at` on
unfoldable pub index_from : ℕ → List Insn → ℕ → Option ℕ
index_from at [] p = None
index_from at (first ∷ others) p = if at == p then Some 0 else next_index (index_from (at + size at first) others p)

-- one of these instructions
abbrev pub among : List Insn → Finder
among insns (pos p) = index_from 0 insns p
among insns (negsuc n) = None

abbrev pub target_of : Finder → ℕ → ℤ → Result ℕ CodeFault
target_of find at by = ok_or (find (pos at +ℤ by)) (Target at)

-- an offset of two or four bytes
unfoldable pub near_at : Finder → ℕ → Place → Read ℕ
near_at find at p = do
  by ← i2_at at p
  to ← target_of find at by.0
  Ok (to, by.1)

unfoldable pub far_at : Finder → ℕ → Place → Read ℕ
far_at find at p = do
  by ← i4_at at p
  to ← target_of find at by.0
  Ok (to, by.1)

-- ---- switches

unfoldable pub padding_at : ℕ → Place → Read (List ℕ)
padding_at at p = ok_or (bytes_at (padding at) p) (Cut at)

abbrev pub all_zero : List ℕ → Bool
all_zero bytes = list_all (λ b. b == 0) bytes

-- the least number, and how many there are up to the greatest, which is not below it
unfoldable pub bounds_at : ℕ → Place → Read (ℤ × ℕ)
bounds_at at p = do
  low ← i4_at at p
  high ← i4_at at low.1
  order ← need (int_le low.0 high.0) (Form at)
  Ok ((low.0, nat_abs (high.0 -ℤ low.0) + 1), high.1)

-- what follows the padding, which is tried last: that bytes are missing comes before it
unfoldable pub ranged_at : Finder → ℕ → List ℕ → Place → Read Insn
ranged_at find at pad p = do
  other ← far_at find at p
  bounds ← bounds_at at other.1
  all ← counted (far_at find at) bounds.0.1 bounds.1
  clean ← need (all_zero pad) (Form at)
  Ok (insns.Table other.0 bounds.0.0 all.0, all.1)

unfoldable pub table_at : Finder → ℕ → Place → Read Insn
table_at find at p = do
  pad ← padding_at at p
  ranged_at find at pad.0 pad.1

-- a count that is not below 0
unfoldable pub count_at : ℕ → Place → Read ℕ
count_at at p = do
  count ← i4_at at p
  some ← need (int_le (pos 0) count.0) (Form at)
  Ok (nat_abs count.0, count.1)

-- a key and its target
unfoldable pub case_at : Finder → ℕ → Place → Read Case
case_at find at p = do
  key ← i4_at at p
  to ← far_at find at key.1
  Ok (record { key = key.0; to = to.0 }, to.1)

-- The keys strictly ascend, from one that is no less than this.
unfoldable pub ascend_from : ℤ → List ℤ → Bool
ascend_from least [] = true
ascend_from least (key ∷ keys) = int_le least key && ascend_from (key +ℤ pos 1) keys

abbrev pub ascend : List ℤ → Bool
ascend keys = ascend_from (negsuc 0x7FFFFFFF) keys

unfoldable pub cases_at : Finder → ℕ → Place → Read (List Case)
cases_at find at p = do
  count ← count_at at p
  counted (case_at find at) count.0 count.1

-- what follows the padding, which is tried last, with the order of the keys
unfoldable pub keyed_at : Finder → ℕ → List ℕ → Place → Read Insn
keyed_at find at pad p = do
  other ← far_at find at p
  all ← cases_at find at other.1
  right ← need (all_zero pad && ascend (map (λ one. one.key) all.0)) (Form at)
  Ok (insns.Lookup other.0 (map (λ one. one.key) all.0) (map (λ one. one.to) all.0), all.1)

unfoldable pub lookup_at : Finder → ℕ → Place → Read Insn
lookup_at find at p = do
  pad ← padding_at at p
  keyed_at find at pad.0 pad.1

-- ---- instructions

unfoldable pub iface_at : ℕ → Place → Read Insn
iface_at at p = do
  index ← u2_at at p
  count ← u1_at at index.1
  last ← u1_at at count.1
  clean ← need (last.0 == 0) (Form at)
  Ok (insns.Iface index.0 count.0, last.1)

unfoldable pub new_array_at : ℕ → Place → Read Insn
new_array_at at p = do
  kind ← u1_at at p
  known ← need (nat_le 4 kind.0 && nat_le kind.0 11) (Form at)
  taken ← need (is_item_type kind.0) (LeftOut at NEWARRAY)
  Ok (insns.NewArray kind.0, kind.1)

unfoldable pub inc_at : ℕ → Place → Read Insn
inc_at at p = do
  slot ← u1_at at p
  by ← i1_at at slot.1
  Ok (insns.Inc slot.0 by.0 false, by.1)

unfoldable pub wide_inc_at : ℕ → Place → Read Insn
wide_inc_at at p = do
  slot ← u2_at at p
  by ← i2_at at slot.1
  Ok (insns.Inc slot.0 by.0 true, by.1)

-- an opcode with these operands, after wide
abbrev pub widened_at : Operands → ℕ → ℕ → Place → Read Insn
widened_at ops.Local at op p = u2_at at p >>= λ slot. Ok (insns.Local op slot.0 true, slot.1)
widened_at ops.Inc at op p = wide_inc_at at p
widened_at other at op p = Err (Form at)

unfoldable pub wide_at : ℕ → Place → Read Insn
wide_at at p = do
  op ← u1_at at p
  widened_at (operands_of op.0) at op.0 op.1

-- what follows an opcode with these operands
abbrev pub operands_at : Operands → Finder → ℕ → ℕ → Place → Read Insn
operands_at ops.Plain find at op p = Ok (insns.Plain op, p)
operands_at ops.Byte find at op p = i1_at at p >>= λ n. Ok (insns.Byte n.0, n.1)
operands_at ops.Short find at op p = i2_at at p >>= λ n. Ok (insns.Short n.0, n.1)
operands_at ops.Ldc find at op p = u1_at at p >>= λ index. Ok (insns.Ldc index.0, index.1)
operands_at ops.Pool find at op p = u2_at at p >>= λ index. Ok (insns.Pool op index.0, index.1)
operands_at ops.Local find at op p = u1_at at p >>= λ slot. Ok (insns.Local op slot.0 false, slot.1)
operands_at ops.Inc find at op p = inc_at at p
operands_at ops.Branch find at op p = near_at find at p >>= λ to. Ok (insns.Branch op to.0, to.1)
operands_at ops.GotoW find at op p = far_at find at p >>= λ to. Ok (insns.GotoW to.0, to.1)
operands_at ops.Table find at op p = table_at find at p
operands_at ops.Lookup find at op p = lookup_at find at p
operands_at ops.Iface find at op p = iface_at at p
operands_at ops.NewArray find at op p = new_array_at at p
operands_at ops.Wide find at op p = wide_at at p
operands_at ops.LeftOut find at op p = Err (LeftOut at op)
operands_at ops.Unknown find at op p = Err (Opcode at op)

unfoldable pub insn_at : Finder → ℕ → Place → Read Insn
insn_at find at p = do
  op ← u1_at at p
  operands_at (operands_of op.0) find at op.0 op.1

-- ---- the code

-- up to n instructions, until no byte is left
unfoldable pub insns_at : Finder → ℕ → Place → Read (List Insn)
insns_at find zero p = Ok ([], p)
insns_at find (suc n) p =
    if length p.rest == 0 then Ok ([], p)
    else (insn_at find p.at p >>= λ first. insns_at find n first.1 >>= λ others. Ok (first.0 ∷ others.0, others.1))

-- all the instructions, of which each has a byte at least
unfoldable pub insns_of : Finder → List ℕ → Result (List Insn) CodeFault
insns_of find code = do
  all ← insns_at find (length code) (record { at = 0; rest = code })
  Ok all.0

-- Control cannot go on past the last of the instructions, which stand from `at` on.
abbrev pub ended : ℕ → List Insn → Result (Unit {0}) CodeFault
ended at [] = Ok tt
ended at (first ∷ others) =
    if length others == 0 then need (not (goes_on (opcode_of first))) (End at)
    else ended (at + size at first) others

-- The code is read with any targets, which tells where its instructions begin, and then with these.
unfoldable pub code_of : List ℕ → Result (List Insn) CodeFault
code_of code = do
  shapes ← insns_of any code
  all ← insns_of (among shapes) code
  end ← ended 0 all
  Ok all
