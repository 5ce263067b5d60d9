-- How long a code is.
use Rattle.std.proofs.Common.{ℕ, ◌+◌, ◌≤◌, List, [], ◌∷◌, length, arith}
use Rattle.insn_codec.specs.declared.insn.Insn.{Insn}
use Rattle.insn_codec.specs.Encoding.{size, len_from}
use Rattle.insn_codec.proofs.Standing.{size-some}

-- Each instruction has a byte or more.
pub count_len : (at : ℕ) (insns : List Insn) → length insns ≤ len_from at insns
unfolding len_from
count_len at [] = omega arith
count_len at (x ∷ xs) = omega (arith, size-some at x, count_len (at + size at x) xs)
