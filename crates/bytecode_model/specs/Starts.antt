-- Which instructions begin at the bytes of a code. (docs/LINKING.md)
use Rattle.std.specs.Prelude.{ℕ, ◌+◌, ◌==◌, nat_lt, if◌then◌else◌, List, length, Option, Some, None, option_and_then}
use Rattle.std.specs.List.{position_from}

-- the index of the instruction that begins at the byte, or the number of instructions for the end of the code
abbrev pub index_at : List ℕ → ℕ → Option ℕ
index_at starts byte = position_from (λ start. start == byte) 0 starts

-- the index of the instruction that begins at the byte; `starts` has the end of the code, too
abbrev pub insn_at : List ℕ → ℕ → Option ℕ
insn_at starts byte = option_and_then (λ index. if nat_lt (index + 1) (length starts) then Some index else None) (index_at starts byte)
