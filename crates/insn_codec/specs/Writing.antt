-- Writing a code: its bytes, or why there are none. (docs/INSTRUCTIONS.md)
use Rattle.std.specs.Prelude.{◌≡◌, ℕ, ℤ, pos, negsuc, ◌+◌, ◌++◌, ◌&&◌, Bool, List, [], ◌∷◌, Result, Ok, Err, nat_le, int_le}
use Rattle.mon_base.specs.Reading.{◌>>=◌, need}
use Rattle.mon_base.specs.Answer.{Fails}
use Rattle.insn_codec.specs.declared.fault.CodeOverflow.{CodeOverflow}
use Rattle.insn_codec.specs.declared.fault.CodeOverflow.TheVariants as overflows
use Rattle.insn_codec.specs.declared.insn.Insn.{Insn}
use Rattle.insn_codec.specs.declared.insn.Insn.TheVariants.{Branch, GotoW, Table, Lookup}
use Rattle.insn_codec.specs.Encoding.{size, offset, starts_of, len_from, encoding}

-- Whether two and four bytes hold a number.
abbrev pub held_by_2 : ℤ → Bool
held_by_2 n = int_le (negsuc 0x7FFF) n && int_le n (pos 0x7FFF)

abbrev pub held_by_4 : ℤ → Bool
held_by_4 n = int_le (negsuc 0x7FFFFFFF) n && int_le n (pos 0x7FFFFFFF)

unfoldable pub near : List ℕ → ℕ → ℕ → Result (Unit {0}) CodeOverflow
near starts at to = need (held_by_2 (offset starts at to)) (overflows.Branch (offset starts at to))

unfoldable pub far : List ℕ → ℕ → ℕ → Result (Unit {0}) CodeOverflow
far starts at to = need (held_by_4 (offset starts at to)) (overflows.Branch (offset starts at to))

unfoldable pub all_far : List ℕ → ℕ → List ℕ → Result (Unit {0}) CodeOverflow
all_far starts at [] = Ok tt
all_far starts at (to ∷ targets) = far starts at to >>= λ _. all_far starts at targets

-- the first offset of the instruction at `at` that is out of its width
abbrev pub reach : List ℕ → ℕ → Insn → Result (Unit {0}) CodeOverflow
reach starts at (Branch op to) = near starts at to
reach starts at (GotoW to) = far starts at to
reach starts at (Table other low targets) = far starts at other >>= λ _. all_far starts at targets
reach starts at (Lookup other keys targets) = far starts at other >>= λ _. all_far starts at targets
reach starts at insn = Ok tt

-- the first of the instructions from `at` on
unfoldable pub reach_from : List ℕ → ℕ → List Insn → Result (Unit {0}) CodeOverflow
reach_from starts at [] = Ok tt
reach_from starts at (first ∷ others) = reach starts at first >>= λ _. reach_from starts (at + size at first) others

-- The code has at most 65,535 bytes, and each offset is within its width.
unfoldable pub written : List Insn → Result (List ℕ) CodeOverflow
written insns = do
  short ← need (nat_le (len_from 0 insns) 65535) (overflows.Length (len_from 0 insns))
  held ← reach_from (starts_of insns) 0 insns
  Ok (encoding insns)

-- What a call that appends bytes answered, unless memory ran out.
abbrev pub Puts : Result (Unit {0}) CodeOverflow → Result (Unit {0}) CodeOverflow → List ℕ → List ℕ → List ℕ → Type 0
Puts (Ok done) answer bytes old new = (answer ≡ Ok tt) × (new ≡ old ++ bytes)
Puts (Err e) answer bytes old new = Fails overflows.Memory e answer
