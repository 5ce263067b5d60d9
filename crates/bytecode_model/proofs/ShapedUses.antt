-- Each instruction uses its constant as its shape tells: a table of all opcodes.
use Rattle.std.proofs.Common.{◌≡◌, ℕ, ◌<◌, Bool, true, false, refl, sym, ap, ◌∙◌}
use Rattle.std.specs.Prelude.{◌==◌, if◌then◌else◌}
use Rattle.insn_codec.specs.declared.insn.Insn.TheVariants as insns
use Rattle.insn_codec.specs.Shapes.{plain_shape, pool_shape, local_shape, branch_shape}
use Rattle.insn_codec.proofs.InsnForms.{all_below, each_below, equal_numbers}
use Rattle.bytecode_model.specs.declared.operand.Use.{Use}
use Rattle.bytecode_model.specs.declared.operand.Use.TheVariants as uses
use Rattle.bytecode_model.specs.Operands.{use_of_opcode}
use Rattle.bytecode_model.specs.Uses.{use_shaped, UsesAreShaped}

-- ---- uses by numbers

abbrev number_of_use : Use → ℕ
number_of_use uses.Nothing = 0
number_of_use uses.Load = 1
number_of_use uses.New = 2
number_of_use uses.Type = 3
number_of_use (uses.Field false false) = 4
number_of_use (uses.Field false true) = 5
number_of_use (uses.Field true false) = 6
number_of_use (uses.Field true true) = 7
number_of_use (uses.Call false false) = 8
number_of_use (uses.Call false true) = 9
number_of_use (uses.Call true false) = 10
number_of_use (uses.Call true true) = 11

abbrev use_of_number : ℕ → Use
use_of_number n =
    if n == 0 then uses.Nothing
    else if n == 1 then uses.Load
    else if n == 2 then uses.New
    else if n == 3 then uses.Type
    else if n == 4 then uses.Field false false
    else if n == 5 then uses.Field false true
    else if n == 6 then uses.Field true false
    else if n == 7 then uses.Field true true
    else if n == 8 then uses.Call false false
    else if n == 9 then uses.Call false true
    else if n == 10 then uses.Call true false
    else uses.Call true true

back : (purpose : Use) → use_of_number (number_of_use purpose) ≡ purpose
back uses.Nothing = refl
back uses.Load = refl
back uses.New = refl
back uses.Type = refl
back (uses.Field false false) = refl
back (uses.Field false true) = refl
back (uses.Field true false) = refl
back (uses.Field true true) = refl
back (uses.Call false false) = refl
back (uses.Call false true) = refl
back (uses.Call true false) = refl
back (uses.Call true true) = refl

same_use : (one other : Use) → (number_of_use one == number_of_use other) ≡ true → one ≡ other
same_use one other e = sym (back one) ∙ ap use_of_number (equal_numbers (number_of_use one) (number_of_use other) e) ∙ back other

-- ---- the tables

pool_alike : ℕ → Bool
pool_alike op = number_of_use (use_of_opcode op) == number_of_use (use_shaped (pool_shape op))

all_pool : all_below 256 pool_alike ≡ true
unfolding pool_alike
all_pool = refl

plain_free : ℕ → Bool
plain_free op = 0 == number_of_use (use_shaped (plain_shape op))

all_plain : all_below 256 plain_free ≡ true
unfolding plain_free
all_plain = refl

local_free : ℕ → ℕ → Bool
local_free slot op = 0 == number_of_use (use_shaped (local_shape op slot))

all_local : (slot : ℕ) → all_below 256 (local_free slot) ≡ true
unfolding local_free
all_local slot = refl

branch_free : ℕ → ℕ → Bool
branch_free to op = 0 == number_of_use (use_shaped (branch_shape op to))

all_branch : (to : ℕ) → all_below 256 (branch_free to) ≡ true
unfolding branch_free
all_branch to = refl

pool_shaped : (op : ℕ) → op < 256 → use_of_opcode op ≡ use_shaped (pool_shape op)
unfolding pool_alike
pool_shaped op small = same_use (use_of_opcode op) (use_shaped (pool_shape op)) (each_below 256 pool_alike all_pool op small)

plain_shaped : (op : ℕ) → op < 256 → uses.Nothing ≡ use_shaped (plain_shape op)
unfolding plain_free
plain_shaped op small = same_use uses.Nothing (use_shaped (plain_shape op)) (each_below 256 plain_free all_plain op small)

local_shaped : (op slot : ℕ) → op < 256 → uses.Nothing ≡ use_shaped (local_shape op slot)
unfolding local_free
local_shaped op slot small = same_use uses.Nothing (use_shaped (local_shape op slot)) (each_below 256 (local_free slot) (all_local slot) op small)

branch_shaped : (op to : ℕ) → op < 256 → uses.Nothing ≡ use_shaped (branch_shape op to)
unfolding branch_free
branch_shaped op to small = same_use uses.Nothing (use_shaped (branch_shape op to)) (each_below 256 (branch_free to) (all_branch to) op small)

-- ---- instructions

pub all_shaped : UsesAreShaped
all_shaped (insns.Ldc index) is = refl
all_shaped (insns.Iface index count) is = refl
all_shaped (insns.Pool op index) is = pool_shaped op is.0
all_shaped (insns.Plain op) is = plain_shaped op is.0
all_shaped (insns.Byte n) is = refl
all_shaped (insns.Short n) is = refl
all_shaped (insns.Local op slot wide) is = local_shaped op slot is.0
all_shaped (insns.Inc slot by wide) is = refl
all_shaped (insns.Branch op to) is = branch_shaped op to is.0
all_shaped (insns.GotoW to) is = refl
all_shaped (insns.NewArray kind) is = refl
all_shaped (insns.Table other low targets) is = refl
all_shaped (insns.Lookup other keys targets) is = refl
