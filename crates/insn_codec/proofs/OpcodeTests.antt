-- What holds of each opcode, by trying all of them.
use Rattle.std.proofs.Common.{◌≡◌, ℕ, zero, suc, ◌<◌, Bool, true, false, List, [], ◌∷◌, length, refl, ap, arith, inl, inr}
use Rattle.std.specs.Prelude.{not, ◌&&◌, ◌||◌, ◌==◌}
use Rattle.std.specs.Bool.{beq}
use Rattle.std.proofs.lemmas.Bool.{cases_lt, and_parts, eqb-true}
use Rattle.insn_codec.specs.declared.opcode.Operands.{Operands}
use Rattle.insn_codec.specs.declared.opcode.Operands.TheVariants as ops
use Rattle.insn_codec.specs.Opcodes.{opcode_at, operands_of, is_frame_only, goes_on}
use Rattle.insn_codec.specs.declared.shape.Shape.{Shape}
use Rattle.insn_codec.specs.declared.shape.Shape.TheVariants as shapes
use Rattle.insn_codec.specs.Shapes.{plain_shape, pool_shape, local_shape, branch_shape}
use Rattle.insn_codec.specs.Table.{is_heap, ends}

abbrev pub is_nothing : Shape → Bool
is_nothing shapes.Nothing = true
is_nothing other = false

abbrev is_plain : Operands → Bool
is_plain ops.Plain = true
is_plain other = false

abbrev is_pool : Operands → Bool
is_pool ops.Pool = true
is_pool other = false

abbrev is_local : Operands → Bool
is_local ops.Local = true
is_local other = false

abbrev is_branch : Operands → Bool
is_branch ops.Branch = true
is_branch other = false

-- the targets of a jump, a switch aside
abbrev pub jumps_of : Shape → List ℕ
jumps_of (shapes.Test relation to) = to ∷ []
jumps_of (shapes.Compare relation to) = to ∷ []
jumps_of (shapes.CompareReferences same to) = to ∷ []
jumps_of (shapes.TestNull null to) = to ∷ []
jumps_of (shapes.Goto to) = to ∷ []
jumps_of other = []

abbrev pub is_switch : Shape → Bool
is_switch shapes.Switch = true
is_switch other = false

abbrev pub jumps_nowhere : Shape → Bool
jumps_nowhere shape = (length (jumps_of shape) == 0) && not (is_switch shape)

-- The table marks the opcode as the shape says, control goes on after it but after a jump, and it does something.
abbrev agrees : ℕ → Shape → Bool
agrees op shape = beq (is_frame_only op) (not (is_heap shape)) && (beq (goes_on op) (not (ends shape)) && (not (is_nothing shape) || (op == 0)))

abbrev below : ℕ → (ℕ → Bool) → Bool
below zero test = true
below (suc n) test = test n && below n test

tried : (test : ℕ → Bool) (n i : ℕ) → below n test ≡ true → i < n → test i ≡ true
tried test zero i h lt = absurd (omega arith)
tried test (suc n) i h lt =
    let b = and_parts (test n) (below n test) h in
    elim (cases_lt i n) [
      | inl less ↦ tried test n i b.1 less
      | inr most ↦ let same : i ≡ n = omega arith in rw same b.0
    ]

-- what the agreement of an opcode and a shape says
pub record Agreement (op : ℕ) (shape : Shape) : Type 0 where
  pub marked : is_frame_only op ≡ not (is_heap shape)
  pub goes : goes_on op ≡ not (ends shape)
  pub something : is_nothing shape ≡ true → op ≡ 0

same_of : (a b : Bool) → beq a b ≡ true → a ≡ b
same_of true true h = refl
same_of true false h = absurd cc
same_of false true h = absurd cc
same_of false false h = refl

or_of : (a b : Bool) → (a || b) ≡ true → a ≡ false → b ≡ true
or_of true b h e = absurd cc
or_of false b h e = h

agreement_of : (op : ℕ) (shape : Shape) → agrees op shape ≡ true → Agreement op shape
agreement_of op shape h =
    let a = and_parts (beq (is_frame_only op) (not (is_heap shape))) _ h in
    let b = and_parts (beq (goes_on op) (not (ends shape))) _ a.1 in
    record {
      marked = same_of (is_frame_only op) (not (is_heap shape)) a.0;
      goes = same_of (goes_on op) (not (ends shape)) b.0;
      something = λ none. eqb-true op 0 (or_of (not (is_nothing shape)) (op == 0) b.1 (ap not none));
    }

-- where the operands are of the form, the opcode and the shape agree
abbrev when : Bool → Bool → Bool
when form agree = not form || agree

when_of : (form agree : Bool) → when form agree ≡ true → form ≡ true → agree ≡ true
when_of form agree h e = or_of (not form) agree h (ap not e)

abbrev plain_test : ℕ → Bool
plain_test op = when (is_plain (operands_of op)) (agrees op (plain_shape op) && jumps_nowhere (plain_shape op))

abbrev pool_test : ℕ → Bool
pool_test op = when (is_pool (operands_of op)) (agrees op (pool_shape op) && is_heap (pool_shape op))

abbrev local_test : ℕ → ℕ → Bool
local_test slot op = when (is_local (operands_of op)) (agrees op (local_shape op slot) && jumps_nowhere (local_shape op slot))

abbrev branch_test : ℕ → ℕ → Bool
branch_test to op = when (is_branch (operands_of op)) (agrees op (branch_shape op to))

all_plain : below 256 plain_test ≡ true
unfolding opcode_at
all_plain = refl

all_pool : below 256 pool_test ≡ true
unfolding opcode_at
all_pool = refl

all_local : (slot : ℕ) → below 256 (local_test slot) ≡ true
unfolding opcode_at
all_local slot = refl

all_branch : (to : ℕ) → below 256 (branch_test to) ≡ true
unfolding opcode_at
all_branch to = refl

plain_tried : (op : ℕ) → op < 256 → operands_of op ≡ ops.Plain → (agrees op (plain_shape op) ≡ true) × (jumps_nowhere (plain_shape op) ≡ true)
plain_tried op lt form = and_parts (agrees op (plain_shape op)) _ (when_of (is_plain (operands_of op)) _ (tried plain_test 256 op all_plain lt) (ap is_plain form))

local_tried : (op slot : ℕ) → op < 256 → operands_of op ≡ ops.Local → (agrees op (local_shape op slot) ≡ true) × (jumps_nowhere (local_shape op slot) ≡ true)
local_tried op slot lt form = and_parts (agrees op (local_shape op slot)) _ (when_of (is_local (operands_of op)) _ (tried (local_test slot) 256 op (all_local slot) lt) (ap is_local form))

pub plain_agrees : (op : ℕ) → op < 256 → operands_of op ≡ ops.Plain → Agreement op (plain_shape op)
plain_agrees op lt form = agreement_of op (plain_shape op) (plain_tried op lt form).0

pub plain_stays : (op : ℕ) → op < 256 → operands_of op ≡ ops.Plain → jumps_nowhere (plain_shape op) ≡ true
plain_stays op lt form = (plain_tried op lt form).1

pool_tried : (op : ℕ) → op < 256 → operands_of op ≡ ops.Pool → (agrees op (pool_shape op) ≡ true) × (is_heap (pool_shape op) ≡ true)
pool_tried op lt form = and_parts (agrees op (pool_shape op)) _ (when_of (is_pool (operands_of op)) _ (tried pool_test 256 op all_pool lt) (ap is_pool form))

pub pool_agrees : (op : ℕ) → op < 256 → operands_of op ≡ ops.Pool → Agreement op (pool_shape op)
pool_agrees op lt form = agreement_of op (pool_shape op) (pool_tried op lt form).0

pub pool_is_heap : (op : ℕ) → op < 256 → operands_of op ≡ ops.Pool → is_heap (pool_shape op) ≡ true
pool_is_heap op lt form = (pool_tried op lt form).1

pub local_agrees : (op slot : ℕ) → op < 256 → operands_of op ≡ ops.Local → Agreement op (local_shape op slot)
local_agrees op slot lt form = agreement_of op (local_shape op slot) (local_tried op slot lt form).0

pub local_stays : (op slot : ℕ) → op < 256 → operands_of op ≡ ops.Local → jumps_nowhere (local_shape op slot) ≡ true
local_stays op slot lt form = (local_tried op slot lt form).1

pub branch_agrees : (op to : ℕ) → op < 256 → operands_of op ≡ ops.Branch → Agreement op (branch_shape op to)
branch_agrees op to lt form = agreement_of op (branch_shape op to) (when_of (is_branch (operands_of op)) _ (tried (branch_test to) 256 op (all_branch to) lt) (ap is_branch form))
