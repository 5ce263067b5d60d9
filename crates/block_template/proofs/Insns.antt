-- The instructions of blocks are such, stay in their block, and name variables that are there.
use Rattle.std.proofs.Common.{◌≡◌, ℕ, zero, suc, ◌+◌, ◌<◌, ◌≤◌, ◌^◌, ℤ, pos, neg_ℤ, Bool, true, false, List, ◌∷◌, Some, refl, arith, FitsSigned}
use Rattle.std.specs.Prelude.{IfSome, IsTrue, ◌&&◌, if◌then◌else◌, int_le, nat_le, nat_lt, slice_get, ⊤}
use Rattle.std.specs.Int.{w8, w16, w32}
use Rattle.std.specs.Ordering.{int_eq}
use Rattle.std.specs.Option.{option_map_or}
use Rattle.std.proofs.lemmas.Bool.{and_parts}
use Rattle.std.proofs.lemmas.Bool.Decides.{nat_tests}
use Rattle.std.proofs.lemmas.Int.{ints}
use Rattle.insn_codec.specs.declared.opcode.Operands.TheVariants as ops
use Rattle.insn_codec.specs.declared.opcodes.TheConstants.{ICONST_M1, ICONST_0, ICONST_1, ICONST_2, ICONST_3, ICONST_4, ICONST_5, LDC_W, ILOAD, ALOAD, ILOAD_0, ALOAD_0, ISTORE, ASTORE, ISTORE_0, ASTORE_0, GETSTATIC, PUTSTATIC}
use Rattle.insn_codec.specs.Opcodes.{opcode_at, operands_of}
use Rattle.insn_codec.specs.Fits.{FitsSlot}
use Rattle.mon_base.specs.Widths.{IsU1, IsU4}
use Rattle.conspec_tree.specs.declared.types.Atom.{Atom}
use Rattle.conspec_tree.specs.declared.types.Base.{Base}
use Rattle.conspec_tree.specs.declared.types.Base.TheVariants as bases
use Rattle.conspec_tree.specs.declared.types.Kind.{Kind}
use Rattle.conspec_tree.specs.declared.types.Kind.TheVariants as kinds
use Rattle.conspec_tree.specs.declared.types.Rel.{Rel}
use Rattle.conspec_tree.specs.declared.types.Rel.TheVariants as relations
use Rattle.conspec_tree.specs.declared.types.Update.{Update}
use Rattle.conspec_tree.specs.declared.types.Update.TheVariants.{Set, Add}
use Rattle.conspec_tree.specs.Updates.{target}
use Rattle.offset_patch.specs.declared.block.BlockInsn.{BlockInsn}
use Rattle.offset_patch.specs.declared.block.BlockInsn.TheVariants.{Plain, Byte, Short, Want, Jump}
use Rattle.offset_patch.specs.declared.block.PoolWant.TheVariants.{Integer}
use Rattle.offset_patch.specs.Fits.{IsBlockInsn, JumpsWithin, calls_in, takes}
use Rattle.offset_patch.specs.Plan.{NamesVariable}
use Rattle.offset_patch.specs.Splicing.{want_of}
use Rattle.block_template.specs.Pushing.{field, load, local, negated, push, push_base, store}
use Rattle.block_template.specs.Room.{HasLocal}
use Rattle.block_template.proofs.Rows.{Rows}

-- which of two is chosen by a test
pub chosen : (P : BlockInsn → Type 0) (b : Bool) (x y : BlockInsn) → (b ≡ true → P x) → (b ≡ false → P y) → P (if b then x else y)
chosen P true x y p q = p refl
chosen P false x y p q = q refl

-- what pushes a number: one of three kinds
pub pushed : (P : BlockInsn → Type 0) (n : ℤ) → ((k : ℕ) → k < 7 → P (Plain (ICONST_M1 + k))) → (FitsSigned w8 n → P (Byte n)) → (FitsSigned w16 n → P (Short n))
    → P (Want LDC_W (Integer n)) → P (push n)
pushed P n plain byte short want =
    chosen P (int_eq n (neg_ℤ (pos 1))) _ _ (λ e. plain 0 (omega arith)) (λ e.
    chosen P (int_eq n (pos 0)) _ _ (λ e. plain 1 (omega arith)) (λ e.
    chosen P (int_eq n (pos 1)) _ _ (λ e. plain 2 (omega arith)) (λ e.
    chosen P (int_eq n (pos 2)) _ _ (λ e. plain 3 (omega arith)) (λ e.
    chosen P (int_eq n (pos 3)) _ _ (λ e. plain 4 (omega arith)) (λ e.
    chosen P (int_eq n (pos 4)) _ _ (λ e. plain 5 (omega arith)) (λ e.
    chosen P (int_eq n (pos 5)) _ _ (λ e. plain 6 (omega arith)) (λ e.
    chosen P (int_le (neg_ℤ (pos 128)) n && int_le n (pos 127)) _ _
    (λ e. let p = and_parts (int_le (neg_ℤ (pos 128)) n) (int_le n (pos 127)) e in byte (grind (arith, ints))) (λ e.
    chosen P (int_le (neg_ℤ (pos 32768)) n && int_le n (pos 32767)) _ _
    (λ e. let p = and_parts (int_le (neg_ℤ (pos 32768)) n) (int_le n (pos 32767)) e in short (grind (arith, ints))) (λ e. want)))))))))

-- ---- they are instructions, and stay in the block

pub record IsOwn (count : ℕ) (insn : BlockInsn) : Type 0 where
  pub fits : IsBlockInsn insn
  pub stays : JumpsWithin count insn
  pub once : (insns : List BlockInsn) → calls_in (insn ∷ insns) ≡ calls_in insns

-- of those with an opcode alone
plain : (count op : ℕ) → IsU1 op → operands_of op ≡ ops.Plain → IsOwn count (Plain op)
plain count op small is = record { fits = (small, is); stays = tt; once = λ insns. refl }

below_7 : (P : ℕ → Type 0) → P 0 → P 1 → P 2 → P 3 → P 4 → P 5 → P 6 → (k : ℕ) → k < 7 → P k
below_7 P a b c d e f g zero h = a
below_7 P a b c d e f g (suc zero) h = b
below_7 P a b c d e f g (suc (suc zero)) h = c
below_7 P a b c d e f g (suc (suc (suc zero))) h = d
below_7 P a b c d e f g (suc (suc (suc (suc zero)))) h = e
below_7 P a b c d e f g (suc (suc (suc (suc (suc zero))))) h = f
below_7 P a b c d e f g (suc (suc (suc (suc (suc (suc zero)))))) h = g
below_7 P a b c d e f g (suc (suc (suc (suc (suc (suc (suc k))))))) h = absurd (omega arith)

push_own : (count : ℕ) (n : ℤ) → FitsSigned w32 n → IsOwn count (push n)
unfolding opcode_at
push_own count n fits =
    pushed (IsOwn count) n
    (below_7 (λ k. IsOwn count (Plain (ICONST_M1 + k))) (plain count ICONST_M1 (omega arith) refl) (plain count ICONST_0 (omega arith) refl) (plain count ICONST_1 (omega arith) refl) (plain count ICONST_2 (omega arith) refl) (plain count ICONST_3 (omega arith) refl) (plain count ICONST_4 (omega arith) refl) (plain count ICONST_5 (omega arith) refl))
    (λ f. record { fits = f; stays = tt; once = λ insns. refl }) (λ f. record { fits = f; stays = tt; once = λ insns. refl })
    (record { fits = (refl, fits); stays = tt; once = λ insns. refl })

slot_fits : (slot : ℕ) → slot < 2 ^ 16 → FitsSlot (nat_le 256 slot) slot
slot_fits slot few = by (nat_le 256 slot) refl
  where
    by : (b : Bool) → nat_le 256 slot ≡ b → FitsSlot b slot
    by true e = few
    by false e = grind (arith, nat_tests)

-- by the four slots that have opcodes of their own
pub four : (P : ℕ → Type 0) → P 0 → P 1 → P 2 → P 3 → (k : ℕ) → k < 4 → P k
four P a b c d zero h = a
four P a b c d (suc zero) h = b
four P a b c d (suc (suc zero)) h = c
four P a b c d (suc (suc (suc zero))) h = d
four P a b c d (suc (suc (suc (suc k)))) h = absurd (omega arith)

local_own : (count short op slot : ℕ) → ((k : ℕ) → k < 4 → IsOwn count (Plain (short + k))) → IsU1 op → operands_of op ≡ ops.Local → slot < 2 ^ 16
    → IsOwn count (local short op slot)
local_own count short op slot shorts small is few =
    chosen (IsOwn count) (nat_lt slot 4) _ _ (λ e. shorts slot (grind (arith, nat_tests)))
    (λ e. record { fits = (small, is, slot_fits slot few); stays = tt; once = λ insns. refl })

store_number : (count slot : ℕ) → slot < 2 ^ 16 → IsOwn count (local ISTORE_0 ISTORE slot)
unfolding opcode_at
store_number count slot few =
    local_own count ISTORE_0 ISTORE slot
    (four (λ k. IsOwn count (Plain (ISTORE_0 + k))) (plain count _ (omega arith) refl) (plain count _ (omega arith) refl) (plain count _ (omega arith) refl) (plain count _ (omega arith) refl))
    (omega arith) refl few

store_object : (count slot : ℕ) → slot < 2 ^ 16 → IsOwn count (local ASTORE_0 ASTORE slot)
unfolding opcode_at
store_object count slot few =
    local_own count ASTORE_0 ASTORE slot
    (four (λ k. IsOwn count (Plain (ASTORE_0 + k))) (plain count _ (omega arith) refl) (plain count _ (omega arith) refl) (plain count _ (omega arith) refl) (plain count _ (omega arith) refl))
    (omega arith) refl few

load_number : (count slot : ℕ) → slot < 2 ^ 16 → IsOwn count (local ILOAD_0 ILOAD slot)
unfolding opcode_at
load_number count slot few =
    local_own count ILOAD_0 ILOAD slot
    (four (λ k. IsOwn count (Plain (ILOAD_0 + k))) (plain count _ (omega arith) refl) (plain count _ (omega arith) refl) (plain count _ (omega arith) refl) (plain count _ (omega arith) refl))
    (omega arith) refl few

load_object : (count slot : ℕ) → slot < 2 ^ 16 → IsOwn count (local ALOAD_0 ALOAD slot)
unfolding opcode_at
load_object count slot few =
    local_own count ALOAD_0 ALOAD slot
    (four (λ k. IsOwn count (Plain (ALOAD_0 + k))) (plain count _ (omega arith) refl) (plain count _ (omega arith) refl) (plain count _ (omega arith) refl) (plain count _ (omega arith) refl))
    (omega arith) refl few

store_own : (count : ℕ) (kind : Kind) (slot : ℕ) → slot < 2 ^ 16 → IsOwn count (store kind slot)
store_own count kinds.Object slot few = store_object count slot few
store_own count kind slot few = store_number count slot few

load_own : (count : ℕ) (kind : Kind) (slot : ℕ) → slot < 2 ^ 16 → IsOwn count (load kind slot)
load_own count kinds.Object slot few = load_object count slot few
load_own count kind slot few = load_number count slot few

-- an opcode that takes a field, and the field of a variable of this index
variable : (bools : List Bool) (count op var : ℕ) → IsTrue (takes (field bools var) op) → IsU4 var → IsOwn count (Want op (field bools var))
variable bools count op var is small = record { fits = (is, small); stays = tt; once = λ insns. refl }

-- The index of a variable that is asked has 32 bits.
abbrev pub HasIndex : Base → Type 0
HasIndex (bases.Var var) = IsU4 var
HasIndex (bases.Arg i) = ⊤
HasIndex bases.Result = ⊤

base_own : (bools : List Bool) (base count : ℕ) (asks : Base) → HasLocal base asks → HasIndex asks → IsOwn count (push_base bools base asks)
base_own bools base count (bases.Var var) has small = variable bools count GETSTATIC var refl small
base_own bools base count (bases.Arg i) has small = load_number count (base + i) has
base_own bools base count bases.Result has small = load_number count base has

jump : (count op place : ℕ) → IsU1 op → operands_of op ≡ ops.Branch → place ≤ count → IsOwn count (Jump op place)
jump count op place small is within = record { fits = (small, is); stays = within; once = λ insns. refl }

test_own : (count : ℕ) (rel : Rel) (place : ℕ) → place ≤ count → IsOwn count (Jump (negated rel) place)
unfolding opcode_at
test_own count relations.Eq place within = jump count _ place (omega arith) refl within
test_own count relations.Ne place within = jump count _ place (omega arith) refl within
test_own count relations.Lt place within = jump count _ place (omega arith) refl within
test_own count relations.Le place within = jump count _ place (omega arith) refl within
test_own count relations.Gt place within = jump count _ place (omega arith) refl within
test_own count relations.Ge place within = jump count _ place (omega arith) refl within

-- the number of an update
abbrev pub number_of : Update → ℤ
number_of (Set var value) = value
number_of (Add var by) = by

-- What an atom asks stands in a local, and its numbers have 32 bits.
pub record AsksNumber (base : ℕ) (atom : Atom) : Type 0 where
  pub local : HasLocal base atom.base
  pub index : HasIndex atom.base
  pub number : FitsSigned w32 atom.value

pub record MakesNumber (update : Update) : Type 0 where
  pub index : IsU4 (target update)
  pub number : FitsSigned w32 (number_of update)

pub own_rows : (bools : List Bool) (base count : ℕ) → Rows (IsOwn count) (λ slot. slot < 2 ^ 16) (AsksNumber base) MakesNumber bools base count
unfolding opcode_at
own_rows bools base count = record {
  state = record { fits = (refl, tt); stays = tt; once = λ insns. refl };
  enter = plain count _ (omega arith) refl;
  exit = plain count _ (omega arith) refl;
  value = record { fits = grind (arith, ints); stays = tt; once = λ insns. refl };
  way_out = record { fits = (refl, tt); stays = tt; once = λ insns. refl };
  null = plain count _ (omega arith) refl;
  throw = plain count _ (omega arith) refl;
  sum = plain count _ (omega arith) refl;
  stores = store_own count;
  loads = load_own count;
  bases = λ atom asks. base_own bools base count atom.base asks.local asks.index;
  constants = λ atom asks. push_own count atom.value asks.number;
  tests = test_own count;
  leaves = λ place within. jump count _ place (omega arith) refl within;
  sets = λ var value makes. (push_own count value makes.number, variable bools count PUTSTATIC var refl makes.index);
  adds = λ var by makes. (
    variable bools count GETSTATIC var refl makes.index,
    (push_own count by makes.number, variable bools count PUTSTATIC var refl makes.index),
  );
}

-- ---- the variables that they name are there

-- The variable is there, and it is known whether it is a bool.
abbrev pub IsKnown : List Bool → ℕ → Type 0
IsKnown bools var = slice_get bools var ≡ Some (option_map_or (λ (b : Bool). b) (slice_get bools var) false)

abbrev pub Names : List Bool → BlockInsn → Type 0
Names bools insn = IfSome (want_of insn) (NamesVariable bools)

abbrev pub AsksKnown : List Bool → Base → Type 0
AsksKnown bools (bases.Var var) = IsKnown bools var
AsksKnown bools (bases.Arg i) = ⊤
AsksKnown bools bases.Result = ⊤

push_names : (bools : List Bool) (n : ℤ) → Names bools (push n)
push_names bools n = pushed (Names bools) n (λ k few. tt) (λ f. tt) (λ f. tt) tt

local_names : (bools : List Bool) (short op slot : ℕ) → Names bools (local short op slot)
local_names bools short op slot = chosen (Names bools) (nat_lt slot 4) _ _ (λ e. tt) (λ e. tt)

store_names : (bools : List Bool) (kind : Kind) (slot : ℕ) → Names bools (store kind slot)
store_names bools kinds.Object slot = local_names bools ASTORE_0 ASTORE slot
store_names bools kind slot = local_names bools ISTORE_0 ISTORE slot

load_names : (bools : List Bool) (kind : Kind) (slot : ℕ) → Names bools (load kind slot)
load_names bools kinds.Object slot = local_names bools ALOAD_0 ALOAD slot
load_names bools kind slot = local_names bools ILOAD_0 ILOAD slot

base_names : (bools : List Bool) (base : ℕ) (asks : Base) → AsksKnown bools asks → Names bools (push_base bools base asks)
base_names bools base (bases.Var var) known = known
base_names bools base (bases.Arg i) known = local_names bools ILOAD_0 ILOAD (base + i)
base_names bools base bases.Result known = local_names bools ILOAD_0 ILOAD base

pub names_rows : (bools : List Bool) (base count : ℕ)
    → Rows (Names bools) (λ slot. ⊤) (λ atom. AsksKnown bools atom.base) (λ update. IsKnown bools (target update)) bools base count
names_rows bools base count = record {
  state = tt;
  enter = tt;
  exit = tt;
  value = tt;
  way_out = tt;
  null = tt;
  throw = tt;
  sum = tt;
  stores = λ kind slot ok. store_names bools kind slot;
  loads = λ kind slot ok. load_names bools kind slot;
  bases = λ atom known. base_names bools base atom.base known;
  constants = λ atom known. push_names bools atom.value;
  tests = λ rel place within. tt;
  leaves = λ place within. tt;
  sets = λ var value known. (push_names bools value, known);
  adds = λ var by known. (known, (push_names bools by, known));
}
