-- Where control goes after an instruction that works on its frame alone. (The Java Virtual Machine Specification,
-- section 6.5.)
use Rattle.std.specs.Prelude.{ℕ, ℤ, pos, ◌+◌, ◌+ℤ◌, Bool, false, not, if◌then◌else◌, int_lt, int_le, List, [], ◌∷◌, ◌++◌, slice_get}
use Rattle.std.specs.Bool.{beq}
use Rattle.std.specs.Ordering.{int_eq}
use Rattle.std.specs.Option.{option_map_or}
use Rattle.insn_codec.specs.declared.insn.Insn.{Insn}
use Rattle.insn_codec.specs.declared.insn.Insn.TheVariants as insns
use Rattle.insn_codec.specs.Opcodes.{goes_on}
use Rattle.insn_codec.specs.Encoding.{opcode_of}
use Rattle.insn_codec.specs.declared.shape.Relation.{Relation}
use Rattle.insn_codec.specs.declared.shape.Relation.TheVariants as relations
use Rattle.insn_codec.specs.declared.shape.Shape.{Shape}
use Rattle.insn_codec.specs.declared.shape.Shape.TheVariants as shapes
use Rattle.insn_codec.specs.Shapes.{shape_of}

-- ---- comparing

abbrev pub relates : Relation → ℤ → ℤ → Bool
relates relations.Equal x y = int_eq x y
relates relations.NotEqual x y = not (int_eq x y)
relates relations.Less x y = int_lt x y
relates relations.GreaterOrEqual x y = int_le y x
relates relations.Greater x y = int_lt y x
relates relations.LessOrEqual x y = int_le x y

-- what a jump sees of an operand: its number, whether it is null, and whether two are of one object
pub record View (V : Type 0) : Type 0 where
  pub number : V → ℤ
  pub is_null : V → Bool
  pub are_one : V → V → Bool

-- a test of the topmost operand, and of the two topmost; false where they are not there
abbrev pub of_top : {V : Type 0} → (V → Bool) → List V → Bool
of_top test stack = option_map_or test (slice_get stack 0) false

abbrev pub of_two : {V : Type 0} → (V → V → Bool) → List V → Bool
of_two test stack = option_map_or (λ y. option_map_or (λ x. test x y) (slice_get stack 1) false) (slice_get stack 0) false

-- ---- switches

-- the target of a number among those from `low` on, or the other
abbrev pub in_range : ℕ → ℤ → List ℕ → ℤ → ℕ
in_range other low [] n = other
in_range other low (to ∷ targets) n = if int_eq low n then to else in_range other (low +ℤ pos 1) targets n

-- the target of the key that the number is, or the other
abbrev pub by_key : ℕ → List ℤ → List ℕ → ℤ → ℕ
by_key other [] targets n = other
by_key other (key ∷ keys) [] n = other
by_key other (key ∷ keys) (to ∷ targets) n = if int_eq key n then to else by_key other keys targets n

abbrev pub switched : Insn → ℤ → ℕ → ℕ
switched (insns.Table other low targets) n next = in_range other low targets n
switched (insns.Lookup other keys targets) n next = by_key other keys targets n
switched (insns.Plain op) n next = next
switched (insns.Byte number) n next = next
switched (insns.Short number) n next = next
switched (insns.Ldc index) n next = next
switched (insns.Pool op index) n next = next
switched (insns.Iface index count) n next = next
switched (insns.Local op slot wide) n next = next
switched (insns.Inc slot by wide) n next = next
switched (insns.Branch op to) n next = next
switched (insns.GotoW to) n next = next
switched (insns.NewArray item) n next = next

-- ---- where control goes

-- the index of the instruction that comes after one at this index, by its shape and the operands before it
abbrev pub goes_to : {V : Type 0} → View V → Insn → Shape → ℕ → List V → ℕ
goes_to view insn (shapes.Test relation to) next stack = if of_top (λ x. relates relation (view.number x) (pos 0)) stack then to else next
goes_to view insn (shapes.Compare relation to) next stack = if of_two (λ x y. relates relation (view.number x) (view.number y)) stack then to else next
goes_to view insn (shapes.CompareReferences same to) next stack = if of_two (λ x y. beq (view.are_one x y) same) stack then to else next
goes_to view insn (shapes.TestNull null to) next stack = if of_top (λ x. beq (view.is_null x) null) stack then to else next
goes_to view insn (shapes.Goto to) next stack = to
goes_to view insn shapes.Switch next stack = switched insn (option_map_or view.number (slice_get stack 0) (pos 0)) next
goes_to view insn shapes.Nothing next stack = next
goes_to view insn (shapes.Push n) next stack = next
goes_to view insn shapes.PushNull next stack = next
goes_to view insn (shapes.Load kind slot) next stack = next
goes_to view insn (shapes.Store kind slot) next stack = next
goes_to view insn (shapes.Move form) next stack = next
goes_to view insn (shapes.Two two) next stack = next
goes_to view insn (shapes.One one) next stack = next
goes_to view insn (shapes.Increment slot by) next stack = next
goes_to view insn (shapes.Heap what) next stack = next

abbrev pub next_of : {V : Type 0} → View V → Insn → ℕ → List V → ℕ
next_of view insn at stack = goes_to view insn (shape_of insn) (at + 1) stack

-- ---- where it may go

abbrev pub jump_targets : Insn → List ℕ
jump_targets (insns.Branch op to) = to ∷ []
jump_targets (insns.GotoW to) = to ∷ []
jump_targets (insns.Table other low targets) = other ∷ targets
jump_targets (insns.Lookup other keys targets) = other ∷ targets
jump_targets (insns.Plain op) = []
jump_targets (insns.Byte n) = []
jump_targets (insns.Short n) = []
jump_targets (insns.Ldc index) = []
jump_targets (insns.Pool op index) = []
jump_targets (insns.Iface index count) = []
jump_targets (insns.Local op slot wide) = []
jump_targets (insns.Inc slot by wide) = []
jump_targets (insns.NewArray item) = []

-- the next instruction, where control can go on to it, and the targets
abbrev pub successors : ℕ → Insn → List ℕ
successors at insn = (if goes_on (opcode_of insn) then (at + 1) ∷ [] else []) ++ jump_targets insn
