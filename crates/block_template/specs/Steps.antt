-- What a comparison and an update do, step by step: an instruction, and what stands on the operand stack before it. Sizes, instructions, types
-- and notes are all told of these steps. (docs/BLOCKS.md)
use Rattle.std.specs.Prelude.{ℕ, ◌+◌, Bool, List, [], ◌∷◌, length, Option, slice_get, option_map}
use Rattle.std.specs.Option.{option_map_or}
use Rattle.conspec_tree.specs.declared.types.Atom.{Atom}
use Rattle.conspec_tree.specs.declared.types.Base.TheVariants as bases
use Rattle.conspec_tree.specs.declared.types.Update.{Update}
use Rattle.conspec_tree.specs.declared.types.Update.TheVariants.{Set, Add}
use Rattle.insn_codec.specs.declared.opcodes.TheConstants.{IADD, PUTSTATIC}
use Rattle.offset_patch.specs.declared.block.BlockInsn.{BlockInsn}
use Rattle.offset_patch.specs.declared.block.BlockInsn.TheVariants.{Plain, Want, Jump}
use Rattle.block_template.specs.declared.item.Item.{Item}
use Rattle.block_template.specs.declared.item.Role.{Role}
use Rattle.block_template.specs.declared.steps.Act.{Act}
use Rattle.block_template.specs.declared.steps.Act.TheVariants.{PushBase, PushNumber, JumpUnless, AddNumbers, WriteVar}
use Rattle.block_template.specs.declared.steps.Operand.{Operand}
use Rattle.block_template.specs.declared.steps.Operand.TheVariants as operands
use Rattle.block_template.specs.declared.steps.Step.{Step}
use Rattle.block_template.specs.Pushing.{push, push_base, field, negated}

-- ---- the steps

abbrev pub step : Act → List Operand → Step
step act stack = record { act = act; stack = stack }

-- The atom's base and its number are pushed and compared.
abbrev pub ask_steps : Atom → List Step
ask_steps atom =
    step (PushBase atom.base) []
    ∷ step (PushNumber atom.value) (operands.Base atom.base ∷ [])
    ∷ step (JumpUnless atom.rel) (operands.Base atom.base ∷ operands.Number atom.value ∷ [])
    ∷ []

-- A variable is set to a number, or a number is added to it.
abbrev pub update_steps : Update → List Step
update_steps (Set var value) =
    step (PushNumber value) []
    ∷ step (WriteVar var) (operands.Number value ∷ [])
    ∷ []
update_steps (Add var by) =
    step (PushBase (bases.Var var)) []
    ∷ step (PushNumber by) (operands.Base (bases.Var var) ∷ [])
    ∷ step AddNumbers (operands.Base (bases.Var var) ∷ operands.Number by ∷ [])
    ∷ step (WriteVar var) (operands.Sum var by ∷ [])
    ∷ []

-- ---- what is told of them

abbrev pub ask_size : Atom → ℕ
ask_size atom = length (ask_steps atom)

abbrev pub update_size : Update → ℕ
update_size update = length (update_steps update)

-- The arguments stand in locals from `base` on; a jump goes to the place `to`.
abbrev pub act_insn : List Bool → ℕ → ℕ → Act → BlockInsn
act_insn bools base to (PushBase asked) = push_base bools base asked
act_insn bools base to (PushNumber n) = push n
act_insn bools base to (JumpUnless rel) = Jump (negated rel) to
act_insn bools base to AddNumbers = Plain IADD
act_insn bools base to (WriteVar var) = Want PUTSTATIC (field bools var)

-- the instruction of the step of this number
abbrev pub step_insn : List Bool → ℕ → ℕ → List Step → ℕ → Option BlockInsn
step_insn bools base to steps done = option_map (λ (s : Step). act_insn bools base to s.act) (slice_get steps done)

-- what stands on the stack before it
abbrev pub stack_before : List Step → ℕ → List Operand
stack_before steps done = option_map_or (λ (s : Step). s.stack) (slice_get steps done) []

-- The steps as items, of which so many are done; `role` tells what is so before each.
abbrev pub laid : List Bool → ℕ → ℕ → (ℕ → Role) → ℕ → List Step → List Item
laid bools base to role done [] = []
laid bools base to role done (s ∷ steps) =
    record { insn = act_insn bools base to s.act; role = role done } ∷ laid bools base to role (done + 1) steps
