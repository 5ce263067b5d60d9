-- Plans: which instructions of a program have a block, and which. What splicing needs of blocks is said of any plan.
-- (docs/BLOCKS.md)
use Rattle.std.specs.Prelude.{◌≡◌, ◌+◌, ◌<◌, ◌^◌, ℕ, Bool, true, is_some, slice_get, List, Option, Some, ⊤}
use Rattle.std.specs.List.{AllByRecursion}
use Rattle.bytecode_model.specs.declared.program.Target.{Target}
use Rattle.bytecode_model.specs.declared.program.Target.TheVariants as target
use Rattle.offset_patch.specs.declared.block.Block.{Block}
use Rattle.offset_patch.specs.declared.block.PoolWant.{PoolWant}
use Rattle.offset_patch.specs.declared.block.PoolWant.TheVariants as wants
use Rattle.offset_patch.specs.Fits.{IsSite}
use Rattle.offset_patch.specs.Splicing.{block_wants}

pub record Plan : Type 0 where
  -- whether an instruction has a block, by what its operand names
  pub has_block : Target → Bool
  -- how many locals that block uses
  pub locals : Target → ℕ
  -- its block, in a method whose own locals end at this number
  pub block : ℕ → Target → Option Block

-- The operand names a method of the listing.
abbrev pub IsListedCall : Target → Type 0
IsListedCall target.None = ⊥
IsListedCall (target.ApiMethod method) = ⊤
IsListedCall (target.Builtin method) = ⊥
IsListedCall (target.Method class method) = ⊥
IsListedCall (target.Field class field) = ⊥
IsListedCall (target.ApiField field) = ⊥
IsListedCall (target.ClassName name) = ⊥
IsListedCall (target.Number n) = ⊥
IsListedCall (target.Literal index) = ⊥

-- A variable that a block names is one of conspec/State, which says of each whether it is a bool.
abbrev pub NamesVariable : List Bool → PoolWant → Type 0
NamesVariable kinds (wants.StateField var is_bool) = slice_get kinds var ≡ Some is_bool
NamesVariable kinds wants.StateClass = ⊤
NamesVariable kinds wants.Exit = ⊤
NamesVariable kinds (wants.Integer n) = ⊤

-- Calls of listed methods alone have blocks, and these can be spliced, of a program whose conspec/State has such variables.
pub record IsGood (kinds : List Bool) (plan : Plan) : Type 0 where
  pub there : (base : ℕ) (ref : Target) → is_some (plan.block base ref) ≡ plan.has_block ref
  pub calls : (ref : Target) → plan.has_block ref ≡ true → IsListedCall ref
  pub fits : (base : ℕ) (ref : Target) → base + plan.locals ref < 2 ^ 16 → IsSite (plan.block base ref)
  pub names : (base : ℕ) (ref : Target) → AllByRecursion (NamesVariable kinds) (block_wants (plan.block base ref))
