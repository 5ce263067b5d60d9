-- A block that runs by itself, up to the client's call, off its end, or until it throws or stops the program. Its jumps go forward.
-- (docs/BLOCKS.md)
use Rattle.std.specs.Prelude.{ℕ, zero, suc, ℤ, ◌+◌, ◌-◌, nat_lt, if◌then◌else◌, List, [], ◌∷◌}
use Rattle.offset_patch.specs.declared.block.BlockInsn.{BlockInsn}
use Rattle.guest_heap.specs.declared.value.Value.{Value}
use Rattle.block_runs.specs.Spots.{Spot, Went, Goes, Calls, Throws, Stops, Stuck, block_insn_stepped}

-- how a run ends
pub data End : Type 0 where
  -- at the client's call, which stands at this place
  Called : ℕ → Spot → End
  -- after the last instruction
  Left : Spot → End
  Thrown : Value → Spot → End
  Stopped : ℤ → End
  Lost : End

-- The run goes on by `on`, which is told how many of the instructions that follow are jumped over.
abbrev pub gone : (ℕ → Spot → End) → ℕ → Spot → Went → End
gone on at spot (Goes place after) = if nat_lt at place then on (place - (at + 1)) after else Lost
gone on at spot Calls = Called at spot
gone on at spot (Throws v) = Thrown v spot
gone on at spot (Stops status) = Stopped status
gone on at spot Stuck = Lost

-- the run of these instructions, of which the first stands at `at`, once so many of them are jumped over
unfoldable pub block_run : ℕ → List BlockInsn → ℕ → ℕ → Spot → End
block_run state [] at zero spot = Left spot
block_run state [] at (suc skip) spot = Lost
block_run state (insn ∷ insns) at zero spot = gone (block_run state insns (at + 1)) at spot (block_insn_stepped state (at + 1) spot insn)
block_run state (insn ∷ insns) at (suc skip) spot = block_run state insns (at + 1) skip spot

-- the run from this place of a block on
abbrev pub run_from : ℕ → List BlockInsn → ℕ → Spot → End
run_from state insns place spot = block_run state insns 0 place spot
