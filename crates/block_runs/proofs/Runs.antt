-- Runs of instructions: the next one, a jump, and what is jumped over.
use Rattle.std.proofs.Common.{◌≡◌, ℕ, suc, ◌+◌, ◌-◌, Bool, true, List, [], ◌∷◌, ◌++◌, length, refl, ap, ◌∙◌, arith}
use Rattle.std.specs.Prelude.{nat_lt, if◌then◌else◌}
use Rattle.std.proofs.lemmas.Bool.Decides.{nat_tests}
use Rattle.offset_patch.specs.declared.block.BlockInsn.{BlockInsn}
use Rattle.offset_patch.specs.declared.block.BlockInsn.TheVariants.{Call}
use Rattle.block_runs.specs.Spots.{Spot, Goes, block_insn_stepped}
use Rattle.block_runs.specs.Running.{Called, Left, Lost, block_run, gone}

module _ (state : ℕ) where
  -- A jump goes over so many instructions.
  pub run_jumps : (insn : BlockInsn) (insns : List BlockInsn) (at place skip : ℕ) (spot after : Spot)
      → block_insn_stepped state (at + 1) spot insn ≡ Goes place after → place ≡ at + 1 + skip
      → block_run state (insn ∷ insns) at 0 spot ≡ block_run state insns (at + 1) skip after
  unfolding block_run
  run_jumps insn insns at place skip spot after e is =
      let forward : nat_lt at place ≡ true = grind (arith, nat_tests) in
      let far : place - (at + 1) ≡ skip = omega (arith, is) in
      ap (gone (block_run state insns (at + 1)) at spot) e
      ∙ ap (λ (b : Bool). if b then block_run state insns (at + 1) (place - (at + 1)) after else Lost) forward
      ∙ ap (λ (n : ℕ). block_run state insns (at + 1) n after) far

  pub run_next : (insn : BlockInsn) (insns : List BlockInsn) (at : ℕ) (spot after : Spot)
      → block_insn_stepped state (at + 1) spot insn ≡ Goes (at + 1) after
      → block_run state (insn ∷ insns) at 0 spot ≡ block_run state insns (at + 1) 0 after
  run_next insn insns at spot after e = run_jumps insn insns at (at + 1) 0 spot after e (omega arith)

  -- What is jumped over does nothing.
  pub run_over : (xs ys : List BlockInsn) (at skip : ℕ) (spot : Spot)
      → block_run state (xs ++ ys) at (length xs + skip) spot ≡ block_run state ys (at + length xs) skip spot
  unfolding block_run
  run_over [] ys at skip spot =
      let none : length {A = BlockInsn} [] + skip ≡ skip = omega arith in
      let here : at ≡ at + length {A = BlockInsn} [] = omega arith in
      ap (λ (n : ℕ). block_run state ys at n spot) none ∙ ap (λ (n : ℕ). block_run state ys n skip spot) here
  run_over (x ∷ xs) ys at skip spot =
      let more : length (x ∷ xs) + skip ≡ suc (length xs + skip) = omega arith in
      let there : at + 1 + length xs ≡ at + length (x ∷ xs) = omega arith in
      ap (λ (n : ℕ). block_run state (x ∷ (xs ++ ys)) at n spot) more ∙ run_over xs ys (at + 1) skip spot
      ∙ ap (λ (n : ℕ). block_run state ys n skip spot) there

  -- Where all is jumped over, the end is reached.
  pub run_past : (xs : List BlockInsn) (at : ℕ) (spot : Spot) → block_run state xs at (length xs) spot ≡ Left spot
  unfolding block_run
  run_past [] at spot = refl
  run_past (x ∷ xs) at spot = run_past xs (at + 1) spot

  pub run_one_over : (insn : BlockInsn) (insns : List BlockInsn) (at skip : ℕ) (spot : Spot)
      → block_run state (insn ∷ insns) at (suc skip) spot ≡ block_run state insns (at + 1) skip spot
  unfolding block_run
  run_one_over insn insns at skip spot = refl

  pub run_calls : (insns : List BlockInsn) (at : ℕ) (spot : Spot) → block_run state (Call ∷ insns) at 0 spot ≡ Called at spot
  unfolding block_run
  run_calls insns at spot = refl
