-- The blocks that a good plan gives to the instructions of a method.
use Rattle.std.proofs.Common.{◌≡◌, ℕ, ◌+◌, ◌<◌, ◌≤◌, ◌^◌, Bool, true, List, [], ◌∷◌, length, map, Option, Some, None, arith}
use Rattle.std.specs.List.{AllByRecursion, list_any}
use Rattle.bytecode_model.specs.declared.program.Target.{Target}
use Rattle.offset_patch.specs.declared.block.Block.{Block}
use Rattle.offset_patch.specs.Fits.{IsSite}
use Rattle.offset_patch.specs.Plan.{Plan, IsGood}
use Rattle.offset_patch.proofs.Sizing.{StaysIn}
use Rattle.class_weaving.specs.Woven.{most_locals}

-- where the locals of each fit, each can be spliced
pub refs_fit : (kinds : List Bool) (plan : Plan) → IsGood kinds plan → (base : ℕ) (refs : List Target) → base + most_locals plan refs < 2 ^ 16
    → AllByRecursion IsSite (map (plan.block base) refs)
refs_fit kinds plan good base [] few = tt
refs_fit kinds plan good base (ref ∷ refs) few = (good.fits base ref (omega arith), refs_fit kinds plan good base refs (omega arith))

pub refs_some : (p : Target → Bool) (refs : List Target) → list_any p refs ≡ true → 1 ≤ length refs
refs_some p [] e = absurd cc
refs_some p (ref ∷ refs) e = omega arith

-- none of them jumps out of itself
pub sites_stay : (sites : List (Option Block)) → AllByRecursion IsSite sites → AllByRecursion StaysIn sites
sites_stay [] h = tt
sites_stay (None ∷ sites) h = (tt, sites_stay sites h.1)
sites_stay (Some block ∷ sites) h = (h.0.jumps, sites_stay sites h.1)
