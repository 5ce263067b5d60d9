-- Which instruction begins at a position, as the code keeps it: a mark for each byte.
-- (The Java Virtual Machine Specification, section 6.5)
use Rattle.std.specs.Prelude.{ℕ, ℤ, pos, negsuc, ◌+◌, ◌-◌, List, [], ◌∷◌, ◌++◌, replicate, Option, Some, None, slice_get}
use Rattle.insn_codec.specs.declared.insn.Insn.{Insn}
use Rattle.insn_codec.specs.declared.targets.Targets.{Targets}
use Rattle.insn_codec.specs.declared.targets.Targets.TheVariants.{Any, Among}
use Rattle.insn_codec.specs.Encoding.{size}

abbrev pub mark : Option (Option ℕ) → Option ℕ
mark None = None
mark (Some at) = at

abbrev pub finds : Targets → ℤ → Option ℕ
finds Any position = Some 0
finds (Among marks) (pos p) = mark (slice_get marks.items p)
finds (Among marks) (negsuc n) = None

-- the marks of the instructions from `at` on, the first of which is the instruction `number`
unfoldable pub marks_from : ℕ → ℕ → List Insn → List (Option ℕ)
marks_from number at [] = []
marks_from number at (first ∷ others) =
    Some number ∷ (replicate (size at first - 1) None ++ marks_from (number + 1) (at + size at first) others)
