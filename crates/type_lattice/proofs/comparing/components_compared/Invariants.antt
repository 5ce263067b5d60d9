use Rattle.std.proofs.Common.{◌≡◌, ℕ, Bool, List, length}
use Rattle.type_lattice.specs.Components.{component_by}
use Rattle.type_lattice.proofs.comparing.components_compared.Given as goal

abbrev pub invariant-loop-below : goal.invariant-loop-below
invariant-loop-below l = (asked : List ℕ → List ℕ → Bool) → component_by asked l.from l.to ≡ component_by asked l.fn.from l.fn.to

abbrev pub decreases-loop-below : goal.decreases-loop-below
decreases-loop-below l = length l.from
