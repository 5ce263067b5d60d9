-- The branches of guards, one guard more.
use Rattle.std.proofs.Common.{◌≡◌, ◌+◌, List, [], ◌∷◌, ◌++◌, length, arith}
use Rattle.conspec_tree.specs.declared.types.Guard.{Guard}
use Rattle.conspec_tree.specs.Guards.{branches}

pub branches_more : (guards : List Guard) (g : Guard) → branches (guards ++ g ∷ []) ≡ branches guards + length g.conjs
branches_more [] g = omega arith
branches_more (h ∷ guards) g = let e = branches_more guards g in omega (arith, e)
