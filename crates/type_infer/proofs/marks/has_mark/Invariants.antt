use Rattle.std.proofs.Common.{◌≡◌, ℕ, ◌*◌, ◌<◌, ◌≤◌, false}
use Rattle.type_infer.specs.Solving.{is_marked}
use Rattle.type_infer.proofs.marks.has_mark.Given as goal

abbrev pub invariant-loop-at : goal.invariant-loop-at
invariant-loop-at l = (k : ℕ) → 64 * l.group ≤ k → k < l.at → is_marked l.marks k ≡ false
