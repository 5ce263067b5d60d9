use Rattle.std.proofs.Common.{◌≡◌, ◌≤◌, take}
use Rattle.std.specs.Prelude.{count_by}
use Rattle.block_logic.specs.Operands.{has_clause}
use Rattle.cert_checker.proofs.checking.sites_in_method.Given as goal

abbrev pub invariant-loop-target : goal.invariant-loop-target
invariant-loop-target l = (l.sites ≡ count_by (has_clause l.policy) (take l.target-index l.method.refs)) × (l.sites ≤ l.target-index)
