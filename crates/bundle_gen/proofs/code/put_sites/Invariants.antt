use Rattle.std.proofs.Common.{◌≡◌, ◌++◌}
use Rattle.bundle_gen.specs.Draws.{state_after}
use Rattle.bundle_gen.specs.Generated.{sites_from}
use Rattle.bundle_gen.proofs.code.put_sites.Given as goal

abbrev pub invariant-loop-left : goal.invariant-loop-left
invariant-loop-left l = record {
  so_far : l.code ++ sites_from l.state l.left ≡ l.fn.code ++ sites_from l.fn.first l.fn.sites;
  after : state_after l.state l.left ≡ state_after l.fn.first l.fn.sites;
}

abbrev pub decreases-loop-left : goal.decreases-loop-left
decreases-loop-left l = l.left
