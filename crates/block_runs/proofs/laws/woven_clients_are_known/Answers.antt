use Rattle.block_runs.proofs.WovenClients.{woven_fits, woven_known, woven_starts}
use Rattle.block_runs.proofs.laws.woven_clients_are_known.Goals as goal

pub returns : goal.returns
returns c = record {
  known = woven_known c.plans_are_good.ensures c.uses_are_shaped.ensures.shaped;
  room = woven_fits;
  start = woven_starts c.plans_are_good.ensures;
}
