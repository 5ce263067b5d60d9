use Rattle.block_runs.proofs.Clients.Roomy.{client_roomy}
use Rattle.block_runs.proofs.laws.clients_are_roomy.Goals as goal

pub returns : goal.returns
returns c = λ client typing is. client_roomy client typing is c.uses_are_shaped.ensures.shaped
