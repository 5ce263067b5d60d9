use Rattle.block_runs.proofs.Clients.Machines.{machines_are_clients}
use Rattle.block_runs.proofs.laws.clients_keep_their_machine.Goals as goal

pub returns : goal.returns
returns c = machines_are_clients c.typed_programs_run.ensures.fit
