use Rattle.block_runs.proofs.AcceptedRuns.{accepted_lifted}
use Rattle.block_runs.proofs.laws.accepted_runs_are_lifted.Goals as goal

pub returns : goal.returns
returns c =
    accepted_lifted c.clients_are_roomy.ensures c.clients_keep_their_machine.ensures c.clients_fit.ensures c.clients_start_alike.ensures
    c.woven_clients_are_known.ensures.known c.woven_clients_are_known.ensures.start c.waiting_threads_stand_at_calls.ensures.start
    c.runs_are_lifted.ensures c.mirrors_are_erased.ensures
