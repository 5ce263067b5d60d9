use Rattle.block_runs.proofs.Clients.Starting.{client_named_so, starts_begin}
use Rattle.block_runs.proofs.laws.clients_start_alike.Goals as goal

pub returns : goal.returns
returns c = λ client typing is sites_of woven adds starts.
    let named = client_named_so c.linked_clients_are_named.ensures.named client typing is in
    c.machines_start_alike.ensures sites_of client woven adds (c.programs_tell_alike.ensures.alike sites_of client woven adds named) starts
    (starts_begin c.typed_programs_run.ensures.fit client typing is)
