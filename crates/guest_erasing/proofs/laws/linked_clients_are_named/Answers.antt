use Rattle.guest_erasing.proofs.Clients.{client_named}
use Rattle.guest_erasing.proofs.laws.linked_clients_are_named.Goals as goal

pub returns : goal.returns
returns c = record { named = λ text main client listed linked sound order. client_named client main linked sound text listed order }
