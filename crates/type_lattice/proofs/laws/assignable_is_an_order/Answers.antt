use Rattle.type_lattice.proofs.Alone.{thrown_alone}
use Rattle.type_lattice.proofs.Orders.{itself, type_over}
use Rattle.type_lattice.proofs.laws.assignable_is_an_order.Goals as goal

pub returns : goal.returns
returns c = record { reflexive = itself; transitive = type_over; thrown = thrown_alone }
