use Rattle.guest_model.proofs.Leaving.{leaves_as_many}
use Rattle.guest_model.proofs.Moving.{ready_steps}
use Rattle.guest_model.proofs.HeapOperations.{ready_operates}
use Rattle.guest_model.proofs.laws_of_steps.what_is_ready_moves.Goals as goal

pub returns : goal.returns
returns c = record { comes = ready_operates; leaves = leaves_as_many; steps = ready_steps }
