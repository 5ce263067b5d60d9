use Rattle.guest_model.proofs.Seeing.{events_are_of_their_thread}
use Rattle.guest_model.proofs.laws.events_are_of_their_thread.Goals as goal

pub returns : goal.returns
returns c = record { own = events_are_of_their_thread }
