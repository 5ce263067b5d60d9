use Rattle.guest_model.proofs.Staying.{other_threads_stay}
use Rattle.guest_model.proofs.laws.other_threads_stay.Goals as goal

pub returns : goal.returns
returns c = record { stay = other_threads_stay }
