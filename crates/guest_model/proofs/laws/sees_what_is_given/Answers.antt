use Rattle.guest_model.proofs.Listed.{sees_listed}
use Rattle.guest_model.proofs.Seeing.{sees_given}
use Rattle.guest_model.proofs.laws.sees_what_is_given.Goals as goal

pub returns : goal.returns
returns c = record { sees = sees_given; listed = sees_listed }
