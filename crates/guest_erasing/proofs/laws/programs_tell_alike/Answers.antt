use Rattle.guest_erasing.proofs.Telling.{tell_alike}
use Rattle.guest_erasing.proofs.laws.programs_tell_alike.Goals as goal

pub returns : goal.returns
returns c = record { alike = λ sites_of client woven adds named. tell_alike sites_of client woven adds named }
