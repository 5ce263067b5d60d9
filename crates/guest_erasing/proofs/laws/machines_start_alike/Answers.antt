use Rattle.guest_erasing.proofs.Starting.{starts_mirror}
use Rattle.guest_erasing.proofs.laws.machines_start_alike.Goals as goal

pub returns : goal.returns
returns c = starts_mirror
