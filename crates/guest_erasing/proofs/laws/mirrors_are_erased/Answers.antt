use Rattle.guest_erasing.proofs.Erased.{erased_is}
use Rattle.guest_erasing.proofs.laws.mirrors_are_erased.Goals as goal

pub returns : goal.returns
returns c = erased_is
