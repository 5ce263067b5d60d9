use Rattle.guest_model.proofs.Catching.{handlers_cover}
use Rattle.guest_model.proofs.laws.handlers_cover.Goals as goal

pub returns : goal.returns
returns c = record { cover = handlers_cover }
