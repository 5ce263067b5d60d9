use Rattle.woven_linking.proofs.Original.{free}
use Rattle.woven_linking.proofs.laws.original_is_free.Goals as goal

pub returns : goal.returns
returns c = record { free = free }
