use Rattle.woven_linking.proofs.Whole.{links}
use Rattle.woven_linking.proofs.laws.woven_files_link.Goals as goal

pub returns : goal.returns
returns c = record { links = links }
