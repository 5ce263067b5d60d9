use Rattle.woven_linking.proofs.Laid.{laid_out}
use Rattle.woven_linking.proofs.laws.origins_are_laid_out.Goals as goal

pub returns : goal.returns
returns c = record { laid = laid_out }
