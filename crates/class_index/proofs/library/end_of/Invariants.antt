use Rattle.class_index.proofs.Sharing.{LeadsTo}
use Rattle.class_index.proofs.library.end_of.Given as goal

abbrev pub invariant-loop-steps : goal.invariant-loop-steps
invariant-loop-steps l = LeadsTo l.owners l.classes l.name l.steps l.at
