use Rattle.event_record.proofs.FirstFault.{end_is_missed, fault_stays}
use Rattle.event_record.proofs.laws.faults_stay.Goals as goal

pub returns-clause-stays : goal.returns-clause-stays
returns-clause-stays c = fault_stays

pub returns-clause-missed : goal.returns-clause-missed
returns-clause-missed c = end_is_missed
