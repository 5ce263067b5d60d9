use Rattle.listing_text.proofs.FirstFault.{fault_is_final, fault_stays, missing_stays}
use Rattle.listing_text.proofs.laws.faults_stay.Goals as goal

pub returns-clause-told : goal.returns-clause-told
returns-clause-told c = fault_stays

pub returns-clause-refused : goal.returns-clause-refused
returns-clause-refused c = fault_is_final

pub returns-clause-missing : goal.returns-clause-missing
returns-clause-missing c = missing_stays
