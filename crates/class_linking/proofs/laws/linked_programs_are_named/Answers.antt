use Rattle.class_linking.proofs.LinkedWhole.{all_linked}
use Rattle.class_linking.proofs.laws.linked_programs_are_named.Goals as goal

pub returns : goal.returns
returns c = record { named = all_linked }
