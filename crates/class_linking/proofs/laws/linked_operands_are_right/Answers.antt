use Rattle.class_linking.proofs.LinkedCalls.{all_right}
use Rattle.class_linking.proofs.laws.linked_operands_are_right.Goals as goal

pub returns : goal.returns
returns c = record { right = all_right }
