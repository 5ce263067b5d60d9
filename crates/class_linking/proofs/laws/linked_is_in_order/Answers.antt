use Rattle.class_linking.proofs.LinkedOrder.{linked_in_order}
use Rattle.class_linking.proofs.laws.linked_is_in_order.Goals as goal

pub returns : goal.returns
returns c = record { ordered = linked_in_order }
