use Rattle.guest_model.proofs.Linked.{linked_keeps_words, linked_sees_in_range}
use Rattle.guest_model.proofs.laws.sees_numbers_in_range.Goals as goal

pub returns : goal.returns
returns c = record { sees = linked_sees_in_range; locals = linked_keeps_words }
