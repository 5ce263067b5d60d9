use Rattle.guest_model.proofs.Counting.{few_are_added, sees_few_objects, steps_add_one}
use Rattle.guest_model.proofs.laws.steps_add_one.Goals as goal

pub returns : goal.returns
returns c = record { one = steps_add_one; few = few_are_added; shown = sees_few_objects }
