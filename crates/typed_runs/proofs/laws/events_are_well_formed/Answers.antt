use Rattle.typed_runs.proofs.Formed.{sees_well_formed}
use Rattle.typed_runs.proofs.laws.events_are_well_formed.Goals as goal

pub returns : goal.returns
returns c = record { formed = sees_well_formed c.uses_are_shaped.ensures.shaped c.sees_numbers_in_range.ensures.sees }
