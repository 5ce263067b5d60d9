use Rattle.guest_model.proofs.Ends.{ends_where_none_is_enabled}
use Rattle.guest_model.proofs.laws_of_steps.ends_where_none_is_enabled.Goals as goal

pub returns : goal.returns
returns c = record { ends = ends_where_none_is_enabled }
