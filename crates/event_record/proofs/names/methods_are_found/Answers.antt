use Rattle.event_record.proofs.Indices.{first_is_index, index_is_first}
use Rattle.event_record.proofs.names.methods_are_found.Goals as goal

pub returns-clause-found : goal.returns-clause-found
returns-clause-found c = index_is_first

pub returns-clause-only : goal.returns-clause-only
returns-clause-only c = first_is_index
