use Rattle.class_index.proofs.Declaring.{from_empty}
use Rattle.class_index.proofs.declared.first_declared.Goals as goal

pub returns : goal.returns
returns c = λ q. from_empty c.new-found.result q _ _ c.new-found.ensures.empty (c.in_ok-add_declared.ensures q)
