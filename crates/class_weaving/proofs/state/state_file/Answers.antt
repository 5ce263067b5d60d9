use Rattle.std.proofs.Common.{refl}
use Rattle.class_weaving.proofs.state.state_file.Goals as goal

pub returns : goal.returns
returns c = rw (c.in_ok-put_values.ensures, c.in_ok-pool.ensures, c.in_ok-fields.ensures, c.new.ensures, c.new-2.ensures, c.new-3.ensures) refl
