use Rattle.block_logic.proofs.Obeyed.{accepted_obeys, lock_is_held, lock_orders}
use Rattle.block_logic.proofs.Whole.{proved}
use Rattle.block_logic.proofs.laws.accepted_obeys.Goals as goal

pub returns : goal.returns
returns c = record {
  obeys = accepted_obeys (proved c.seen_is_enough.ensures.seen);
  orders = lock_orders (proved c.seen_is_enough.ensures.seen);
  held = lock_is_held (proved c.seen_is_enough.ensures.seen);
}
