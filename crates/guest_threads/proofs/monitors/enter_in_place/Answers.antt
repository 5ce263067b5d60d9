use Rattle.guest_threads.proofs.Held.{enters_there}
use Rattle.guest_threads.proofs.Keys.{keys_set}
use Rattle.guest_threads.proofs.monitors.enter_in_place.Goals as goal

pub returns-clause-is : goal.returns-clause-is
returns-clause-is c =
    enters_there c.args.thread c.args.on c.enter_again.result c.args.list.now c.args.place c.item_mut.result.now c.enter_again.new.monitor c.requires.is c.item_mut.ensures.item c.enter_again.ensures.is

pub returns-clause-keys : goal.returns-clause-keys
returns-clause-keys c = keys_set c.args.list.now c.args.place c.item_mut.result.now c.enter_again.new.monitor c.item_mut.ensures.item c.enter_again.ensures.on
