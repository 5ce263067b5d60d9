use Rattle.std.proofs.Common.{sym}
use Rattle.class_linking.proofs.NothingLeft.{nothing_left_by}
use Rattle.class_linking.proofs.left_methods.left_by.Goals as goal

pub returns-then-not-may_ask : goal.returns-then-not-may_ask
returns-then-not-may_ask c =
    sym (nothing_left_by c.args.index.now.files c.args.index.now.listing c.args.owners.now c.args.supers.now c.args.name.now c.requires
    (c.may_ask.ensures c.if-not-may_ask.true))
