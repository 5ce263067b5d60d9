use Rattle.std.proofs.Common.{◌∙◌, Some, sym, ap}
use Rattle.guest_threads.proofs.Held.{entered_none}
use Rattle.guest_threads.proofs.Keys.{if_new}
use Rattle.guest_threads.proofs.monitors.enter_first.Goals as goal

pub note_last-noted-requires : goal.note_last-noted-requires
note_last-noted-requires c = if_new c.args.on c.args.list.now c.args.places.now c.key_of.result c.key_of.ensures c.requires.none c.requires.noted

pub returns-clause-is : goal.returns-clause-is
returns-clause-is c = entered_none c.args.thread c.args.on c.args.list.now c.requires.none ∙ ap Some (sym c.in_ok-push.ensures.ok)
