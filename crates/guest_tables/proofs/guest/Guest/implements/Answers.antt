use Rattle.std.proofs.Common.{sym}
use Rattle.guest_tables.proofs.Searching.{none_implements}
use Rattle.guest_tables.proofs.guest.Guest.implements.Goals as goal

pub returns-in-None : goal.returns-in-None
returns-in-None c = none_implements c.args.self.now c.args.name.now c.args.other.now (sym c.in-None.ensures)
