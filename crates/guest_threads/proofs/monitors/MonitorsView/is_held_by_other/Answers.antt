use Rattle.std.proofs.Common.{◌≡◌, ◌∙◌}
use Rattle.guest_threads.proofs.Held.{held_none, held_some}
use Rattle.guest_threads.proofs.monitors.MonitorsView.is_held_by_other.Goals as goal

pub returns-in-None : goal.returns-in-None
returns-in-None c = held_none c.args.self.now c.args.thread c.args.on c.in-None.ensures.is

pub returns-in-Some : goal.returns-in-Some
returns-in-Some c =
    let all : c.as_slice.result.now ≡ c.args.self.now = c.as_slice.ensures ∙ c.self.view_is in
    rw all (held_some c.args.self.now c.args.thread c.args.on c.in-Some.place _ c.in-Some.ensures.is)
