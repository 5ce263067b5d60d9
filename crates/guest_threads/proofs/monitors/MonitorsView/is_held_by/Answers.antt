use Rattle.std.proofs.Common.{◌≡◌, ◌∙◌}
use Rattle.guest_threads.proofs.Held.{holds_none, holds_some}
use Rattle.guest_threads.proofs.monitors.MonitorsView.is_held_by.Goals as goal

pub returns-in-None : goal.returns-in-None
returns-in-None c = holds_none c.args.thread c.args.on c.args.self.now c.in-None.ensures.is

pub returns-in-Some : goal.returns-in-Some
returns-in-Some c =
    let all : c.as_slice.result.now ≡ c.args.self.now = c.as_slice.ensures ∙ c.self.view_is in
    rw all (holds_some c.args.thread c.args.on c.args.self.now c.in-Some.place _ c.in-Some.ensures.is)
