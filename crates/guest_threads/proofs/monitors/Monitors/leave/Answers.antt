use Rattle.std.proofs.Common.{◌≡◌, ◌∙◌, None, refl, sym, ap}
use Rattle.std.specs.List.{position_from}
use Rattle.guest_heap.specs.declared.object.Monitor.{Monitor}
use Rattle.guest_frames.specs.Values.{are_one}
use Rattle.guest_threads.proofs.Held.{left_none}
use Rattle.guest_threads.proofs.monitors.Monitors.leave.Goals as goal

pub returns-in_default : goal.returns-in_default
returns-in_default c =
    let none : None ≡ position_from (λ (m : Monitor). are_one m.on c.args.on) 0 c.args.self.now =
    sym c.in_default.is ∙ c.place_of.ensures.is ∙ ap (position_from (λ (m : Monitor). are_one m.on c.args.on) 0) c.self.view_is in
    (left_none c.args.thread c.args.on c.args.self.now none, refl)
