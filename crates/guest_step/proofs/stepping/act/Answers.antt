use Rattle.std.proofs.Common.{Bool, ap, cond, ◌∙◌}
use Rattle.guest_step.specs.Turns.{doing_this}
use Rattle.guest_step.proofs.Apart.{acts_as}
use Rattle.guest_step.proofs.stepping.act.Goals as goal

pub returns : goal.returns
returns c =
    acts_as c.args.guest.now c.args.machine.now c.act_as-made.new.machine c.args.number c.args.thread.now (doing_this c.args.thread.now c.replace-doing.new.dest)
    c.act_as-made.new.thread c.give_back.new.thread c.replace-doing.result c.args.choice.now c.act_as-made.result
    (ap (doing_this c.args.thread.now) c.replace-doing.ensures.after) c.replace-doing.ensures.value c.act_as-made.ensures
    (c.give_back.ensures ∙ ap (λ (b : Bool). cond b (doing_this c.act_as-made.new.thread c.replace-doing.result) c.act_as-made.new.thread) c.is_err.ensures.value)
