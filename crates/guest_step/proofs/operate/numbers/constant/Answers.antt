use Rattle.std.proofs.Common.{◌∷◌, Ok}
use Rattle.std.specs.Option.{option_map}
use Rattle.guest_heap.specs.declared.value.Value.{Value}
use Rattle.guest_model.specs.Parts.{constant_value}
use Rattle.guest_model.specs.Changes.{World}
use Rattle.guest_operations.specs.Operates.{at, comes, with_monitors}
use Rattle.guest_operations.proofs.Operates.{operates_same}
use Rattle.guest_step.proofs.operate.numbers.constant.Goals as goal

pub returns : goal.returns
returns c heap statics =
    let items = c.args.stack.now.items in
    operates_same c.replace.result (at heap statics c.args.stack.now) (at heap statics c.replace.new.stack)
    (λ (world : World). comes world items c.constant_named-came.result) (λ (world : World). option_map (λ (v : Value). Ok (world, v ∷ items)) (constant_value c.args.guest.now c.args.target.now))
    (λ monitors. c.constant_named-came.ensures (with_monitors (at heap statics c.args.stack.now) monitors) items) (c.replace.ensures heap statics)
