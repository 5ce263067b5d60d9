use Rattle.std.proofs.Common.{◌≡◌, rules}
use Rattle.std.specs.Prelude.{option_copied}
use Rattle.guest_model.specs.Places.{method_at}
use Rattle.guest_threads.proofs.Methods.{class_few}
use Rattle.guest_threads.proofs.frames.method_of.Goals as goal

pub returns-clause-few : goal.returns-clause-few
returns-clause-few c =
    let is : option_copied c.method_at.result ≡ method_at c.args.program.now c.args.class c.args.index = grind rules in
    class_few c.args.program.now c.requires c.args.class c.args.index (option_copied c.method_at.result) is
