use Rattle.std.proofs.Common.{◌∙◌, ap, sym}
use Rattle.std.specs.Prelude.{nat_lt}
use Rattle.bytecode_model.specs.ByName.{noted}
use Rattle.bytecode_model.specs.Conditions.{runs_in_circle}
use Rattle.class_linking.proofs.Leaving.{circle_is}
use Rattle.class_linking.proofs.heights.Heads.runs_in_circle.Goals as goal

pub returns-in-Some : goal.returns-in-Some
returns-in-Some c =
    let height = c.in-Some.height in
    let leaves = c.self.invariant c.args.name.now height (ap (noted c.self.inside.heights) (sym c.as_slice.ensures) ∙ sym c.in-Some.ensures) in
    ap (λ n. nat_lt n height) c.len.ensures ∙ circle_is c.self.inside.classes c.args.name.now height leaves ∙ ap (λ hs. runs_in_circle hs c.args.name.now) c.self.view_is
