use Rattle.std.proofs.Common.{◌∙◌, List, ℤ, ap}
use Rattle.std.specs.Int.{w32}
use Rattle.std.specs.Prelude.{slice_set}
use Rattle.std.proofs.lemmas.Int.{to_z-of_z}
use Rattle.conspec_automaton.proofs.Ranges.{take_set}
use Rattle.conspec_automaton.proofs.state.State.set.Goals as goal

pub returns : goal.returns
returns c =
    let value = to_z-of_z w32 c.args.value c.ranges.value in
    rw value (take_set c.self.inside.count c.self.inside.values c.args.var c.args.value ∙ ap (λ (xs : List ℤ). slice_set xs c.args.var c.args.value) c.self.view_is)
