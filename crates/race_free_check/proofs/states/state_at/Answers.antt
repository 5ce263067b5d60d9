use Rattle.std.proofs.Common.{length, ap, sym, ◌∙◌, arith}
use Rattle.std.proofs.lemmas.List.{length-append, length-map}
use Rattle.conspec_automaton.specs.Points.{held, state_of}
use Rattle.race_free_check.specs.Choosing.{chosen}
use Rattle.race_free_check.proofs.Numbered.{chosen_length}
use Rattle.race_free_check.proofs.states.state_at.Goals as goal

pub push-requires : goal.push-requires
push-requires c =
    let made = length-map (chosen c.args.lists.now c.args.number) held ∙ chosen_length c.args.lists.now c.args.number in
    let all = sym (length-append c.loop-value.state (state_of c.loop-value.choice)) ∙ ap length c.loop-value.invariant ∙ made in
    let left = length-map c.loop-value.choice held in
    let some = ap length c.in-Some.ensures in
    let few = c.requires.few in
    omega arith
