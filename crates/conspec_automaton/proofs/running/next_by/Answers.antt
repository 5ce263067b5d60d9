use Rattle.std.proofs.Common.{List, sym, ap, subst, ◌∙◌}
use Rattle.std.specs.Prelude.{find}
use Rattle.conspec_tree.specs.declared.types.Update.{Update}
use Rattle.conspec_automaton.specs.declared.policy.Branch.{Branch}
use Rattle.conspec_automaton.specs.Next.{is_taken, moment}
use Rattle.conspec_automaton.specs.Range.{MayUpdate}
use Rattle.conspec_automaton.proofs.Ranges.{found_may}
use Rattle.conspec_automaton.proofs.running.next_by.Goals as goal

pub update-requires-clause-room : goal.update-requires-clause-room
update-requires-clause-room c =
    let policy = c.args.policy.now in
    let found = ap (λ (branches : List Branch). find (is_taken (moment c.args.state.now c.args.event.now)) branches) (sym c.as_slice.ensures) ∙ sym c.in-Some.ensures in
    subst (λ (us : List Update). MayUpdate policy.vars policy.maxint (moment c.args.state.now c.args.event.now) us) (sym c.as_slice-in-Some.ensures)
    (found_may policy c.args.clause.now c.args.state.now c.args.event.now c.in-Some.branch.now c.requires.policy c.requires.clause c.requires.ranged found)
