use Rattle.std.proofs.Common.{Some, sym, ap, ◌∙◌}
use Rattle.std.specs.Prelude.{slice_index}
use Rattle.offset_patch.specs.Lines.{Positions, moved_in}
use Rattle.offset_patch.proofs.Lining.{move_found, move_none}
use Rattle.offset_patch.proofs.moves.Moves.at.Goals as goal

pub returns-in-Ok : goal.returns-in-Ok
returns-in-Ok c =
    let own = c.self.inside in
    ap Some (c.start.ensures ∙ ap (slice_index own.news.now) c.front.ensures)
    ∙ sym (move_found own.olds.now own.fronts.now own.news.now c.args.old c.in-Ok.index c.self.invariant.1 c.in-Ok.ensures.position)
    ∙ ap (λ (p : Positions). moved_in p c.args.old) c.self.view_is

pub returns-in-Err : goal.returns-in-Err
returns-in-Err c =
    let own = c.self.inside in
    sym (move_none own.olds.now own.fronts.now own.news.now c.args.old c.in-Err.field-0 c.self.invariant.1 c.in-Err.ensures.position)
    ∙ ap (λ (p : Positions). moved_in p c.args.old) c.self.view_is
