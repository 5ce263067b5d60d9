use Rattle.std.proofs.Common.{sym, ◌∙◌}
use Rattle.offset_patch.specs.Lines.{moved_in, lines_moved}
use Rattle.offset_patch.proofs.Lists.{first_is, none_left}
use Rattle.offset_patch.proofs.Lining.{moved_step, moved_none, moved_done}
use Rattle.offset_patch.proofs.lines.lines_moved.Goals as goal

pub returns-in_default-line_moved : goal.returns-in_default-line_moved
returns-in_default-line_moved c =
    let split = first_is c.loop-left.left.now _ c.in-len1-up.len_at_least in
    moved_none (moved_in c.args.moves.now) c.loop-left.made c.loop-left.left.now _ _ (lines_moved (moved_in c.args.moves.now) c.args.lines.now) split
    (sym c.in_default-line_moved.is ∙ c.line_moved.ensures) c.loop-left.invariant

pub loop-left-preserved : goal.loop-left-preserved
loop-left-preserved c =
    let split = first_is c.loop-left.left.now _ c.in-len1-up.len_at_least in
    moved_step (moved_in c.args.moves.now) c.loop-left.made c.push.new.self c.loop-left.left.now _ _ c.in-Some.line (lines_moved (moved_in c.args.moves.now) c.args.lines.now) split
    (sym c.in-Some.is ∙ c.line_moved.ensures) c.in_ok-push.ensures.ok c.loop-left.invariant

pub returns : goal.returns
returns c =
    moved_done (moved_in c.args.moves.now) c.loop-left.made c.loop-left.left.now (lines_moved (moved_in c.args.moves.now) c.args.lines.now) (none_left c.loop-left.left.now c.in_default.len_below)
    c.loop-left.invariant
