use Rattle.std.proofs.Common.{None, sym, ◌∙◌}
use Rattle.event_record.proofs.Cutting.{first_piece, is_split}
use Rattle.event_record.proofs.words.split_once.Goals as goal

pub returns-in_default : goal.returns-in_default
returns-in_default c = is_split c.args.byte c.args.text.now None (sym c.in_default.is ∙ c.place_of.ensures.first)

pub returns : goal.returns
returns c = first_piece c.args.byte c.args.text.now c.in-Some.place c.in-Some.ensures.first
